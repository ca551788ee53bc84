-- The text of a trace is no longer than a trace file may be.
use Rattle.std.proofs.Common.{ℕ, ◌+◌, ◌*◌, ◌<◌, ◌≤◌, ◌^◌, List, [], ◌∷◌, length, length-append, arith, ap}
use Rattle.std.specs.List.{AllByRecursion}
use Rattle.dvs_base.specs.Parts.{name_of}
use Rattle.dvs_base.specs.declared.kind.Version.{Version}
use Rattle.dvs_base.specs.declared.kind.Version.TheVariants.{One, Two}
use Rattle.dvs_base.specs.declared.limits.TheConstants.{LONGEST_LINE, LONGEST_TRACE, NAME_BYTES}
use Rattle.dvs_base.specs.declared.note.Note.{Note}
use Rattle.dvs_base.proofs.Decimals.{length-decimal_u128}
use Rattle.trace_text.specs.TraceLines.{line, note_text, plan_fields, plan_text}
use Rattle.dvs_base.proofs.Lists.{each-append}
use Rattle.trace_reader.specs.declared.line.Item.TheVariants.{Told}
use Rattle.trace_text.specs.TraceText.{NotedLine, for_tasks, note_lines, trace_lines, text_of_lines, version_line, share_text, task_energy}
use Rattle.trace_reader.specs.Traces.{TraceView, IsNoteOf, IsTrace, text_of}
use Rattle.trace_text.proofs.Lined.{line-spaced}
use Rattle.trace_reader.proofs.LineTexts.{AreNames, lengths, length-spaced, length-name_of, lengths-item}
use Rattle.trace_reader.proofs.WholeText.{each-for, each-share, each-noted, length-lines}
use Rattle.trace_reader.proofs.NoteTexts.{note-line}
use Rattle.trace_reader.proofs.HeadTexts.{AreLines, scheduler-short, governor-short}
use Rattle.trace_reader.proofs.UnspacedFields.{length-decimal}

-- a line with its line feed is as short as it may be
abbrev IsShort : List ℕ → Type 0
IsShort text = length text ≤ LONGEST_LINE + 1

fields-short : (fields : List (List ℕ)) → lengths fields ≤ LONGEST_LINE → IsShort (line fields)
fields-short fields low = rw (line-spaced fields) (simp length-append (omega (arith, low, length-spaced fields)))

note-short : (v : Version) (names : List (List ℕ)) → AreNames names → (n : Note) → IsNoteOf (length names) n → IsShort (note_text names n)
note-short v names named n h = rw (note-line names n) (fields-short _ (lengths-item v (length names) names (Told n) named h))

notes-short : (names : List (List ℕ)) → AreNames names → (notes : List Note) → AllByRecursion (IsNoteOf (length names)) notes
    → AllByRecursion (λ n. IsShort (note_text names n)) notes
notes-short names named [] each = tt
notes-short names named (n ∷ notes) each = (note-short One names named n each.0, notes-short names named notes each.1)

share-short : (name : List ℕ) (energy : ℕ) → length name ≤ NAME_BYTES → energy < 2 ^ 128 → IsShort (share_text name energy)
share-short name energy named low = simp length-append (omega (arith, named, length-decimal_u128 energy low))

version-short : (v : Version) → IsShort (version_line v)
version-short One = omega arith
version-short Two = omega arith

-- texts that are each one line are short
lines-short : (texts : List (List ℕ)) → AreLines texts → AllByRecursion IsShort texts
lines-short [] each = tt
lines-short (text ∷ texts) each =
    (omega (arith, ap length each.0.ended, length-append each.0.body (10 ∷ []), each.0.short), lines-short texts each.1)

-- the text of lines that are each short
length-text : (ls : List NotedLine) → AllByRecursion (λ l. IsShort l.text) ls → length (text_of_lines ls) ≤ (LONGEST_LINE + 1) * length ls
length-text [] each = omega arith
length-text (l ∷ ls) each = omega (arith, length-append l.text (text_of_lines ls), each.0, length-text ls each.1)

-- a trace's text
pub text-short : (names tasks : List (List ℕ)) (t : TraceView) → AreNames names → AreLines tasks → IsTrace names tasks t
    → length (text_of names tasks t) ≤ LONGEST_TRACE
text-short names tasks t named lined h =
    omega (
      arith,
      length-text (trace_lines t.version t.plan.scheduler t.plan.governor t.plan.ticks names tasks t.notes)
          (version-short t.version, (plan, each-append (λ l. IsShort l.text) (for_tasks t.version tasks) (note_lines t.version names t.notes) for notes)),
      length-lines t.version t.plan.scheduler t.plan.governor t.plan.ticks names tasks t.notes h.ended,
      h.lines,
    )
  where
    plan : IsShort (plan_text t.plan.scheduler t.plan.governor t.plan.ticks)
    plan =
        fields-short (plan_fields t.plan.scheduler t.plan.governor t.plan.ticks)
        (omega (arith, scheduler-short t.plan.scheduler, governor-short t.plan.governor, length-decimal t.plan.ticks))

    for : AllByRecursion (λ l. IsShort l.text) (for_tasks t.version tasks)
    for = each-for IsShort t.version tasks (λ _. lines-short tasks lined)

    notes : AllByRecursion (λ l. IsShort l.text) (note_lines t.version names t.notes)
    notes =
        each-noted IsShort t.version names t.notes t.notes
        (λ has. each-share IsShort t.notes names
        (λ i lt. share-short (name_of names i) (task_energy t.notes i) (length-name_of names i named) (h.shares has i lt)))
        (notes-short names named t.notes h.each)
