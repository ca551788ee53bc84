-- A text that is read is that of its trace, the text of any trace is read, and no text is the beginning of another.
use Rattle.std.proofs.lemmas.Bool.Decides.{nat_tests}
use Rattle.std.proofs.Common.{◌≡◌, ℕ, ◌+◌, ◌^◌, ◌<◌, ◌≤◌, Bool, true, false, List, [], ◌∷◌, ◌++◌, length, Result, Ok, Err, refl, sym, ap, ap₂, subst, ◌∙◌, append_assoc, length-append, arith, if◌then◌else◌}
use Rattle.std.specs.Prelude.{IfOk}
use Rattle.std.specs.List.{AllByRecursion, join_with_byte}
use Rattle.std.proofs.lemmas.List.{append-nil}
use Rattle.std.proofs.lemmas.List.Splits.{join_with_byte-slice_split}
use Rattle.dvs_base.specs.Checks.{IsUnlessMemory, ◌>>=◌}
use Rattle.dvs_base.specs.Parts.{joined}
use Rattle.trace_text.specs.TraceLines.{plan_text}
use Rattle.trace_text.specs.TraceText.{version_line, task_energy, has_task_lines, note_lines, text_of_lines}
use Rattle.dvs_base.specs.declared.note.Note.{Note}
use Rattle.dvs_base.specs.declared.kind.Version.{Version}
use Rattle.dvs_base.specs.declared.kind.Version.TheVariants.{One, Two}
use Rattle.dvs_base.specs.declared.limits.TheConstants.{MOST_LINES}
use Rattle.trace_text.specs.declared.write.PlanLine.{PlanLine}
use Rattle.trace_reader.specs.declared.trace.TraceFault.{TraceFault}
use Rattle.trace_reader.specs.declared.trace.TraceFault.TheVariants.{Refused, NoMemory}
use Rattle.trace_reader.specs.declared.trace.TraceKind.TheVariants as kind
use Rattle.trace_reader.specs.Fields.{parts}
use Rattle.trace_reader.specs.Heads.{line_at, version_in, plan_line_of, parts_after_tasks, version_task_lines}
use Rattle.trace_reader.specs.TraceFile.{nothing_yet, energy_line_count, is_nothing, notes_from, trace_file}
use Rattle.trace_reader.specs.Traces.{TraceView, text_of, IsNoteOf, is_end, IsEnded, HasShares, lines_for_tasks, IsTrace, IsTextOf, HaveOneText}
use Rattle.trace_reader.proofs.ReaderSteps.{is_nothing-some}
use Rattle.trace_reader.proofs.WholeText.{lines-wanted, text-parts}
use Rattle.trace_reader.proofs.FieldTexts.{AreApart, if-made}
use Rattle.dvs_base.proofs.Checks.{step-ok, ok-is}
use Rattle.trace_reader.proofs.LineTexts.{AreNames, line_at-found, join-line}
use Rattle.trace_reader.proofs.ShareTexts.{rest_text, energy-end, HaveNoEnd, told-notes}
use Rattle.trace_reader.proofs.NoteTexts.{Reads, wanted-some, notes_from-found, answer, notes_from-text, at_line-ok}
use Rattle.trace_reader.proofs.HeadTexts.{IsUpTo, version-found, version-text, version-line, version-read, IsPlan, plan-found, plan-text, AreLines, TasksRead, tasks-found, tasks-text}

-- the notes as those before the last, and the last, the only one that ends the run
record EndsWith (notes : List Note) : Type 0 where
  body : List Note
  last : Note
  whole : notes ≡ body ++ last ∷ []
  no_end : HaveNoEnd body
  end : is_end last ≡ true

ends-with : (notes : List Note) → IsEnded notes → EndsWith notes
ends-with [] h = absurd h
ends-with (n ∷ []) h = record { body = []; last = n; whole = refl; no_end = tt; end = h }
ends-with (n ∷ m ∷ notes) h =
    let more = ends-with (m ∷ notes) h.1 in
    record { body = n ∷ more.body; last = more.last; whole = ap (λ ns. n ∷ ns) more.whole; no_end = (h.0, more.no_end); end = more.end }

pub is-ended : (body : List Note) (last : Note) → HaveNoEnd body → is_end last ≡ true → IsEnded (body ++ last ∷ [])
is-ended [] last h end = end
is-ended (n ∷ []) last h end = (h.0, end)
is-ended (n ∷ m ∷ body) last h end = (h.0, is-ended (m ∷ body) last h.1 end)

-- if the energies of the tasks are below 2^128 before the last note, they are with it
shares-found : (v : Version) (names : List (List ℕ)) (body : List Note) (last : Note) → is_end last ≡ true
    → ((i : ℕ) → i < energy_line_count v names → task_energy body i < 2 ^ 128) → HasShares v (length names) (body ++ last ∷ [])
shares-found v names body last end h has i lt =
    let all : energy_line_count v names ≡ length names = ap (λ (b : Bool). if b then length names else 0) has in
    let same = energy-end body last i end in
    omega (arith, h i (omega arith), same)

shares-wide : (v : Version) (names : List (List ℕ)) (body : List Note) (last : Note) → is_end last ≡ true
    → HasShares v (length names) (body ++ last ∷ []) → (i : ℕ) → i < energy_line_count v names → task_energy body i < 2 ^ 128
shares-wide v names body last end h i lt =
    let some = wanted-some (has_task_lines v) i (length names) lt in
    let same = energy-end body last i end in
    omega (arith, h some.0 i some.1, same)

length-last : (body : List Note) (last : Note) → length (body ++ last ∷ []) ≡ length body + 1
length-last body last = omega (arith, length-append body (last ∷ []))

-- what reading a text as a trace gives: the trace has a text, the bytes are it, and its version is read
pub record IsFound (newest : Version) (names tasks : List (List ℕ)) (bytes : List ℕ) (t : TraceView) : Type 0 where
  pub trace : IsTrace names tasks t
  pub text : bytes ≡ text_of names tasks t
  pub version : IsUpTo newest t.version

found-whole : (newest : Version) (names tasks : List (List ℕ)) (bytes : List ℕ) (v : Version) (plan : PlanLine) (ps : List (List ℕ))
    (p : ℕ × List (List ℕ)) (notes : List Note)
    → IsUpTo newest v → IsPlan plan → bytes ≡ version_line v ++ (plan_text plan.scheduler plan.governor plan.ticks ++ join_with_byte 10 ps)
    → TasksRead 3 (version_task_lines v tasks) ps p → Reads v names p.0 nothing_yet p.1 notes
    → IsFound newest names tasks bytes (record { version = v; plan = plan; notes = notes })
found-whole newest names tasks bytes v plan ps p notes up_to is_plan head tasks_read reads =
    let all : List Note = reads.body ++ reads.last ∷ [] in
    let made : TraceView = record { version = v; plan = plan; notes = all } in
    let told : join_with_byte 10 p.1 ≡ text_of_lines (note_lines v names all) = reads.text
    ∙ sym (told-notes v names reads.body reads.last reads.no_end reads.end) in
    let text : bytes ≡ text_of names tasks made =
    head ∙ (ap (λ t. version_line v ++ (plan_text plan.scheduler plan.governor plan.ticks ++ t))
    (tasks_read.text ∙ ap (λ t. joined (version_task_lines v tasks) ++ t) told)
    ∙ sym (text-parts v plan names tasks all)) in
    let trace : IsTrace names tasks made = record {
      pair = is_plan.pair;
      some_ticks = is_plan.some;
      low_ticks = is_plan.low;
      each = reads.each;
      ended = is-ended reads.body reads.last reads.no_end reads.end;
      shares = shares-found v names reads.body reads.last reads.end (λ i lt. reads.widths i (omega arith) lt);
      lines = omega (arith, reads.lines, tasks_read.next, lines-wanted v names tasks, length-last reads.body reads.last);
    } in
    let found : IsFound newest names tasks bytes made = record { trace = trace; text = text; version = up_to } in
    subst (λ (ns : List Note). IsFound newest names tasks bytes (record { version = v; plan = plan; notes = ns })) (sym reads.whole) found

-- the text from line n on is that line, its line feed and the text after it
line-text : (n : ℕ) (ps : List (List ℕ)) (p : List ℕ × List (List ℕ)) → line_at n ps ≡ Ok p → join_with_byte 10 ps ≡ (p.0 ++ 10 ∷ []) ++ join_with_byte 10 p.1
line-text n ps p e = grind (arith, nat_tests, append_assoc, join-line, line_at-found)

pub trace_file-found : (newest : Version) (names tasks : List (List ℕ)) (bytes : List ℕ) (t : TraceView)
    → trace_file newest names tasks bytes ≡ Ok t → IsFound newest names tasks bytes t
unfolding trace_file
trace_file-found newest names tasks bytes t e =
    let a = step-ok _ _ t e in
    let b = step-ok _ _ t a.2 in
    let c = step-ok _ _ t b.2 in
    let d = step-ok _ _ t c.2 in
    let f = step-ok _ _ t d.2 in
    let g = step-ok _ _ t f.2 in
    let version = version-found newest b.0 a.0.0 (at_line-ok 1 (version_in newest a.0.0) b.0 b.1) in
    let plan = plan-found c.0.0 d.0 (at_line-ok 2 (plan_line_of (parts 32 c.0.0)) d.0 d.1) in
    let first : a.0.0 ++ 10 ∷ [] ≡ version_line b.0 = ap (λ l. l ++ 10 ∷ []) version.0 ∙ sym (version-line b.0) in
    let head : bytes ≡ version_line b.0 ++ (plan_text d.0.scheduler d.0.governor d.0.ticks ++ join_with_byte 10 c.0.1) =
    sym (join_with_byte-slice_split 10 bytes)
    ∙ (line-text 1 (parts 10 bytes) a.0 a.1
    ∙ ap₂ (λ l r. l ++ r) first (line-text 2 a.0.1 c.0 c.1 ∙ ap (λ l. l ++ join_with_byte 10 c.0.1) plan.0)) in
    let made : TraceView = record { version = b.0; plan = d.0; notes = g.0 } in
    subst (λ (r : TraceView). IsFound newest names tasks bytes r) (ok-is {F = TraceFault} made t g.2)
    (found-whole newest names tasks bytes b.0 d.0 c.0.1 f.0 g.0 version.1 plan.1 head
    (tasks-found 3 (version_task_lines b.0 tasks) c.0.1 f.0 f.1) (notes_from-found b.0 names f.0.0 nothing_yet f.0.1 g.0 g.1))

-- the reader's answer for the text of a trace with the bytes `more` after it
abbrev pub whole_answer : List (List ℕ) → List (List ℕ) → TraceView → List ℕ → Result TraceView TraceFault
whole_answer names tasks t more =
    if is_nothing (parts 10 more) then Ok t else Err (Refused (3 + lines_for_tasks t.version (length names) (length tasks) + length t.notes) kind.AfterEnd)

abbrev traced : Version → PlanLine → List Note → TraceView
traced v plan notes = record { version = v; plan = plan; notes = notes }

abbrev finished : Version → PlanLine → Result (List Note) TraceFault → Result TraceView TraceFault
finished v plan r = r >>= λ notes. Ok (traced v plan notes)

answer-then : (b : Bool) (v : Version) (plan : PlanLine) (notes : List Note) (fault : TraceFault)
    → finished v plan (if b then Ok notes else Err fault) ≡ (if b then Ok (traced v plan notes) else Err fault)
answer-then true v plan notes fault = refl
answer-then false v plan notes fault = refl

pub trace_file-text : (newest : Version) (names tasks : List (List ℕ)) (t : TraceView) (more : List ℕ) → AreNames names → AreApart names
    → AreLines (version_task_lines t.version tasks) → IsUpTo newest t.version → IsTrace names tasks t
    → trace_file newest names tasks (text_of names tasks t ++ more) ≡ whole_answer names tasks t more
unfolding trace_file
trace_file-text newest names tasks t more named apart lines up_to h =
    let v : Version = t.version in
    let n : ℕ = 3 + length (version_task_lines v tasks) in
    let ends = ends-with t.notes h.ended in
    let all : List Note = ends.body ++ ends.last ∷ [] in
    let told : text_of_lines (note_lines v names t.notes) ≡ rest_text v names 0 [] ends.body ends.last =
    ap (λ ns. text_of_lines (note_lines v names ns)) ends.whole ∙ told-notes v names ends.body ends.last ends.no_end ends.end in
    let last : List ℕ = rest_text v names 0 [] ends.body ends.last ++ more in
    let third : List ℕ = joined (version_task_lines v tasks) ++ last in
    let plan_line : List ℕ = plan_text t.plan.scheduler t.plan.governor t.plan.ticks in
    let whole : text_of names tasks t ++ more ≡ version_line v ++ (plan_line ++ third) =
    ap (λ x. x ++ more) (text-parts v t.plan names tasks t.notes ∙ ap (λ x. version_line v ++ (plan_line ++ (joined (version_task_lines v tasks) ++ x))) told)
    ∙ (append_assoc (version_line v) (plan_line ++ (joined (version_task_lines v tasks) ++ rest_text v names 0 [] ends.body ends.last)) more
    ∙ ap (λ x. version_line v ++ x) (append_assoc plan_line (joined (version_task_lines v tasks) ++ rest_text v names 0 [] ends.body ends.last) more
    ∙ ap (λ x. plan_line ++ x) (append_assoc (joined (version_task_lines v tasks)) (rest_text v names 0 [] ends.body ends.last) more))) in
    let plan = plan-text t.plan third (record { pair = h.pair; some = h.some_ticks; low = h.low_ticks }) in
    let counted : length t.notes ≡ length ends.body + 1 = ap length ends.whole ∙ length-last ends.body ends.last in
    let size = lines-wanted v names tasks in
    let few : n + (length ends.body + energy_line_count v names) ≤ MOST_LINES = omega (arith, h.lines, size, counted) in
    let read_tasks : parts_after_tasks 3 (version_task_lines v tasks) (parts 10 third) ≡ Ok (n, parts 10 last) =
    tasks-text 3 (version_task_lines v tasks) last lines (omega arith) in
    let read_notes : notes_from v names n nothing_yet (parts 10 last) ≡ answer (n + (length ends.body + energy_line_count v names) + 1) all more =
    notes_from-text v names named apart n nothing_yet ends.body ends.last more refl ends.no_end ends.end
    (subst (λ ns. AllByRecursion (IsNoteOf (length names)) ns) ends.whole h.each)
    (shares-wide v names ends.body ends.last ends.end (subst (λ ns. HasShares v (length names) ns) ends.whole h.shares)) few in
    let place : n + (length ends.body + energy_line_count v names) + 1 ≡ 3 + lines_for_tasks v (length names) (length tasks) + length t.notes =
    omega (arith, size, counted) in
    let notes : notes_from v names n nothing_yet (parts 10 last) ≡ answer (3 + lines_for_tasks v (length names) (length tasks) + length t.notes) t.notes more =
    read_notes ∙ ap₂ (λ m ns. answer m ns more) place (sym ends.whole) in
    ap (trace_file newest names tasks) whole
    ∙ rw (version-read v (plan_line ++ third), version-text newest v up_to, plan.line_read, plan.plan_read, read_tasks, notes)
    (answer-then (is_nothing (parts 10 more)) v t.plan t.notes (Refused (3 + lines_for_tasks v (length names) (length tasks) + length t.notes) kind.AfterEnd))

pub version-lines : (v : Version) (tasks : List (List ℕ)) → AreLines tasks → AreLines (version_task_lines v tasks)
version-lines One tasks h = tt
version-lines Two tasks h = h

nothing-more : (more : List ℕ) → is_nothing (parts 10 more) ≡ true → more ≡ []
nothing-more [] e = refl
nothing-more (b ∷ more) e = let some = is_nothing-some (b ∷ more) (omega arith) in absurd (cc)

-- each trace has one text, and no text is the beginning of another trace's text
pub one-text : (names tasks : List (List ℕ)) → AreNames names → AreApart names → AreLines tasks → HaveOneText names tasks
one-text names tasks named apart lines t u more h k e =
    let first = trace_file-text Two names tasks t more named apart (version-lines t.version tasks lines) tt h in
    let second = trace_file-text Two names tasks u [] named apart (version-lines u.version tasks lines) tt k in
    let same : whole_answer names tasks t more ≡ Ok u = sym first ∙ (ap (trace_file Two names tasks) (e ∙ sym (append-nil (text_of names tasks u))) ∙ second) in
    let found = if-made (is_nothing (parts 10 more)) t u
    (Refused (3 + lines_for_tasks t.version (length names) (length tasks) + length t.notes) kind.AfterEnd) same in
    (found.1, nothing-more more found.0)

-- a text that is read is that of the trace returned, whose version is not above the newest
pub reads-found : (newest : Version) (names tasks : List (List ℕ)) (bytes : List ℕ) (t : TraceView)
    → trace_file newest names tasks bytes ≡ Ok t → IsTextOf names tasks bytes t × IsUpTo newest t.version
reads-found newest names tasks bytes t e = let found = trace_file-found newest names tasks bytes t e in ((found.trace, found.text), found.version)

pub reads-only : (newest : Version) (names tasks : List (List ℕ)) (bytes : List ℕ) (t : TraceView) → AreNames names → AreApart names
    → AreLines (version_task_lines t.version tasks) → IsUpTo newest t.version
    → IsTextOf names tasks bytes t → trace_file newest names tasks bytes ≡ Ok t
reads-only newest names tasks bytes t named apart lines up_to h =
    ap (trace_file newest names tasks) (h.1 ∙ sym (append-nil (text_of names tasks t))) ∙ trace_file-text newest names tasks t [] named apart lines up_to h.0

pub clause-found : (r meaning : Result TraceView TraceFault) (P : TraceView → Type 0) → IsUnlessMemory NoMemory (λ t. t) r meaning
    → ((t : TraceView) → meaning ≡ Ok t → P t) → IfOk r P
clause-found (Ok t) meaning P h p = p t h
clause-found (Err e) meaning P h p = tt
