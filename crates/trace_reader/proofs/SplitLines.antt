-- The text of a trace is split into the lines that it was made of.
use Rattle.std.proofs.lemmas.Bool.Decides.{nat_tests}
use Rattle.std.proofs.Common.{arith}
use Rattle.std.proofs.Common.{◌≡◌, ℕ, List, [], ◌∷◌, map, refl, codes}
use Rattle.std.specs.Prelude.{decimal}
use Rattle.std.specs.List.{AllByRecursion}
use Rattle.dvs_base.specs.Parts.{name_of}
use Rattle.dvs_base.specs.declared.kind.Version.{Version}
use Rattle.dvs_base.specs.declared.kind.Version.TheVariants.{One, Two}
use Rattle.dvs_base.specs.declared.kind.Scheduler.{Scheduler}
use Rattle.dvs_base.specs.declared.kind.GovernorKind.{GovernorKind}
use Rattle.dvs_base.specs.declared.note.Note.{Note}
use Rattle.trace_text.specs.TraceLines.{line, fields_of, note_text, plan_fields, lines_of}
use Rattle.dvs_base.proofs.Lists.{each-append}
use Rattle.trace_text.proofs.Unspaced.{AreUnspaced, unspaced-decimal, lines-line}
use Rattle.trace_text.proofs.NoteLines.{unspaced-word, unspaced-scheduler, unspaced-governor, note-fields, unspaced-fields}
use Rattle.trace_text.specs.TraceText.{NotedLine, for_tasks, note_lines, trace_lines, text_of_lines, version_line, share_text, task_text, task_energy}
use Rattle.trace_reader.proofs.WholeText.{each-for, each-share, each-noted}

-- a line of unspaced fields
abbrev pub IsLine : List ℕ → Type 0
IsLine l = (fields : List (List ℕ)) × (l ≡ line fields) × AllByRecursion AreUnspaced fields

-- the lines of a text that is given by its lines, each of unspaced fields
pub lines-text : (ls : List NotedLine) → AllByRecursion (λ l. IsLine l.text) ls → lines_of (text_of_lines ls) ≡ map (λ l. l.text) ls
lines-text [] h = refl
lines-text (l ∷ ls) h = grind (arith, nat_tests, lines-line, lines-text ls)

version-fields : (v : Version) → IsLine (version_line v)
version-fields One = (codes "trace" ∷ codes "1" ∷ [], refl, (unspaced-word (codes "trace") refl, (unspaced-word (codes "1") refl, tt)))
version-fields Two = (codes "trace" ∷ codes "2" ∷ [], refl, (unspaced-word (codes "trace") refl, (unspaced-word (codes "2") refl, tt)))

pub unspaced-task : (name : List ℕ) (period offset worst : ℕ) → AreUnspaced name
    → AllByRecursion AreUnspaced (codes "task" ∷ name ∷ decimal period ∷ decimal offset ∷ decimal worst ∷ [])
unspaced-task name period offset worst unspaced =
    (unspaced-word (codes "task") refl, (unspaced, (unspaced-decimal period, (unspaced-decimal offset, (unspaced-decimal worst, tt)))))

pub task-fields : (name : List ℕ) (period offset worst : ℕ) → AreUnspaced name → IsLine (task_text name period offset worst)
task-fields name period offset worst unspaced = (codes "task" ∷ name ∷ _ ∷ _ ∷ _ ∷ [], refl, unspaced-task name period offset worst unspaced)

pub unspaced-plan : (s : Scheduler) (g : GovernorKind) (ticks : ℕ) → AllByRecursion AreUnspaced (plan_fields s g ticks)
unspaced-plan s g ticks = (unspaced-word (codes "plan") refl, (unspaced-scheduler s, (unspaced-governor g, (unspaced-decimal ticks, tt))))

share-fields : (name : List ℕ) (energy : ℕ) → AreUnspaced name → IsLine (share_text name energy)
share-fields name energy unspaced =
    (codes "energy" ∷ name ∷ decimal energy ∷ [], refl, (unspaced-word (codes "energy") refl, (unspaced, (unspaced-decimal energy, tt))))

module _ (names : List (List ℕ)) (named : (i : ℕ) → AreUnspaced (name_of names i)) where
  notes-fields : (notes : List Note) → AllByRecursion (λ n. IsLine (note_text names n)) notes
  notes-fields [] = tt
  notes-fields (n ∷ notes) = ((fields_of names n, note-fields names n, unspaced-fields names named n), notes-fields notes)

  -- each line of a trace has unspaced fields if the tasks' lines and names do
  pub each-line : (v : Version) (s : Scheduler) (g : GovernorKind) (ticks : ℕ) (tasks : List (List ℕ)) (notes : List Note) → AllByRecursion IsLine tasks
      → AllByRecursion (λ l. IsLine l.text) (trace_lines v s g ticks names tasks notes)
  each-line v s g ticks tasks notes lined = (
    version-fields v,
    (
      (plan_fields s g ticks, refl, unspaced-plan s g ticks),
      each-append (λ l. IsLine l.text) (for_tasks v tasks) (note_lines v names notes)
          (each-for IsLine v tasks (λ _. lined))
          (each-noted IsLine v names notes notes
          (λ _. each-share IsLine notes names (λ i lt. share-fields (name_of names i) (task_energy notes i) (named i))) (notes-fields notes)),
    ),
  )
