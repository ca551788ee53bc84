-- The tasks that the notes of a trace name, and the names of tasks, which are distinct.
use Rattle.std.proofs.Common.{◌≡◌, ◌≢◌, ◌<◌, ℕ, zero, suc, List, [], ◌∷◌, length, map, slice_index_or, refl, sym, ◌∙◌, arith}
use Rattle.std.proofs.lemmas.List.{length-map}
use Rattle.std.specs.List.{AllByRecursion, AllPairs}
use Rattle.dvs_base.specs.declared.note.Note.{Note}
use Rattle.task_model.specs.declared.task.Task.{Task}
use Rattle.task_model.specs.Tasks.{task_at, IsTask, IsTaskSet}
use Rattle.dvs_base.specs.declared.note.Note.TheVariants.{Release, Run, Done}
use Rattle.trace_reader.specs.Traces.{IsNoteOf}
use Rattle.trace_reader.proofs.LineTexts.{AreNames}
use Rattle.replay.specs.Replays.{NamesTask}

-- a note of a trace of c tasks names no task but one of these
pub names-each : (c : ℕ) (notes : List Note) → AllByRecursion (IsNoteOf c) notes → AllByRecursion (NamesTask c) notes
names-each c [] h = tt
names-each c (Release tick i k ∷ notes) h = (h.0.1, names-each c notes h.1)
names-each c (Run from to i k units energy ∷ notes) h = (h.0.2, names-each c notes h.1)
names-each c (Done q i k used ∷ notes) h = (h.0.1, names-each c notes h.1)
names-each c (n ∷ notes) h = (tt, names-each c notes h.1)

-- the name of task i is the i-th of the names
pub name-at : (tasks : List Task) (i : ℕ) (d : List ℕ) → i < length tasks
    → slice_index_or (map (λ (t : Task). t.name) tasks) i d ≡ (task_at tasks i).name
name-at [] i d lt = absurd (omega (arith, lt))
name-at (t ∷ tasks) zero d lt = refl
name-at (t ∷ tasks) (suc i) d lt = name-at tasks i d (omega (arith, lt))

-- the names of a set of tasks are distinct
pub names-distinct : (tasks : List Task) → IsTaskSet tasks → AllPairs (λ a b. a ≢ b) (map (λ (t : Task). t.name) tasks)
names-distinct tasks h i j d lt high same =
    let long : length (map (λ (t : Task). t.name) tasks) ≡ length tasks = length-map tasks (λ (t : Task). t.name) in
    let last : j < length tasks = omega (arith, high, long) in
    h.distinct i j lt last (sym (name-at tasks i d (omega (arith, lt, last))) ∙ (same ∙ name-at tasks j d last))

-- the names of tasks within their limits have the form of names
pub names-named : (tasks : List Task) → ((i : ℕ) → i < length tasks → IsTask (task_at tasks i))
    → AreNames (map (λ (t : Task). t.name) tasks)
names-named [] h = tt
names-named (t ∷ tasks) h = ((h 0 (omega arith)).name, names-named tasks (λ i lt. h (suc i) (omega (arith, lt))))
