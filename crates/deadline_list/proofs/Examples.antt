-- Deadline files by evaluation.
use Rattle.std.proofs.Common.{◌≡◌, ℕ, List, [], ◌∷◌, ◌++◌, flat_map, Ok, Err, codes, refl}
use Rattle.csv.specs.Machine.{next_record}
use Rattle.csv.specs.Reading.{records_from, strip_bom}
use Rattle.task_model.specs.declared.task.Task.{Task}
use Rattle.deadline_list.specs.declared.fault.DeadlineFault.TheVariants.{Range}
use Rattle.deadline_list.specs.DeadlineFile.{deadline_file}

-- a task with this name, whose worst case is its period
abbrev task_of : List ℕ → ℕ → Task
task_of name period = record { name = name; period = period; worst = period; offset = 0 }

-- task a with the period 4 and task b with the period 6
abbrev pair : List Task
pair = task_of (codes "a") 4 ∷ task_of (codes "b") 6 ∷ []

-- lines, each ended by a line feed
abbrev lines : List (List ℕ) → List ℕ
lines ls = flat_map (λ l. l ++ 10 ∷ []) ls

-- a deadline may be the period, and is the period if a task has no row
periods : deadline_file pair (lines (codes "task,deadline" ∷ codes "b,6" ∷ [])) ≡ Ok (4 ∷ 6 ∷ [])
unfolding strip_bom records_from next_record
periods = refl

-- in a second row of a task, a deadline above the period is refused as such
above_period : deadline_file pair (lines (codes "task,deadline" ∷ codes "b,5" ∷ codes "b,7" ∷ [])) ≡ Err (Range 2)
unfolding strip_bom records_from next_record
above_period = refl
