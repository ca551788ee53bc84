-- The deadlines that numbers of ticks give, one for each task, or the first refusal.
use Rattle.std.specs.Prelude.{⊤, ℕ, ◌+◌, List, [], ◌∷◌, Result, Ok}
use Rattle.dvs_base.specs.Checks.{◌>>=◌, ◌>>◌}
use Rattle.task_model.specs.declared.task.Task.{Task}
use Rattle.task_model.specs.Tasks.{task_at}
use Rattle.deadline_list.specs.declared.fault.DeadlineFault.{DeadlineFault}
use Rattle.deadline_list.specs.DeadlineFile.{deadline_from}

-- the check of the deadlines of the tasks from task i on, in a file whose row for a task has the task's place, from 1
abbrev pub ticks_checked : List Task → ℕ → List ℕ → Result ⊤ DeadlineFault
ticks_checked tasks i [] = Ok tt
ticks_checked tasks i (n ∷ rest) = do
  deadline ← deadline_from (i + 1) (task_at tasks i).period n
  ticks_checked tasks (i + 1) rest

-- the deadlines of these numbers of ticks, if each is from 1 to the period of its task, or the first refusal
abbrev pub deadlines_of_ticks : List Task → List ℕ → Result (List ℕ) DeadlineFault
deadlines_of_ticks tasks ticks = ticks_checked tasks 0 ticks >> Ok ticks
