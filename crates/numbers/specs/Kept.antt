-- A list of tasks that numbers describe, of any length: what is kept while they are read.
use Rattle.std.specs.Prelude.{◌≡◌, ℕ, ◌<◌, List, length}
use Rattle.task_model.specs.declared.task.Task.{Task}
use Rattle.task_model.specs.Tasks.{IsTask, task_at}
use Rattle.numbers.specs.Given.{given_name}

-- each task is within its limits, and has the name of its number
pub record AreGiven (tasks : List Task) : Type 0 where
  pub each : (i : ℕ) → i < length tasks → IsTask (task_at tasks i)
  pub names : (i : ℕ) → i < length tasks → (task_at tasks i).name ≡ given_name i
