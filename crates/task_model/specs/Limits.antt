-- A list of tasks within the limits, of any length: what a set keeps while it is read.
use Rattle.std.specs.Prelude.{◌≡◌, ℕ, ◌<◌, List, length}
use Rattle.task_model.specs.declared.task.Task.{Task}
use Rattle.task_model.specs.Tasks.{IsTask, task_at}

-- each task is within its limits, and no two have one name
pub record AreTasks (tasks : List Task) : Type 0 where
  pub each : (i : ℕ) → i < length tasks → IsTask (task_at tasks i)
  pub distinct : (i j : ℕ) → i < j → j < length tasks → (task_at tasks i).name ≡ (task_at tasks j).name → ⊥
