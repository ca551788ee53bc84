-- Relative deadlines of tasks.
use Rattle.std.specs.Prelude.{◌≡◌, ℕ, ◌<◌, ◌≤◌, List, length, slice_index}
use Rattle.task_model.specs.declared.task.Task.{Task}
use Rattle.task_model.specs.Tasks.{task_at}

-- one relative deadline for each task, from 1 to its period
pub record AreFor (tasks : List Task) (deadlines : List ℕ) : Type 0 where
  pub one_each : length deadlines ≡ length tasks
  pub some : (i : ℕ) → i < length tasks → 1 ≤ slice_index deadlines i
  pub within : (i : ℕ) → i < length tasks → slice_index deadlines i ≤ (task_at tasks i).period
