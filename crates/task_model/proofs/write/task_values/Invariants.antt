use Rattle.std.proofs.Common.{◌≡◌, map, take}
use Rattle.toml.specs.View.{view}
use Rattle.task_model.specs.Written.{task_data}
use Rattle.task_model.proofs.write.task_values.Given as goal

-- the values so far are those of the tasks so far
abbrev pub invariant-loop-task : goal.invariant-loop-task
invariant-loop-task l = map view l.values.items ≡ map task_data (take l.task-index l.tasks)
