use Rattle.task_model.specs.Tasks.{task_at, NoneOffset}
use Rattle.task_model.proofs.task.TaskSet.first_offset.Given as goal

abbrev pub invariant-loop-i : goal.invariant-loop-i
invariant-loop-i l = NoneOffset (λ k. (task_at l.self k).offset) l.i
