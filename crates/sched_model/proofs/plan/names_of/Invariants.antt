use Rattle.std.proofs.Common.{◌≡◌, map, take}
use Rattle.sched_model.proofs.plan.names_of.Given as goal

abbrev pub invariant-loop-task : goal.invariant-loop-task
invariant-loop-task l = l.list.items ≡ map (λ t. t.name) (take l.task-index l.tasks)
