use Rattle.std.proofs.Common.{◌≡◌, map, take, length}
use Rattle.event_kernel.proofs.jobs.worst_demands.Given as goal

abbrev pub invariant-loop-task : goal.invariant-loop-task
invariant-loop-task l = record {
  so_far : l.worsts.items ≡ map (λ t. t.worst) (take l.task l.plan.tasks);
  count : length l.worsts.items ≡ l.task;
}
