use Rattle.std.proofs.Common.{◌≡◌}
use Rattle.grid_fraction.specs.Numbers.{list_below}
use Rattle.sched_model.specs.Plan.{offset}
use Rattle.look_ahead.proofs.order.offsets_of.Given as goal

abbrev pub invariant-loop-task : goal.invariant-loop-task
invariant-loop-task l = l.offsets.items ≡ list_below l.task (λ i. (offset l.plan i, i))
