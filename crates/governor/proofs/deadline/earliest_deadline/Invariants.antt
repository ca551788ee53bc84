use Rattle.std.proofs.Common.{◌≡◌}
use Rattle.grid_fraction.specs.Numbers.{least_below}
use Rattle.sched_model.specs.States.{row_at}
use Rattle.governor.proofs.deadline.earliest_deadline.Given as goal

abbrev pub invariant-loop-i : goal.invariant-loop-i
invariant-loop-i l = l.least ≡ least_below l.i (λ k. (row_at l.view k).deadline)
