use Rattle.std.proofs.Common.{◌≡◌}
use Rattle.grid_fraction.specs.Numbers.{list_below}
use Rattle.sched_model.specs.Plan.{offset, worst}
use Rattle.sched_model.specs.States.{opening_row}
use Rattle.sched_model.proofs.state.State.new.Given as goal

abbrev pub invariant-loop-i : goal.invariant-loop-i
invariant-loop-i l = record {
  rows : l.rows.items ≡ list_below l.i (λ i. opening_row (offset l.plan i) (worst l.plan i));
  base : l.base.items ≡ list_below l.i (λ i. 0);
}
