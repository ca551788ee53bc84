use Rattle.std.proofs.Common.{◌≡◌, ◌*◌, ◌^◌, ◌≤◌}
use Rattle.grid_fraction.specs.Numbers.{sum_below}
use Rattle.dvs_base.specs.declared.kind.Scheduler.TheVariants.{Edf}
use Rattle.sched_model.specs.Plan.{plan_of, rate}
use Rattle.sched_model.proofs.sums.total_rate.Given as goal

abbrev pub invariant-loop-i : goal.invariant-loop-i
invariant-loop-i l = (l.sum ≡ sum_below l.i (rate (plan_of l.tasks l.machine Edf))) × (l.sum ≤ l.i * 2 ^ 109)
