use Rattle.std.proofs.Common.{◌≡◌}
use Rattle.grid_fraction.specs.Numbers.{list_below}
use Rattle.sched_model.specs.Plan.{rate}
use Rattle.look_ahead.proofs.rates.rates_of.Given as goal

abbrev pub invariant-loop-task : goal.invariant-loop-task
invariant-loop-task l = l.rates.items ≡ list_below l.task (rate l.plan)
