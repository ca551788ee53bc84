use Rattle.look_ahead_laws.proofs.AheadLaws.{ahead_den}
use Rattle.look_ahead_laws.proofs.SpreadEquations.{has_spread, is_demand, rates_are_within}
use Rattle.look_ahead.proofs.ahead.LookAheadGovernor.choose.Goals as goal

pub chosen-requires : goal.chosen-requires
chosen-requires c admitted = rw c.demand.ensures (ahead_den c.args.plan.now c.args.view.now admitted c.requires.decision)

pub returns-clause-spread_exists : goal.returns-clause-spread_exists
returns-clause-spread_exists c = has_spread c.args.plan.now c.args.view.now

pub returns-clause-spread_demand : goal.returns-clause-spread_demand
returns-clause-spread_demand c = is_demand c.args.plan.now c.args.view.now

pub returns-clause-rates_fit : goal.returns-clause-rates_fit
returns-clause-rates_fit c =
    rates_are_within c.args.plan.now c.args.view.now c.chosen.ensures.admitted c.requires.counters.served
