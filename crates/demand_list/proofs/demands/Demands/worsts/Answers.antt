use Rattle.demand_list.proofs.Rows.{IsWithinWorsts-rows}
use Rattle.demand_list.proofs.demands.Demands.worsts.Goals as goal

pub returns-clause-within : goal.returns-clause-within
returns-clause-within c = rw (← c.self.view_is) (IsWithinWorsts-rows _ c.self.invariant.demands.each)
