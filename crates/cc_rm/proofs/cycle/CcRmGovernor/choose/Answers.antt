use Rattle.cc_rm_laws.proofs.CcRmLaws.{cycle_den, meets_it}
use Rattle.cc_rm.proofs.cycle.CcRmGovernor.choose.Goals as goal

pub chosen-requires : goal.chosen-requires
chosen-requires c admitted = rw c.demand.ensures (cycle_den c.args.plan.now admitted c.args.view.now c.requires.decision)

pub returns-clause-calm : goal.returns-clause-calm
returns-clause-calm c calm =
    rw (c.chosen.ensures.met, c.demand.ensures) (meets_it c.args.plan.now c.chosen.ensures.admitted c.args.view.now calm)
