use Rattle.cc_edf_laws.proofs.CycleLaws.{cycle_den, cycle_met}
use Rattle.cc_edf.proofs.cycle.CcEdfGovernor.choose.Goals as goal

pub chosen-requires : goal.chosen-requires
chosen-requires c admitted = rw c.sum_of_rates.ensures (cycle_den c.args.plan.now c.args.view.now admitted.limits)

pub returns-clause-always : goal.returns-clause-always
returns-clause-always c =
    rw (c.chosen.ensures.met, c.sum_of_rates.ensures)
    (cycle_met c.args.plan.now c.args.view.now c.chosen.ensures.admitted c.requires.counters.served c.requires.of)
