use Rattle.cc_edf_laws.proofs.CycleLaws.{counts-released}
use Rattle.cc_edf.proofs.cycle.CcEdfGovernor.released.Goals as goal

pub returns : goal.returns
returns c =
    rw (c.charge.ensures.rates, c.charge.ensures.sum, c.row_of-row.ensures)
    (counts-released c.args.plan.now c.args.view.now c.requires.of c.args.self.now.rates.items c.args.self.now.sum c.requires.counters
    c.args.task c.requires.can.below)
