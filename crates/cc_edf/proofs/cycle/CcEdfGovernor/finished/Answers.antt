use Rattle.std.proofs.Common.{◌<◌, arith}
use Rattle.sched_model.specs.Plan.{count}
use Rattle.cc_edf_laws.proofs.CycleLaws.{counts-finished}
use Rattle.cc_edf.proofs.cycle.CcEdfGovernor.finished.Goals as goal

pub returns : goal.returns
returns c =
    let below : c.args.task < count c.args.plan.now = (let rows = c.requires.of.rows in let task = c.requires.can.task in omega arith) in
    rw (c.charge.ensures.rates, c.charge.ensures.sum, c.row_of-row.ensures)
    (counts-finished c.args.plan.now c.args.view.now c.requires.of c.args.self.now.rates.items c.args.self.now.sum c.requires.counters c.args.task below)
