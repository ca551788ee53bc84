use Rattle.std.proofs.Common.{◌<◌, arith}
use Rattle.sched_model.specs.Plan.{count}
use Rattle.cc_edf_laws.proofs.CycleLaws.{counts-ran}
use Rattle.cc_edf.proofs.cycle.CcEdfGovernor.ran.Goals as goal

pub returns : goal.returns
returns c =
    let below : c.args._task < count c.args._plan.now = (let rows = c.requires.of.rows in let task = c.requires.can.task in omega arith) in
    counts-ran c.args._plan.now c.args._view.now c.requires.of c.args.self.now.rates.items c.args.self.now.sum c.requires.counters
    c.args._task below c.args._units c.requires.can.open_job
