use Rattle.std.proofs.Common.{◌<◌, arith}
use Rattle.sched_model.specs.Plan.{count}
use Rattle.cc_rm.proofs.KeptCounters.{counts-finished}
use Rattle.cc_rm.proofs.cycle.CcRmGovernor.finished.Goals as goal

pub returns : goal.returns
returns c =
    let g = c.args.self.now in
    let below : c.args.task < count c.args._plan.now = omega (arith, c.requires.can.task, c.requires.of.rows) in
    rw (c.lower.ensures.speed, c.lower.ensures.rests, c.lower.ensures.left)
    (counts-finished c.args._plan.now c.args._view.now c.requires.of c.args.task
    below g.static_speed g.rests.items g.allotments c.requires.counters)
