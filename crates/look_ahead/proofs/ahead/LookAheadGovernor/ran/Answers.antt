use Rattle.look_ahead.proofs.AheadCounters.{keeps-ran}
use Rattle.look_ahead.proofs.ahead.LookAheadGovernor.ran.Goals as goal

pub returns : goal.returns
returns c =
    let plan = c.args._plan.now in
    let s = c.args._view.now in
    let left = c.args.self.now.left.items in
    let order = c.args.self.now.order.items in
    let rates = c.args.self.now.rates.items in
    let keeps = c.requires.counters in
    keeps-ran plan s left order rates keeps c.args.task c.args.units c.index_mut.result.now c.requires.can c.index_mut.ensures.value
