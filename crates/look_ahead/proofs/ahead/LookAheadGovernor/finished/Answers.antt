use Rattle.look_ahead.proofs.AheadCounters.{keeps-finished}
use Rattle.look_ahead.proofs.ahead.LookAheadGovernor.finished.Goals as goal

pub returns : goal.returns
returns c =
    let kept = c.args.self.now in
    keeps-finished c.args._plan.now c.args._view.now kept.left.items kept.order.items kept.rates.items
    c.requires.counters c.args.task
