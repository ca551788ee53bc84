use Rattle.std.proofs.Common.{◌≡◌, ◌<◌, length, ap, arith}
use Rattle.grid_fraction.proofs.Least.{least-below}
use Rattle.sched_model.specs.declared.state.Row.{Row}
use Rattle.sched_model.specs.Plan.{count}
use Rattle.sched_model.proofs.States.{row_read}
use Rattle.look_ahead_laws.specs.Ahead.{deadline_at}
use Rattle.look_ahead.proofs.AheadCounters.{rate_read, rates_long}
use Rattle.look_ahead.proofs.ahead.LookAhead.pending.Goals as goal

pub index-requires : goal.index-requires
index-requires c =
    let kept = c.args.self.now in
    let long =
    rates_long c.args.plan.now c.args.view.now kept.left.items kept.order.items kept.rates.items
    c.requires.counters c.args.task in
    omega (arith, long, c.requires.task)

pub overflow_sub-result : goal.overflow_sub-result
overflow_sub-result c =
    let s = c.args.view.now in
    let read = c.index-3.result.now in
    let lt : c.args.task < length s.rows = omega (arith, c.requires.task, c.requires.of.rows) in
    let row = row_read s _ c.args.task read c.view.view_is lt c.index-3.ensures in
    let due : c.index-3.result.now.deadline ≡ deadline_at s c.args.task = ap (λ (r : Row). r.deadline) row in
    let least = least-below (count c.args.plan.now) (deadline_at s) c.args.task c.requires.task in
    omega (arith, due, least, c.requires.soonest)

pub returns-clause-rate : goal.returns-clause-rate
returns-clause-rate c =
    let kept = c.args.self.now in
    rate_read c.args.plan.now c.args.view.now kept.left.items kept.order.items kept.rates.items
    c.requires.counters c.args.task c.index.result.now c.requires.task c.index.ensures
