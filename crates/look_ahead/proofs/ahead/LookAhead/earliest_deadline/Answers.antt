use Rattle.std.proofs.Common.{◌∙◌, length, ap, arith}
use Rattle.sched_model.specs.declared.state.Row.{Row}
use Rattle.sched_model.specs.States.{StateView}
use Rattle.sched_model.proofs.States.{row_read}
use Rattle.look_ahead.proofs.WalkLoop.{first_below, first_due, some_first}
use Rattle.look_ahead.proofs.ahead.LookAhead.earliest_deadline.Goals as goal

pub index-requires : goal.index-requires
index-requires c =
    let order = c.args.self.now.order.items in
    let some = some_first c.args.plan.now c.args.view.now c.scheduler-admitted.ensures.admitted.limits order c.requires.counters.order_is in
    omega (arith, some)

pub index-requires-2 : goal.index-requires-2
index-requires-2 c =
    let order = c.args.self.now.order.items in
    let is = c.requires.counters.order_is in
    let i = c.index.result.now in
    let below = first_below c.args.plan.now c.args.view.now c.scheduler-admitted.ensures.admitted.limits order is i c.index.ensures in
    let rows = ap (λ (v : StateView). length v.rows) c.view.view_is in
    omega (arith, below, c.requires.of.rows, rows)

pub returns : goal.returns
returns c =
    let plan = c.args.plan.now in
    let s = c.args.view.now in
    let order = c.args.self.now.order.items in
    let is = c.requires.counters.order_is in
    let i = c.index.result.now in
    let below = first_below plan s c.scheduler-admitted.ensures.admitted.limits order is i c.index.ensures in
    let read = c.index-2.result.now in
    let row = row_read s _ i read c.view.view_is (omega (arith, below, c.requires.of.rows)) c.index-2.ensures in
    ap (λ (r : Row). r.deadline) row ∙ first_due plan s c.scheduler-admitted.ensures.admitted.limits order is i c.index.ensures
