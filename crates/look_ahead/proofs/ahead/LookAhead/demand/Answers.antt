use Rattle.std.proofs.Common.{◌≡◌, ap, arith}
use Rattle.sched_model.specs.Plan.{count}
use Rattle.sched_model.specs.States.{StateView}
use Rattle.sched_model.proofs.Limits.{some_hyper}
use Rattle.governor.proofs.StatesOfDemands.{earliest-later}
use Rattle.look_ahead.proofs.WalkLoop.{done_none, first_grows, most_low, step_below, step_fits, step_next, tasks_long}
use Rattle.look_ahead.proofs.ahead.LookAhead.demand.Goals as goal

pub loop-k-init : goal.loop-k-init
loop-k-init c =
    let plan = c.args.plan.now in
    let s = c.args.view.now in
    let long : c.len-k.result ≡ count plan =
    omega (arith, tasks_long plan s c.args.self.now.order.items c.requires.counters.order_is, c.len-k.ensures) in
    let serves = c.requires.counters.served in record {
      done = done_none plan s c.len-k.result c.spare_of.result c.scheduler-admitted.ensures.admitted serves long c.spare_of.ensures;
      low = omega (arith, long);
    }

pub pending-job-requires-clause-task : goal.pending-job-requires-clause-task
pending-job-requires-clause-task c =
    let order = c.args.self.now.order.items in
    step_below c.args.plan.now c.args.view.now order c.requires.counters.order_is c.loop-k.k c.index.result.now
    c.loop-k-test.true (omega (arith, c.len-k.ensures)) c.index.ensures

pub step-totals-requires-clause-grid : goal.step-totals-requires-clause-grid
step-totals-requires-clause-grid c =
    let some = some_hyper c.args.plan.now c.scheduler-admitted.ensures.admitted.limits in
    omega (arith, some, c.hyper-hyper.ensures.hyper)

pub step-totals-requires-clause-soon : goal.step-totals-requires-clause-soon
step-totals-requires-clause-soon c =
    let order = c.args.self.now.order.items in
    let below =
    step_below c.args.plan.now c.args.view.now order c.requires.counters.order_is c.loop-k.k c.index.result.now
    c.loop-k-test.true (omega (arith, c.len-k.ensures)) c.index.ensures in
    let near = c.requires.decision.soon c.index.result.now below in
    let next = earliest-later c.args.plan.now c.scheduler-admitted.ensures.admitted.limits c.args.view.now c.requires.decision.before in
    omega (arith, c.pending-job.ensures.slack, near, next)

pub step-totals-requires-clause-fits : goal.step-totals-requires-clause-fits
step-totals-requires-clause-fits c =
    let order = c.args.self.now.order.items in
    let totals = c.loop-k.totals in
    let fits =
    step_fits c.args.plan.now c.args.view.now order c.requires.counters.order_is c.loop-k.k c.index.result.now
    c.loop-k-test.true (omega (arith, c.len-k.ensures)) c.index.ensures totals.spare totals.first
    c.loop-k.invariant.done in
    let most = most_low c.args.plan.now c.scheduler-admitted.ensures.admitted.limits in
    omega (arith, fits, most, c.pending-job.ensures.rate)

pub step-totals-requires-clause-small : goal.step-totals-requires-clause-small
step-totals-requires-clause-small c = omega (arith, c.scheduler-admitted.ensures.admitted.limits.tasks.few, c.loop-k.invariant.low)

pub loop-k-preserved : goal.loop-k-preserved
loop-k-preserved c =
    let plan = c.args.plan.now in
    let s = c.args.view.now in
    let order = c.args.self.now.order.items in
    let i = c.index.result.now in
    let n = c.loop-k.k in
    let spare = c.loop-k.totals.spare in
    let first = c.loop-k.totals.first in
    let is = c.requires.counters.order_is in
    let some = c.loop-k-test.true in
    let below = step_below plan s order is n i some (omega (arith, c.len-k.ensures)) c.index.ensures in
    let positive = some_hyper plan c.scheduler-admitted.ensures.admitted.limits in
    let next =
    step_next plan s order is n i some (omega (arith, c.len-k.ensures)) c.index.ensures spare first
    c.loop-k.invariant.done positive in
    let grows = first_grows plan s c.scheduler-admitted.ensures.admitted.limits c.requires.of i spare first below in
    let job = c.pending-job.ensures in
    let spare_is = rw (c.hyper-hyper.ensures.hyper, job.rate, job.left, job.slack) at c.step-totals.ensures.spare in
    let first_is = rw (c.hyper-hyper.ensures.hyper, job.rate, job.left, job.slack) at c.step-totals.ensures.first in
    record { done = rw (spare_is, first_is) next; low = omega (arith, first_is, grows, c.loop-k.invariant.low, some) }

pub overflow_sub-soonest : goal.overflow_sub-soonest
overflow_sub-soonest c =
    let next = earliest-later c.args.plan.now c.scheduler-admitted.ensures.admitted.limits c.args.view.now c.requires.decision.before in
    let clock : c.view.inside.now ≡ c.args.view.now.now = ap (λ (v : StateView). v.now) c.view.view_is in
    omega (arith, next, clock, c.earliest_deadline-soonest.ensures)
