use Rattle.std.proofs.Common.{◌<◌, ◌∙◌, ap, arith}
use Rattle.std.proofs.Math.ListN.{replicate}
use Rattle.std.proofs.lemmas.Result.{IfOk-at_ok}
use Rattle.sched_model.specs.Plan.{count}
use Rattle.sched_model.specs.States.{opening}
use Rattle.sched_model.proofs.States.{left-opening}
use Rattle.agenda.specs.Agenda.{ReadyView}
use Rattle.agenda.proofs.StateQueues.{more-held, all-held, opening-ready, opening-entry}
use Rattle.agenda.proofs.agenda.Agenda.new.Goals as goal

pub loop-task-preserved : goal.loop-task-preserved
loop-task-preserved c =
    let below : c.loop-task.task < count c.args.plan.now = omega (arith, c.loop-task-test.true, c.count-task-end.ensures.count) in
    record {
      limit = c.insert.ensures.limit ∙ c.loop-task.invariant.limit;
      held = more-held c.args.plan.now (opening c.args.plan.now) c.loop-task.task
          (record { task = c.loop-task.task; due = c.offset.result; period = c.period.result }) c.loop-task.calendar.entries
          c.insert.new.self.entries below c.loop-task.invariant.held (opening-entry c.args.plan.now c.loop-task.task c.offset.result
          c.period.result below c.offset.ensures.offset c.period.ensures.period) c.insert.ensures.entries;
    }

pub returns : goal.returns
returns c = record {
  queues = record {
    scheduler = ap (λ (r : ReadyView). r.scheduler) c.in_ok-ready.ensures ∙ c.scheduler.ensures.scheduler;
    ready_limit = ap (λ (r : ReadyView). r.limit) c.in_ok-ready.ensures ∙ c.count.ensures.count;
    ready_jobs = opening-ready c.args.plan.now c.in_ok-ready.ready.entries (ap (λ (r : ReadyView). r.entries) c.in_ok-ready.ensures);
    calendar_limit = c.loop-task.invariant.limit;
    releases = all-held c.args.plan.now (opening c.args.plan.now) c.loop-task.task c.loop-task.calendar.entries
        (omega (arith, c.loop-task-test.false, c.count-task-end.ensures.count)) c.loop-task.invariant.held;
  };
  left = IfOk-at_ok _ c.in_ok-left.was
      c.vec.ensures.items_if_clones_equal (λ y e. e)
      ∙ (ap (λ n. replicate n 0) c.count-3.ensures.count ∙ left-opening c.args.plan.now);
}
