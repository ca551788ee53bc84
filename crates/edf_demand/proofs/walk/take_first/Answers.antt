use Rattle.std.proofs.Common.{◌+◌, ap, subst, drop, ◌∙◌, arith, List}
use Rattle.dvs_base.specs.declared.kind.Scheduler.TheVariants.{Edf}
use Rattle.task_model.specs.declared.task.Task.{Task}
use Rattle.sched_model.specs.Plan.{plan_of}
use Rattle.ready_queue.specs.declared.entry.Entry.{Entry}
use Rattle.ready_queue.specs.Orders.{due_before}
use Rattle.ready_queue.specs.Entries.{IsAbsent, with_entry}
use Rattle.edf_demand.proofs.Calendars.{front, none-front, no-front, first-earliest, put-calendar, takes-first}
use Rattle.edf_demand.proofs.walk.take_first.Goals as goal

pub overflow_add-job : goal.overflow_add-job
overflow_add-job c =
    let head = front c.args.next.now.entries c.in-Some.job c.in-Some.ensures.value in
    let due =
    first-earliest c.args.next.now c.requires.queue.calendar c.in-Some.job head.0 head.1 c.in-Some.ensures.first in
    omega (arith, due, c.requires.low, c.task-period.ensures.limits.low_period)

pub returns : goal.returns
returns c =
    let q = c.args.next.now in
    let calendar = c.requires.queue.calendar in
    let job = c.in-Some.job in
    let first = c.in-Some.ensures.first in
    let every = c.task-period.result.period in
    let after = c.replace_first.new.self in
    let t = c.replace_first.ensures in
    let head = front q.entries job c.in-Some.ensures.value in
    let out = subst (IsAbsent job.task) (ap (drop 1) head.1) t.out in
    let put = t.entries
    ∙ ap (λ (l : List Entry). with_entry due_before (record { task = job.task; due = job.due + every; period = every }) (drop 1 l)) head.1 in
    record {
      queue = record {
        one_each = t.limit ∙ c.requires.queue.one_each;
        calendar = put-calendar q calendar job head.0 head.1 first every after out t.limit put;
      };
      taken = takes-first q calendar job head.0 head.1 first every after out t.limit put
          (plan_of c.args.tasks.now c.args.machine.now Edf) c.worst.result c.requires.queue.one_each
          (ap (λ (t : Task). t.period) c.task-period.ensures.task) c.worst.ensures.value;
    }

pub returns-in_default : goal.returns-in_default
returns-in_default c =
    absurd (no-front c.args.next.now c.requires.queue.calendar (none-front c.args.next.now.entries c.in_default.ensures.value))
