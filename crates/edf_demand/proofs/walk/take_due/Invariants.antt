use Rattle.dvs_base.specs.declared.kind.Scheduler.TheVariants.{Edf}
use Rattle.sched_model.specs.Plan.{plan_of}
use Rattle.edf_demand.specs.Walk.{due_of, IsQueueOf}
use Rattle.edf_demand.proofs.Calendars.{Taken, due_at}
use Rattle.edf_demand.proofs.walk.take_due.Given as goal

abbrev pub invariant-loop-next : goal.invariant-loop-next
invariant-loop-next l = record {
  queue : IsQueueOf l.tasks l.next;
  taken : Taken (plan_of l.tasks l.machine Edf) (due_of l.fn.next.entries) (due_of l.next.entries) l.fn.now l.work;
}

abbrev pub decreases-loop-next : goal.decreases-loop-next
decreases-loop-next l = due_at (plan_of l.tasks l.machine Edf) (due_of l.next.entries) l.fn.now
