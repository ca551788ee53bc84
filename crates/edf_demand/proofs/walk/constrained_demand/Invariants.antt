use Rattle.std.proofs.Common.{◌+◌, ◌-◌, slice_index}
use Rattle.dvs_base.specs.declared.kind.Scheduler.TheVariants.{Edf}
use Rattle.task_model.specs.Tasks.{hyper_of}
use Rattle.sched_model.specs.Plan.{plan_of}
use Rattle.edf_demand.specs.Walk.{due_of, IsQueueOf}
use Rattle.edf_demand.proofs.DemandWalk.{IsWalkedTo}
use Rattle.edf_demand.proofs.walk.constrained_demand.Given as goal

abbrev pub invariant-loop-now : goal.invariant-loop-now
invariant-loop-now l = record {
  queue : IsQueueOf l.tasks l.next;
  walking : IsWalkedTo (plan_of l.tasks l.machine Edf) (slice_index l.deadlines) (due_of l.next.entries) l.now l.work
      l.busiest;
}

abbrev pub decreases-loop-now : goal.decreases-loop-now
decreases-loop-now l = hyper_of l.tasks + 1 - l.now
