use Rattle.std.proofs.Common.{◌≤◌, length}
use Rattle.std.specs.Prelude.{vec_capacity}
use Rattle.dvs_base.specs.declared.kind.Scheduler.TheVariants.{Rm}
use Rattle.sched_model.specs.Plan.{Plan, plan_of}
use Rattle.rm_response.specs.Earlier.{HasFullNodes}
use Rattle.rm_response.proofs.KnownResponses.{AreKnown}
use Rattle.rm_response.proofs.LoadsBefore.{AreFirst}
use Rattle.rm_response.proofs.response.respond.Given as goal

abbrev pub invariant-loop-task : goal.invariant-loop-task
invariant-loop-task l =
    let p : Plan = plan_of l.tasks l.machine Rm in
    record {
      known : AreKnown p l.order l.task-index l.from l.entries.items;
      loads : AreFirst p l.order l.task-index l.earlier.loads.items;
      nodes : HasFullNodes p l.earlier;
      room : length l.tasks ≤ vec_capacity l.earlier.loads;
    }
