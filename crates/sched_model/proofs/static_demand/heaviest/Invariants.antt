use Rattle.dvs_base.specs.declared.kind.Scheduler.TheVariants.{Rm}
use Rattle.sched_model.specs.Plan.{Plan, plan_of, period}
use Rattle.sched_model.specs.Tests.{level_work}
use Rattle.sched_model.proofs.StaticShare.{IsHeaviest}
use Rattle.sched_model.proofs.static_demand.heaviest.Given as goal

abbrev pub invariant-loop-i : goal.invariant-loop-i
invariant-loop-i l =
    let p : Plan = plan_of l.tasks l.machine Rm in
    IsHeaviest (level_work p) (period p) l.i l.found
