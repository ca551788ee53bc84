use Rattle.std.proofs.Common.{MatchOption}
use Rattle.dvs_base.specs.declared.kind.Scheduler.TheVariants.{Rm}
use Rattle.sched_model.specs.Plan.{Plan, plan_of}
use Rattle.rm_admit.proofs.Overloads.{NoneBelow, IsFirstBelow}
use Rattle.rm_admit.proofs.first_overloaded.Given as goal

abbrev pub invariant-loop-i : goal.invariant-loop-i
invariant-loop-i l =
    let p : Plan = plan_of l.tasks l.machine Rm in
    MatchOption l.first (NoneBelow p l.i) (IsFirstBelow p l.i)
