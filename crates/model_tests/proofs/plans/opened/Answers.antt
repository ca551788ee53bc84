use Rattle.std.proofs.Common.{◌≡◌, arith, subst, sym}
use Rattle.sched_model.specs.Plan.{offset}
use Rattle.sched_model.specs.States.{StateView, CanRelease}
use Rattle.sched_model.proofs.States.{opening-can_release}
use Rattle.model_tests.proofs.plans.opened.Goals as goal

pub release-requires : goal.release-requires
release-requires c =
    let p = c.args.plan.now in
    let limits = c.scheduler-admitted.ensures.admitted.limits in
    let first : offset p 0 ≡ 0 = omega (arith, c.offset.ensures.offset, c.if-offset-eq0.true) in
    subst (λ (s : StateView). CanRelease p s 0) (sym c.in-Ok.ensures) (opening-can_release p limits 0 (omega (arith, limits.tasks.some)) first)
