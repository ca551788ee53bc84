use Rattle.std.proofs.Common.{◌*◌, ◌+◌, ◌≤◌, ℕ, Option, Some, sym, ap, ◌∙◌, subst, arith}
use Rattle.std.proofs.lemmas.Bool.Decides.{nat_tests}
use Rattle.dvs_base.specs.declared.kind.Scheduler.TheVariants.{Rm}
use Rattle.sched_model.specs.Plan.{Plan, plan_of, period, top_speed}
use Rattle.sched_model.specs.Tests.{level_work}
use Rattle.rm_admit.specs.Denials.{IsOverloaded}
use Rattle.rm_admit.proofs.Overloads.{Known, known_passes, known_fails}
use Rattle.rm_admit.proofs.first_overloaded.Goals as goal
use Rattle.rm_admit.proofs.first_overloaded.Goals.{then-is_overloaded, else-is_overloaded}

pub loop-i-preserved : goal.loop-i-preserved
loop-i-preserved c =
    let p : Plan = plan_of c.args.tasks.now c.args.machine.now Rm in
    let i = c.loop-i.i in
    elim c.if-is_overloaded.branch [
      | then-is_overloaded w ↦
          let fail : IsOverloaded p i = grind (arith, c.is_overloaded.ensures, w.if-is_overloaded.true) in
          subst (λ (first : Option ℕ). Known p (i + 1) first) (sym (w.first-is ∙ ap Some w.earlier_of.ensures))
          (known_fails p i c.loop-i.first c.loop-i.invariant fail)
      | else-is_overloaded w ↦
          let pass : level_work p i ≤ top_speed p * period p i = grind (arith, nat_tests, c.is_overloaded.ensures, w.if-is_overloaded.false) in
          subst (λ (first : Option ℕ). Known p (i + 1) first) (sym w.first-is)
          (known_passes p i c.loop-i.first c.loop-i.invariant pass)
    ]
