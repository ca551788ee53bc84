use Rattle.std.proofs.Common.{◌≡◌, ◌<◌, ◌≤◌, ◌+◌, ℕ, sym, ◌∙◌, subst, arith}
use Rattle.dvs_base.specs.declared.kind.Scheduler.TheVariants.{Rm}
use Rattle.sched_model.specs.Plan.{Plan, plan_of, count, period}
use Rattle.sched_model.specs.Tests.{level_work}
use Rattle.sched_model.proofs.StaticShare.{IsHeaviest, heaviest-kept, heaviest-next, heaviest-all}
use Rattle.sched_model.proofs.static_demand.heaviest.Goals as goal
use Rattle.sched_model.proofs.static_demand.heaviest.Goals.{then-outweighs, else-outweighs}

pub loop-i-preserved : goal.loop-i-preserved
loop-i-preserved c =
    let p : Plan = plan_of c.args.tasks.now c.args.machine.now Rm in
    let i = c.loop-i.i in
    let s : ℕ → ℕ = level_work p in
    let q : ℕ → ℕ = period p in
    let some : (k : ℕ) → k ≤ i → 0 < q k = λ k h. (c.requires.tasks.each k (omega arith)).some_period in
    elim c.if-outweighs.branch [
      | then-outweighs w ↦
          subst (λ (m : ℕ). IsHeaviest s q (i + 1) m) (sym w.found-is)
          (heaviest-next s q i c.loop-i.found some c.loop-i.invariant (sym c.outweighs.ensures ∙ w.if-outweighs.true))
      | else-outweighs w ↦
          subst (λ (m : ℕ). IsHeaviest s q (i + 1) m) (sym w.found-is)
          (heaviest-kept s q i c.loop-i.found c.loop-i.invariant (sym c.outweighs.ensures ∙ w.if-outweighs.false))
    ]

pub returns-clause-value : goal.returns-clause-value
returns-clause-value c =
    let p : Plan = plan_of c.args.tasks.now c.args.machine.now Rm in
    let s : ℕ → ℕ = level_work p in
    let q : ℕ → ℕ = period p in
    let all : c.loop-i.i ≡ count p = omega arith in
    heaviest-all p c.loop-i.found (subst (λ (m : ℕ). IsHeaviest s q m c.loop-i.found) all c.loop-i.invariant)
