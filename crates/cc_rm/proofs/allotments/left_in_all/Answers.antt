use Rattle.std.proofs.Common.{◌≡◌, ◌-◌, ◌∙◌, ap, subst, arith, if◌then◌else◌, ℕ}
use Rattle.std.specs.Prelude.{min}
use Rattle.sched_model.specs.Plan.{count}
use Rattle.sched_model.specs.States.{row_at}
use Rattle.cc_rm_laws.specs.Allotments.{base_of, had_since_mark}
use Rattle.cc_rm.proofs.MarkUnits.{IsWalked, ranked-below, walked-next, walked-end}
use Rattle.cc_rm.proofs.allotments.left_in_all.Goals as goal

pub base_of-requires : goal.base_of-requires
base_of-requires c = omega (
  arith,
  ranked-below c.args.plan.now c.loop-k.k (omega arith),
  c.ranked-i.ensures,
  c.requires.of.base,
)

pub left_of-sum-requires-clause-task : goal.left_of-sum-requires-clause-task
left_of-sum-requires-clause-task c =
    omega (arith, ranked-below c.args.plan.now c.loop-k.k (omega arith), c.ranked-i.ensures, c.requires.of.rows)

pub left_of-sum-requires-clause-base : goal.left_of-sum-requires-clause-base
left_of-sum-requires-clause-base c =
    c.requires.decision.base c.ranked-i.result
    (omega (arith, ranked-below c.args.plan.now c.loop-k.k (omega arith), c.ranked-i.ensures))

pub loop-k-preserved : goal.loop-k-preserved
loop-k-preserved c =
    let v = c.args.view.now in
    let allotted = c.min-allotted.result in
    walked-next c.args.plan.now v c.args.units c.loop-k.k c.loop-k.rest c.loop-k.sum allotted c.left_of-sum.result
    c.requires.units (omega arith) c.loop-k.invariant
    (c.min-allotted.ensures ∙ ap (λ (n : ℕ). min c.loop-k.rest n)
    (c.from.ensures ∙ (c.base_of.ensures ∙ ap (base_of v) c.ranked-i.ensures)))
    (c.left_of-sum.ensures ∙ ap (λ (i : ℕ). if (row_at v i).done
    then 0 else allotted - had_since_mark v i) c.ranked-i.ensures)

pub returns : goal.returns
returns c =
    let all : c.loop-k.k ≡ count c.args.plan.now = omega arith in
    walked-end c.args.plan.now c.args.view.now c.args.units c.loop-k.rest c.loop-k.sum
    (subst (λ (k : ℕ). IsWalked c.args.plan.now c.args.view.now c.args.units k c.loop-k.rest c.loop-k.sum)
    all c.loop-k.invariant)
