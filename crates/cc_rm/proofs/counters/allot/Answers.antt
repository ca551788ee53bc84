use Rattle.std.proofs.Common.{◌≡◌, ◌∙◌, ◌+◌, ◌-◌, ◌<◌, length, ap, subst, sym, arith, ℕ}
use Rattle.std.specs.Prelude.{min, slice_set}
use Rattle.sched_model.specs.declared.state.Row.{Row}
use Rattle.sched_model.specs.Plan.{count}
use Rattle.sched_model.specs.States.{StateView, row_at, after_mark}
use Rattle.sched_model.proofs.States.{row_read}
use Rattle.governor.specs.Steps.{wleft_at}
use Rattle.governor.proofs.StatesOfDemands.{done_none}
use Rattle.cc_rm.proofs.MarkUnits.{ranked-below, walked-end, IsHanded, handed-next, handed-none, handed-end}
use Rattle.cc_rm.proofs.counters.allot.Goals as goal
use Rattle.cc_rm.proofs.counters.allot.Goals.{then-index, else-index}

pub index-requires : goal.index-requires
index-requires c =
    omega (
      arith,
      ranked-below c.args.plan.now c.loop-k.k (omega arith),
      c.ranked-i.ensures,
      ap (λ (v : StateView). length v.rows) c.view.view_is,
      c.requires.of.rows,
    )

pub worst_left-requires : goal.worst_left-requires
worst_left-requires c =
    omega (arith, ranked-below c.args.plan.now c.loop-k.k (omega arith), c.ranked-i.ensures, c.requires.of.rows)

pub bounds-rests-i : goal.bounds-rests-i
bounds-rests-i c =
    omega (
      arith,
      ranked-below c.args.plan.now c.loop-k.k (omega arith),
      c.ranked-i.ensures,
      c.loop-k.invariant.one_each,
    )

pub bounds-rests-i-else-index : goal.bounds-rests-i-else-index
bounds-rests-i-else-index c =
    omega (
      arith,
      ranked-below c.args.plan.now c.loop-k.k (omega arith),
      c.ranked-i.ensures,
      c.loop-k.invariant.one_each,
    )

pub loop-k-preserved : goal.loop-k-preserved
loop-k-preserved c =
    let plan = c.args.plan.now in
    let s = c.args.view.now in
    let units = c.args.units in
    let was = c.loop-k in
    let k = was.k in
    let some : k < count plan = omega arith in
    let i = c.ranked-i.result in
    let lt : i < length s.rows = omega (arith, ranked-below plan k some, c.ranked-i.ensures, c.requires.of.rows) in
    let row : c.index.result.now ≡ row_at s i = row_read s _ i c.index.result.now c.view.view_is lt c.index.ensures in
    let place_is = ap (wleft_at s) c.ranked-i.ensures in
    elim c.if-index.branch [
      | then-index w ↦
          rw (w.rests-is, w.rest-is, w.sum-is)
          (subst (λ (i : ℕ). IsHanded plan s units (k + 1) was.rest was.sum (slice_set was.rests i 0))
          (sym c.ranked-i.ensures)
          (handed-none plan s units c.requires.of k was.rest was.sum was.rests c.requires.units some was.invariant
          (sym place_is ∙ done_none (row_at s i) (sym (ap (λ (r : Row). r.done) row) ∙ w.if-index.true))))
      | else-index w ↦
          let given = w.min-given.result in
          let rest = was.rest - given in
          let sum = was.sum + given in
          rw (w.rests-is, w.rest-is, w.sum-is)
          (subst (λ (i : ℕ). IsHanded plan s units (k + 1) rest sum (slice_set was.rests i given))
          (sym c.ranked-i.ensures)
          (handed-next plan s units c.requires.of k was.rest was.sum given was.rests c.requires.units some was.invariant
          (w.min-given.ensures ∙ ap (λ (n : ℕ). min was.rest n) (w.from.ensures ∙ (w.worst_left.ensures ∙ place_is)))))
    ]

pub returns-clause-rests : goal.returns-clause-rests
returns-clause-rests c =
    let all : c.loop-k.k ≡ count c.args.plan.now = omega arith in
    handed-end c.args.plan.now c.args.view.now c.args.units c.loop-k.rest c.loop-k.sum c.loop-k.rests
    (subst (λ (k : ℕ). IsHanded c.args.plan.now c.args.view.now c.args.units
    k c.loop-k.rest c.loop-k.sum c.loop-k.rests) all c.loop-k.invariant)

pub returns-clause-sum : goal.returns-clause-sum
returns-clause-sum c =
    let all : c.loop-k.k ≡ count c.args.plan.now = omega arith in
    let handed =
    subst (λ (k : ℕ). IsHanded c.args.plan.now c.args.view.now c.args.units k c.loop-k.rest c.loop-k.sum c.loop-k.rests)
    all c.loop-k.invariant in
    walked-end c.args.plan.now (after_mark c.args.view.now) c.args.units c.loop-k.rest c.loop-k.sum handed.walked
