-- The first releases of the tasks, one after the other, and the mark after them.
use Rattle.std.proofs.Common.{◌≡◌, ◌≢◌, ℕ, ◌+◌, ◌<◌, ◌≤◌, zero, suc, Bool, true, false, eqb, [], length, set, length-set, get_or-set_same, get_or-set_other, refl, arith, ap, ◌∙◌, sym, subst, add-one, nat_eq}
use Rattle.std.specs.Prelude.{slice_set}
use Rattle.std.proofs.lemmas.Bool.Decides.{nat_tests}
use Rattle.sched_model.specs.declared.state.Row.{Row}
use Rattle.sched_model.specs.Plan.{Plan, count, period, offset, worst}
use Rattle.sched_model.specs.Admission.{IsAdmitted}
use Rattle.sched_model.proofs.Limits.{every_period}
use Rattle.sched_model.specs.States.{StateView, opening, state_of, after_release, after_mark, no_row, row_at, released_row, IsOfPlan, CanRelease}
use Rattle.governor.specs.Steps.{IsAtDecision}
use Rattle.event_kernel.proofs.PlanBounds.{PlanBounds, bounds}
use Rattle.event_kernel.proofs.BoundaryReleases.{HasReleased, releasing-start, row-there, skips, opens, can-release, released-marked, released-unmarked}
use Rattle.event_kernel.proofs.DecisionStates.{at-decision}
use Rattle.event_kernel.proofs.StatesOfPlan.{of-prior, of-state}

module _ (p : Plan) where
  -- a state of a plan stays one with another row of task i, of the same worst case and no more units than that
  of-set : (s : StateView) (i : ℕ) (r : Row) → IsOfPlan p s → i < length s.rows → r.worst ≡ (row_at s i).worst → r.used ≤ (row_at s i).worst
      → IsOfPlan p (record s { rows = set s.rows i r })
  of-set s i r o lt w u = record {
    rows = length-set s.rows i r ∙ o.rows;
    base = o.base;
    worst = λ k l. at k l (eqb k i) refl;
    used = λ k l. in-it k l (eqb k i) refl;
  }
    where
      here : row_at (record s { rows = set s.rows i r }) i ≡ r
      here = get_or-set_same s.rows i r no_row lt

      at : (k : ℕ) → k < count p → (b : Bool) → eqb k i ≡ b → (row_at (record s { rows = set s.rows i r }) k).worst ≡ worst p k
      at k l true e =
          let same : i ≡ k = grind (arith, nat_tests) in
          subst (λ m. (row_at (record s { rows = set s.rows i r }) m).worst ≡ worst p m) same
          (ap (λ (q : Row). q.worst) here ∙ (w ∙ o.worst i (omega (arith, lt, o.rows))))
      at k l false e =
          let other : k ≢ i = grind (arith, nat_tests) in
          ap (λ (q : Row). q.worst) (get_or-set_other s.rows i k r no_row other) ∙ o.worst k l

      in-it : (k : ℕ) → k < count p → (b : Bool) → eqb k i ≡ b
          → (row_at (record s { rows = set s.rows i r }) k).used ≤ (row_at (record s { rows = set s.rows i r }) k).worst
      in-it k l true e =
          let same : i ≡ k = grind (arith, nat_tests) in
          subst (λ m. (row_at (record s { rows = set s.rows i r }) m).used ≤ (row_at (record s { rows = set s.rows i r }) m).worst) same
          (omega (arith, ap (λ (q : Row). q.used) here, ap (λ (q : Row). q.worst) here, w, u))
      in-it k l false e =
          let other : k ≢ i = grind (arith, nat_tests) in
          omega (
            arith,
            ap (λ (q : Row). q.used) (get_or-set_other s.rows i k r no_row other),
            ap (λ (q : Row). q.worst) (get_or-set_other s.rows i k r no_row other),
            o.used k l,
          )

  of-release : (s : StateView) (i : ℕ) → IsOfPlan p s → CanRelease p s i → IsOfPlan p (after_release p s i)
  of-release s i o c = of-set s i _ o c.task refl (omega arith)

-- the demands with one unit for every job; 0 for job 0
abbrev one_unit : ℕ → ℕ → ℕ
one_unit i zero = 0
one_unit i (suc k) = 1

needed : (i k : ℕ) → nat_eq (one_unit i (k + 1)) 0 ≡ false
needed i k = rw (add-one k) refl

-- of the first m tasks, those without an offset are released; `any` says whether there are any
pub record HasFirstReleased (p : Plan) (m : ℕ) (any : Bool) (s : StateView) : Type 0 where
  pub rows : HasReleased p one_unit [] m any s
  pub of : IsOfPlan p s

pub none-released : (p : Plan) (s : StateView) → s ≡ opening p → HasFirstReleased p 0 false s
none-released p s is = subst (HasFirstReleased p 0 false) (sym is) (record {
  rows = releasing-start p one_unit [];
  of = of-prior p one_unit [] (λ i k lt. omega arith);
})

module _ (p : Plan) (adm : IsAdmitted p) where
  b : PlanBounds p
  b = bounds p adm.limits

  module _ (m : ℕ) (any : Bool) (s : StateView) (h : HasFirstReleased p m any s) (lt : m < count p) where
    deadline-is : (row_at s m).deadline ≡ offset p m
    deadline-is = ap (λ (r : Row). r.deadline) (row-there (every_period p adm.limits) h.rows m lt (omega arith))

    now-is : s.now ≡ 0
    now-is = ap (λ (v : StateView). v.now) h.rows.state

    due-now : offset p m ≡ 0 → (row_at s m).deadline ≡ s.now
    due-now first = deadline-is ∙ (first ∙ sym now-is)

    pub next-can_release : offset p m ≡ 0 → CanRelease p s m
    next-can_release first =
        can-release (every_period p adm.limits) h.rows lt (due-now first) b (omega arith) (λ d. refl)

    pub next-released : offset p m ≡ 0 → HasFirstReleased p (m + 1) true (after_release p s m)
    next-released first = record {
      rows = opens (every_period p adm.limits) h.rows lt (due-now first) (after_release p s m) is;
      of = of-release p s m h.of (next-can_release first);
    }
      where
        job : ℕ
        job = (row_at s m).job

        is : after_release p s m
            ≡ record s { rows = slice_set s.rows m (record (released_row (period p m) (row_at s m)) { done = nat_eq (one_unit m (job + 1)) 0 }) }
        is = ap (λ c. record s { rows = slice_set s.rows m (record (released_row (period p m) (row_at s m)) { done = c }) }) (sym (needed m job))

    pub next-passed : (offset p m ≡ 0 → ⊥) → HasFirstReleased p (m + 1) any s
    next-passed late =
        let apart : (row_at s m).deadline ≡ s.now → ⊥ = (λ e. late (sym deadline-is ∙ (e ∙ now-is))) in
        let only : (k : ℕ) → m ≤ k → k < m + 1 → (row_at s k).deadline ≢ s.now = λ k lo hi.
        (let here : m ≡ k = omega (arith, lo, hi) in subst (λ i. (row_at s i).deadline ≢ s.now) here apart) in
        record { rows = (skips (every_period p adm.limits) h.rows (m + 1) (λ i. refl) (omega arith) (omega (arith, lt)) only).0; of = h.of }

  -- all tasks without an offset are released, and the tick is marked if there are any
  module _ (m : ℕ) (s : StateView) (all : m ≡ count p) where
    marked-is : HasFirstReleased p m true s → after_mark s ≡ state_of p one_unit []
    marked-is h = released-marked (every_period p adm.limits) refl (subst (λ n. HasReleased p one_unit [] n true s) all h.rows)

    unmarked-is : HasFirstReleased p m false s → s ≡ state_of p one_unit []
    unmarked-is h = released-unmarked (every_period p adm.limits) (λ i. refl) refl (subst (λ n. HasReleased p one_unit [] n false s) all h.rows)

    pub marked-of : HasFirstReleased p m true s → IsOfPlan p (after_mark s)
    marked-of h = subst (IsOfPlan p) (sym (marked-is h)) (of-state p one_unit [] (λ i k lt. omega arith))

    pub marked-decision : HasFirstReleased p m true s → IsAtDecision p (after_mark s)
    marked-decision h = subst (IsAtDecision p) (sym (marked-is h)) (at-decision p b one_unit [])

    pub unmarked-decision : HasFirstReleased p m false s → IsAtDecision p s
    unmarked-decision h = subst (IsAtDecision p) (sym (unmarked-is h)) (at-decision p b one_unit [])
