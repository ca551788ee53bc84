-- One legal tick over a set of tasks that is closed under priority: it has, with each task, those before it.
use Rattle.std.proofs.Common.{◌≡◌, ◌⊎◌, inl, inr, ℕ, ◌+◌, ◌-◌, ◌<◌, ◌≤◌, min, Bool, true, false, List, refl, arith}
use Rattle.std.specs.Prelude.{◌==◌, ◌||◌, if◌then◌else◌}
use Rattle.std.proofs.lemmas.Bool.{cases_lt, eq-eqb}
use Rattle.grid_fraction.specs.Numbers.{sum_where}
use Rattle.sched_model.specs.Plan.{Plan, count}
use Rattle.sched_model.specs.Jobs.{JobDemands}
use Rattle.sched_model.specs.Priority.{stands_before}
use Rattle.sched_model.specs.States.{StateView, row_at, key_in}
use Rattle.sched_model.proofs.Allotments.{down-set-gets}
use Rattle.sched_model.proofs.LevelSums.{sum_where-mono, sum_where-plus, sum_where-tight}
use Rattle.governor.specs.Steps.{wleft_at, share_in, left_in, IsLegalIn, after_tick, Belongs}
use Rattle.governor.proofs.StatesOfDemands.{tick_at, legal_most}

falls_by : (b : Bool) (used worst sh : ℕ) → used + sh ≤ worst → (if b then 0 else worst - (used + sh)) + sh ≤ worst - used
falls_by true used worst sh fits = omega arith
falls_by false used worst sh fits = omega arith

tick_falls : (done : Bool) (used worst need sh : ℕ) → (done ≡ false → used < need) → need ≤ worst
    → sh ≤ (if done then 0 else need - used)
    → (if (done || (used + sh == need)) then 0 else worst - (used + sh)) + sh ≤ (if done then 0 else worst - used)
tick_falls true used worst need sh o m le = omega arith
tick_falls false used worst need sh o m le = falls_by (used + sh == need) used worst sh (omega (arith, o refl))

tick_closes : (done : Bool) (used need sh : ℕ) → (done ≡ false → used < need) → sh ≤ (if done then 0 else need - used)
    → (if done then 0 else need - used) ≤ sh → (done || (used + sh == need)) ≡ true
tick_closes true used need sh o le all = refl
tick_closes false used need sh o le all = let e : used + sh ≡ need = omega (arith, o refl) in eq-eqb (used + sh) need e

-- the demand of a row's job is at most its worst case
pub demand_most : (plan : Plan) (dem : JobDemands) (s : StateView) → Belongs plan dem s → (i : ℕ) → i < count plan
    → dem i (row_at s i).job ≤ (row_at s i).worst
demand_most plan dem s bel i h = let m = bel.demand.most i (row_at s i).job h in let w = bel.of.worst i h in omega arith

-- what a task may still need falls by at least its units
pub tick-falls : (plan : Plan) (dem : JobDemands) (f : ℕ) (s : StateView) (shares : List ℕ) → Belongs plan dem s
    → IsLegalIn plan dem f s shares → (i : ℕ) → i < count plan
    → wleft_at (after_tick dem shares s) i + share_in shares i ≤ wleft_at s i
tick-falls plan dem f s shares bel legal i h =
    let row = row_at s i in
    rw (tick_at plan dem shares s bel i h) (tick_falls row.done row.used row.worst (dem i row.job)
    (share_in shares i) (bel.open_job i h) (demand_most plan dem s bel i h) (legal_most plan dem f s shares legal i h))

-- a task that got all that it needs is complete
pub tick-closes : (plan : Plan) (dem : JobDemands) (f : ℕ) (s : StateView) (shares : List ℕ) → Belongs plan dem s
    → IsLegalIn plan dem f s shares → (i : ℕ) → i < count plan → left_in dem s i ≤ share_in shares i
    → (row_at (after_tick dem shares s) i).done ≡ true
tick-closes plan dem f s shares bel legal i h all =
    let row = row_at s i in
    rw (tick_at plan dem shares s bel i h) (tick_closes row.done row.used (dem i row.job) (share_in shares i)
    (bel.open_job i h) (legal_most plan dem f s shares legal i h) all)

-- after the tick each task of the set is complete, or the set may need at least f units less
pub tick_set : (plan : Plan) (dem : JobDemands) (f : ℕ) (s : StateView) (shares : List ℕ) (test : ℕ → Bool)
    → Belongs plan dem s → IsLegalIn plan dem f s shares
    → ((j i : ℕ) → j < count plan → i < count plan → stands_before (key_in plan.scheduler plan s) j i ≡ true → test i ≡ true → test j ≡ true)
    → ((i : ℕ) → i < count plan → test i ≡ true → (row_at (after_tick dem shares s) i).done ≡ true)
    ⊎ (sum_where (count plan) test (wleft_at (after_tick dem shares s)) + f ≤ sum_where (count plan) test (wleft_at s))
tick_set plan dem f s shares test bel legal down =
    let t = after_tick dem shares s in
    let n = count plan in
    let gets : sum_where n test (share_in shares) ≡ min f (sum_where n test (left_in dem s)) =
    down-set-gets n (key_in plan.scheduler plan s) test f (left_in dem s) (share_in shares) down legal.out in
    let most : (i : ℕ) → i < n → share_in shares i ≤ left_in dem s i =
    legal_most plan dem f s shares legal in
    elim (cases_lt (sum_where n test (left_in dem s)) f) [
      | inl small ↦ inl (λ i h on.
          let all : left_in dem s i ≤ share_in shares i =
          sum_where-tight n test (left_in dem s) (share_in shares) most (omega arith) i h on in
          tick-closes plan dem f s shares bel legal i h all)
      | inr full ↦ inr (
          let each : sum_where n test (λ i. wleft_at t i + share_in shares i) ≤ sum_where n test (wleft_at s) =
          sum_where-mono n test (λ i. wleft_at t i + share_in shares i) (wleft_at s) (λ i h on. tick-falls plan dem f s shares bel legal i h) in
          let split = sum_where-plus n test (wleft_at t) (share_in shares) in
          omega (arith, each, split, gets))
    ]
