-- What a boundary and a tick make of the work that a row needs by a tick, and of what its rate gives.
use Rattle.std.proofs.Common.{◌≡◌, inl, inr, ℕ, ◌+◌, ◌-◌, ◌*◌, ◌<◌, ◌≤◌, min, Bool, true, false, refl, sym, ap, subst, arith, ◌==◌, ◌||◌, nat_le, if◌then◌else◌}
use Rattle.std.proofs.Math.Nat.{le_trans, mul-le-mul_left, mul-zero, sub-zero}
use Rattle.std.proofs.lemmas.Bool.{le-leb, lt-leb, cases_lt, cases_Bool, eqb-true}
use Rattle.std.proofs.lemmas.Bool.Decides.{nat_tests}
use Rattle.sched_model.specs.declared.state.Row.{Row}
use Rattle.sched_model.specs.Plan.{Plan, period}
use Rattle.sched_model.specs.Jobs.{JobDemands}
use Rattle.sched_model.specs.States.{row_wleft}
use Rattle.governor.specs.Steps.{boundary_row}
use Rattle.governor.proofs.StatesOfDemands.{boundary_row-by}
use Rattle.cc_edf_laws.specs.Cycle.{charged_of}

-- what a row that is due by d may still need; 0 for a row that is due later
abbrev pub owed : ℕ → Row → ℕ
owed d row = if nat_le row.deadline d then row_wleft row else 0

-- what a row's rate gives from the present tick up to d or its deadline, where q is H over its period
abbrev pub credit_of : ℕ → ℕ → ℕ → Row → ℕ
credit_of q now d row = charged_of row * q * (min d row.deadline - now)

same_both : (b : Bool) (x : ℕ) → (if b then x else x) ≡ x
same_both b x = grind arith

-- the rate of a released row gives at least what its job may need by d
opened_pays : (b : Bool) (h q p c now d after : ℕ) → q * p ≡ h → now ≤ d → after ≡ now + p
    → h * (if nat_le after d then (if b then 0 else c - 0) else 0) ≤ (if b then 0 else c) * q * (min d after - now)
opened_pays true h q p c now d after whole le is = rw (same_both (nat_le after d) 0) (omega (arith, mul-zero h))
opened_pays false h q p c now d after whole le is =
    elim (cases_lt d after) [
      | inl past ↦ rw (lt-leb after d past) (omega (arith, mul-zero h))
      | inr fits ↦
          let span : min d after - now ≡ p = omega arith in
          let work : c * (q * p) ≡ c * h = ap (λ (x : ℕ). c * x) whole in
          rw (le-leb after d fits, span, sub-zero c) (omega (arith, work))
    ]

-- at a boundary, if each row that is due is complete, the work stays paid for
pub boundary_pays : (plan : Plan) (dem : JobDemands) (h q now d i : ℕ) (row : Row) → q * period plan i ≡ h
    → (row.deadline ≡ now → row.done ≡ true) → now ≤ d
    → h * owed d (boundary_row plan dem now i row) + credit_of q now d row ≤ h * owed d row + credit_of q now d (boundary_row plan dem now i row)
boundary_pays plan dem h q now d i row whole closed le = grind (arith, nat_tests, boundary_row-by, opened_pays, mul-zero)

-- a rate of c * q gives at most H times c units in a part of the period
complete_pays : (h q p c e : ℕ) → q * p ≡ h → e ≤ p → c * q * e ≤ h * c
complete_pays h q p c e whole le = grind (arith, le_trans, mul-le-mul_left)

-- a complete job in a tick: it needs nothing, and its rate gives one tick less
tick_done : (b : Bool) (h q used k : ℕ)
    → h * (if b then 0 else 0) + h * (if b then 0 else 0) + used * q * (k + 1) ≤ h * (if b then 0 else 0) + (used + 0) * q * k + used * q
tick_done b h q used k = grind arith

-- a job that stays incomplete in a tick: its work falls by its units, and its rate gives one tick less
tick_open : (b : Bool) (h q used worst sh k : ℕ) → used + sh ≤ worst → (b ≡ false → sh ≡ 0)
    → h * (if b then worst - (used + sh) else 0) + h * (if b then sh else 0) + worst * q * (k + 1) ≤ h *
    (if b then worst - used else 0) + worst * q * k + worst * q
tick_open true h q used worst sh k le none = let e : (worst - (used + sh)) + sh ≡ worst - used = omega arith in omega (arith, ap (λ (x : ℕ). h * x) e)
tick_open false h q used worst sh k le none = omega arith

-- a job that completes in a tick c units below its worst case: the work that it leaves pays for its lower rate
tick_close_by : (h q p need sh c k : ℕ) → q * p ≡ h → k ≤ p
    → h * sh + (need + c) * q * (k + 1) ≤ h * (sh + c) + need * q * k + (need + c) * q
tick_close_by h q p need sh c k whole le = omega (arith, complete_pays h q p c k whole le)

tick_close : (h q p need used worst sh k : ℕ) → q * p ≡ h → k ≤ p → used + sh ≡ need → need ≤ worst
    → h * sh + worst * q * (k + 1) ≤ h * (worst - used) + (used + sh) * q * k + worst * q
tick_close h q p need used worst sh k whole le is most =
    let c = worst - need in
    let a : worst ≡ need + c = omega arith in
    let b : worst - used ≡ sh + c = omega arith in
    let by = tick_close_by h q p need sh c k whole le in
    rw (b, is) (subst (λ (w : ℕ). h * sh + w * q * (k + 1) ≤ h * (sh + c) + need * q * k + w * q) (sym a) by)

-- a tick pays each unit of a task that is due by d: the work falls by the units,
-- and the credit by at most the rate of one tick
pub tick_pays : (done : Bool) (h q p need used worst due now d sh : ℕ) → q * p ≡ h → now + 1 ≤ due → now + 1 ≤ d
    → (done ≡ false → due ≤ now + p) → (done ≡ false → used < need) → need ≤ worst
    → sh ≤ (if done then 0 else need - used) → (d < due → sh ≡ 0)
    → h * (if nat_le due d then (if (done || (used + sh == need)) then 0 else worst - (used + sh)) else 0) + h *
    (if nat_le due d then sh else 0) + (if done then used else worst) * q * (min d due - now)
    ≤ h * (if nat_le due d then (if done then 0 else worst - used) else 0) + (if (done || (used + sh == need)) then used + sh
    else worst) * q * (min d due - (now + 1)) + (if done then used else worst) * q
tick_pays true h q p need used worst due now d sh whole lo ld soon open_job most own none =
    grind (arith, tick_done (nat_le due d) h q used (min d due - (now + 1)))
tick_pays false h q p need used worst due now d sh whole lo ld soon open_job most own none =
    let k = min d due - (now + 1) in
    let span : min d due - now ≡ k + 1 = omega arith in
    let going : used < need = open_job refl in
    let P : Bool → Type 0 = λ (b : Bool).
    h * (if nat_le due d then (if b then 0 else worst - (used + sh)) else 0) + h * (if nat_le due d then sh else 0) + worst * q * (k + 1)
    ≤ h * (if nat_le due d then worst - used else 0) + (if b then used + sh else worst) * q * k + worst * q in
    rw span
    (elim (cases_Bool (used + sh == need)) [
      | inl closes ↦
          let is : used + sh ≡ need = eqb-true (used + sh) need closes in
          subst P (sym closes)
          (elim (cases_lt d due) [
            | inl later ↦ absurd (omega (arith, none later))
            | inr by ↦
                let near : k ≤ p = omega (arith, soon refl) in
                rw (le-leb due d by) (let t = tick_close h q p need used worst sh k whole near is most in omega (arith, t, mul-zero h))
          ])
      | inr goes ↦
          subst P (sym goes)
          (elim (cases_lt d due) [
            | inl later ↦ rw (lt-leb due d later) (tick_open false h q used worst sh k (omega arith) (λ e. none later))
            | inr by ↦ rw (le-leb due d by) (tick_open true h q used worst sh k (omega arith) (λ e. absurd (let t : true ≡ false = e in cc)))
          ])
    ])

-- a tick raises no charge
pub tick_charge : (done : Bool) (need used worst sh : ℕ) → need ≤ worst → sh ≤ (if done then 0 else need - used)
    → (if (done || (used + sh == need)) then used + sh else worst) ≤ (if done then used else worst)
tick_charge done need used worst sh most own = grind (arith, nat_tests)

-- a charge is at most the worst case
pub charged_most : (row : Row) → row.used ≤ row.worst → charged_of row ≤ row.worst
charged_most row le = grind (arith, nat_tests)
