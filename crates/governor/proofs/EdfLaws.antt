-- The laws under EDF at one speed.
use Rattle.std.proofs.Common.{◌≡◌, inl, inr, ℕ, ◌+◌, ◌-◌, ◌*◌, ◌<◌, ◌≤◌, true, false, List, refl, sym, ◌∙◌, ap, subst, arith}
use Rattle.std.proofs.Math.Nat.{mul-le-mul_left, mul-le-mul_right, mul-zero, sub-zero, le_of_mul-le-mul_left}
use Rattle.std.specs.Prelude.{if◌then◌else◌, nat_le, ◌/◌}
use Rattle.std.proofs.lemmas.Bool.{le-leb, leb-true, cases_lt, cases_Bool}
use Rattle.std.proofs.lemmas.Bool.Decides.{nat_tests}
use Rattle.dvs_base.specs.declared.kind.Scheduler.{Scheduler}
use Rattle.dvs_base.specs.declared.kind.Scheduler.TheVariants.{Edf}
use Rattle.grid_fraction.specs.Numbers.{sum_below, sum_where}
use Rattle.grid_fraction.proofs.Sums.{sum_below-same, sum_below-le}
use Rattle.grid_fraction.proofs.Least.{least-below, least-above, least-same}
use Rattle.freq_table.specs.Tables.{speed_at}
use Rattle.sched_model.specs.declared.state.Row.{Row}
use Rattle.sched_model.specs.Priority.{stands_before}
use Rattle.sched_model.specs.Plan.{Plan, count, period, offset, worst, hyper, rate}
use Rattle.sched_model.specs.Jobs.{JobDemands}
use Rattle.sched_model.specs.Tests.{total_rate}
use Rattle.sched_model.specs.Admission.{IsWithinLimits}
use Rattle.sched_model.specs.States.{StateView, row_at, row_wleft, opening, opening_row, earliest_in, key_in}
use Rattle.sched_model.proofs.Limits.{some_task, some_hyper, period_divides}
use Rattle.sched_model.proofs.LevelSums.{sum_where-plus, sum_where-times, sum_where-term, sum_where-zero, sum_where-all, sum_below-times}
use Rattle.governor.specs.Steps.{boundary_row, opened_row, after_boundary, wleft_at, IsLegalIn, after_tick, IsBeforeAll, Belongs}
use Rattle.governor.proofs.StatesOfDemands.{wleft-most, earliest-from, opening_at, boundary_row-by, boundary_at, tick_at}
use Rattle.governor.proofs.Ticks.{tick_set, demand_most}
use Rattle.governor.specs.Edf.{due_by, load, EdfCalm, EdfSafe}

same_speed : (F t a d : ℕ) → t ≤ a → a ≤ d → F * (a - t) + F * (d - a) ≡ F * (d - t)
same_speed F t a d ta ad = let e : d - t ≡ (a - t) + (d - a) = omega arith in rw e (omega arith)

-- the lower speed f up to tick a and F from there to d do at most what F does all the time
two_speeds : (f F t a d : ℕ) → f ≤ F → t ≤ a → a ≤ d → f * (a - t) + F * (d - a) ≤ F * (d - t)
two_speeds f F t a d le ta ad = omega (arith, mul-le-mul_right (a - t) le, same_speed F t a d ta ad)

-- an incomplete job may still need some units, so a row that needs none is complete
pub closed_row : (row : Row) (n : ℕ) → row_wleft row ≡ 0 → (row.done ≡ false → row.used < n) → n ≤ row.worst → row.done ≡ true
closed_row row n none open_job most = grind (arith, nat_tests)

-- the part of one task in the load
abbrev term : ℕ → ℕ → ℕ → Row → ℕ
term h d u row = if nat_le row.deadline d then h * row_wleft row + u * (d - row.deadline) else 0

-- the load is the sum of the tasks' parts
pub load_is : (plan : Plan) (s : StateView) (d : ℕ)
    → load plan s d ≡ sum_below (count plan) (λ i. term (hyper plan) d (rate plan i) (row_at s i))
load_is plan s d =
    let n = count plan in
    ap (λ (x : ℕ). x + sum_where n (due_by s d) (λ i. rate plan i * (d - (row_at s i).deadline))) (sum_where-times n (hyper plan) (due_by s d) (wleft_at s))
    ∙ sym (sum_where-plus n (due_by s d) (λ i. (hyper plan) * wleft_at s i) (λ i. rate plan i * (d - (row_at s i).deadline)))

-- the rate of a task over one period covers the work of the job that is released
release_pays : (h p q c w d now : ℕ) → q * p ≡ h → w ≤ c → now + p ≤ d → h * w + c * q * (d - (now + p)) ≤ c * q * (d - now)
release_pays h p q c w d now whole le within =
    let span : d - now ≡ p + (d - (now + p)) = omega arith in
    let work : c * (q * p) ≡ c * h = ap (λ (x : ℕ). c * x) whole in
    rw span (omega (arith, work, mul-le-mul_left h le))

term_opened : (plan : Plan) (dem : JobDemands) (h d now i p c : ℕ) (row : Row) → period plan i ≡ p → row.worst ≡ c
    → h / p * p ≡ h → row.done ≡ true → row.deadline ≡ now → now ≤ d
    → term h d (c * (h / p)) (opened_row plan dem i row) ≤ term h d (c * (h / p)) row
term_opened plan dem h d now i p c row per wor whole closed at_now le =
    grind (arith, nat_tests, cases_Bool, le-leb, leb-true, mul-zero, release_pays, wleft-most)

term_boundary : (plan : Plan) (dem : JobDemands) (h d now i p c : ℕ) (row : Row) → period plan i ≡ p → row.worst ≡ c
    → h / p * p ≡ h → (row.deadline ≡ now → row.done ≡ true) → now ≤ d
    → term h d (c * (h / p)) (boundary_row plan dem now i row) ≤ term h d (c * (h / p)) row
term_boundary plan dem h d now i p c row per wor whole closed le = grind (arith, nat_tests, boundary_row-by, term_opened)

by_rates : (h f F x y u w rest : ℕ) → w ≡ 0 → rest ≤ y * u → u ≤ F * h → h * w + rest ≤ h * (f * x + F * y)
by_rates h f F x y u w rest none le fits = rw none (omega (arith, mul-le-mul_left y fits, mul-zero h))

by_units : (h f F x y new old rest : ℕ) → new + f ≤ old → h * old + rest ≤ h * (f * (x + 1) + F * y) → h * new + rest ≤ h * (f * x + F * y)
by_units h f F x y new old rest falls before = omega (arith, mul-le-mul_left h falls)

opening_term : (h d u o c : ℕ) → term h d u (opening_row o c) ≤ d * u
opening_term h d u o c = grind (arith, nat_tests)

module _ (F : ℕ) (plan : Plan) (lim : IsWithinLimits plan) where
  pub edf_opens : total_rate plan ≤ F * (hyper plan) → EdfCalm F plan (opening plan)
  edf_opens fits d le =
      let n = count plan in
      let each : sum_below n (λ i. term (hyper plan) d (rate plan i) (row_at (opening plan) i)) ≤ sum_below n (λ i. d * rate plan i) =
      sum_below-le n (λ i. term (hyper plan) d (rate plan i) (row_at (opening plan) i)) (λ i. d * rate plan i) (λ i h.
      rw (opening_at plan i h) (opening_term (hyper plan) d (rate plan i) (offset plan i) (worst plan i))) in
      let whole : d - (opening plan).now ≡ d = sub-zero d in
      rw whole (omega (arith, load_is plan (opening plan) d, each, sum_below-times n d (rate plan), mul-le-mul_left d fits))

  module _ (dem : JobDemands) (s : StateView) (bel : Belongs plan dem s) where
    -- no task is due before the earliest deadline
    none_due : (d : ℕ) → d < earliest_in plan s → load plan s d ≡ 0
    none_due d lt =
        let off : (i : ℕ) → i < count plan → due_by s d i ≡ true → ⊥ = λ i h on.
        (let g : (row_at s i).deadline ≤ d = leb-true (row_at s i).deadline d on in omega (arith, least-below (count plan) (λ i. (row_at s i).deadline) i h)) in
        let a = sum_where-zero (count plan) (due_by s d) (wleft_at s) (λ i h on. absurd (off i h on)) in
        let b = sum_where-zero (count plan) (due_by s d) (λ i. rate plan i * (d - (row_at s i).deadline)) (λ i h on. absurd (off i h on)) in
        rw (a, b) (omega (arith, mul-zero (hyper plan)))

    pub edf_stays_calm : (k : ℕ) → EdfSafe F plan s k → EdfCalm F plan s
    edf_stays_calm k safe d le =
        elim (cases_lt d (earliest_in plan s)) [
          | inl before ↦ rw (none_due d before) (omega arith)
          | inr from ↦
              omega (
                arith,
                safe.bound d from,
                mul-le-mul_left (hyper plan)
                    (two_speeds (speed_at plan.machine k) F s.now (earliest_in plan s) d safe.slower (earliest-from plan lim dem s bel) from),
              )
        ]

    pub edf_chooses : (k : ℕ) → speed_at plan.machine k ≡ F → EdfCalm F plan s → EdfSafe F plan s k
    edf_chooses k same calm = record {
      bound = λ d le.
          let first : s.now ≤ earliest_in plan s = earliest-from plan lim dem s bel in
          rw (same, same_speed F s.now (earliest_in plan s) d first le) (calm d (omega arith));
      slower = omega arith;
    }

    pub edf_completes : EdfCalm F plan s → (i : ℕ) → i < count plan → (row_at s i).deadline ≡ s.now → (row_at s i).done ≡ true
    edf_completes calm i h e =
        let none : (hyper plan) * (F * (s.now - s.now)) ≡ 0 = (let z : s.now - s.now ≡ 0 = omega arith in rw z (omega arith)) in
        let all : load plan s s.now ≤ 0 = rw none at (calm s.now (omega arith)) in
        let total : sum_where (count plan) (due_by s s.now) (wleft_at s) ≤ 0 =
        le_of_mul-le-mul_left {m = sum_where (count plan) (due_by s s.now) (wleft_at s)} {n = 0} {k = hyper plan} (omega (arith, all)) (some_hyper plan lim) in
        let mine = sum_where-term (count plan) (due_by s s.now) (wleft_at s) i h (le-leb (row_at s i).deadline s.now (omega arith)) in
        closed_row (row_at s i) (dem i (row_at s i).job) (omega arith) (bel.open_job i h) (demand_most plan dem s bel i h)

    pub edf_releases : EdfCalm F plan s → EdfCalm F plan (after_boundary plan dem s)
    edf_releases calm d le =
        let t = after_boundary plan dem s in
        let falls : sum_below (count plan) (λ i. term (hyper plan) d (rate plan i) (row_at t i))
        ≤ sum_below (count plan) (λ i. term (hyper plan) d (rate plan i) (row_at s i)) =
        sum_below-le (count plan) (λ i. term (hyper plan) d (rate plan i) (row_at t i)) (λ i. term (hyper plan) d (rate plan i) (row_at s i)) (λ i h.
        rw (boundary_at plan dem s bel i h)
        (term_boundary plan dem (hyper plan) d s.now i (period plan i) (worst plan i) (row_at s i) refl (bel.of.worst i h)
        (period_divides plan lim i h) (edf_completes calm i h) le)) in
        let now = calm d le in
        omega (arith, load_is plan t d, load_is plan s d, falls, now)

    pub edf_ticks : plan.scheduler ≡ Edf → total_rate plan ≤ F * (hyper plan) → (k : ℕ) (shares : List ℕ)
        → IsBeforeAll plan s → IsLegalIn plan dem (speed_at plan.machine k) s shares → EdfSafe F plan s k
        → EdfSafe F plan (after_tick dem shares s) k
    edf_ticks edf fits k shares before legal safe = record {
      bound = λ d le.
          let f = speed_at plan.machine k in
          let h = (hyper plan) in
          let n = count plan in
          let a = earliest_in plan s in
          let t = after_tick dem shares s in
          let kept : earliest_in plan t ≡ a =
          least-same n (λ i. (row_at t i).deadline) (λ i. (row_at s i).deadline)
          (λ i lt. ap (λ (row : Row). row.deadline) (tick_at plan dem shares s bel i lt)) in
          let due : a ≤ d = rw kept at le in
          let next : s.now + 1 ≤ a =
          least-above n (λ i. (row_at s i).deadline) (s.now + 1) (some_task plan lim) (λ i lt. let g = before i lt in omega (arith, g)) in
          let down : (j i : ℕ) → j < n → i < n → stands_before (key_in plan.scheduler plan s) j i ≡ true → due_by s d i ≡ true → due_by s d j ≡ true =
          subst (λ (sch : Scheduler). (j i : ℕ) → j < n → i < n → stands_before (key_in sch plan s) j i ≡ true → due_by s d i ≡ true
          → due_by s d j ≡ true) (sym edf) (λ j i lj li b on. grind (arith, nat_tests)) in
          let x : ℕ → ℕ = λ i. rate plan i * (d - (row_at s i).deadline) in
          let work : sum_where n (due_by t d) (wleft_at t) ≡ sum_where n (due_by s d) (wleft_at t) =
          sum_below-same n (λ i. if due_by t d i then wleft_at t i else 0) (λ i. if due_by s d i then wleft_at t i else 0)
          (λ i lt. ap (λ (row : Row). if nat_le row.deadline d then wleft_at t i else 0) (tick_at plan dem shares s bel i lt)) in
          let rest : sum_where n (due_by t d) (λ i. rate plan i * (d - (row_at t i).deadline)) ≡ sum_where n (due_by s d) x =
          sum_below-same n (λ i. if due_by t d i then rate plan i * (d - (row_at t i).deadline) else 0) (λ i. if due_by s d i then x i else 0)
          (λ i lt. ap (λ (row : Row). if nat_le row.deadline d then rate plan i * (d - row.deadline) else 0) (tick_at plan dem shares s bel i lt)) in
          let room : h * sum_where n (due_by s d) (wleft_at t) + sum_where n (due_by s d) x ≤ h * (f * (a - (s.now + 1)) + F * (d - a)) =
          elim (tick_set plan dem f s shares (due_by s d) bel legal down) [
            | inl all ↦
                let none = sum_where-zero n (due_by s d) (wleft_at t) (λ i lt on. let e = all i lt on in rw e refl) in
                let rates : sum_where n (due_by s d) x ≤ sum_below n (λ i. (d - a) * rate plan i) =
                sum_where-all n (due_by s d) x (λ i. (d - a) * rate plan i) (λ i lt.
                let near : d - (row_at s i).deadline ≤ d - a = (let g = least-below n (λ i. (row_at s i).deadline) i lt in omega arith) in
                omega (arith, mul-le-mul_left (rate plan i) near)) in
                let whole = sum_below-times n (d - a) (rate plan) in
                by_rates h f F (a - (s.now + 1)) (d - a) (total_rate plan) (sum_where n (due_by s d) (wleft_at t))
                (sum_where n (due_by s d) x) none (omega (arith, rates, whole)) fits
            | inr falls ↦
                let span : a - s.now ≡ (a - (s.now + 1)) + 1 = omega arith in
                let earlier : load plan s d ≤ h * (f * (a - s.now) + F * (d - a)) = safe.bound d due in
                by_units h f F (a - (s.now + 1)) (d - a) (sum_where n (due_by s d) (wleft_at t)) (sum_where n (due_by s d) (wleft_at s))
                (sum_where n (due_by s d) x) falls (rw span at earlier)
          ] in
          rw (kept, work, rest) room;
      slower = safe.slower;
    }
