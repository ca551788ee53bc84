-- The laws of cycle-conserving EDF, and what each call makes of the kept rates and their sum.
use Rattle.std.proofs.Common.{◌≡◌, ℕ, ◌<◌, ◌≤◌, min, Bool, true, false, List, refl, subst, arith, inl, inr, ◌+◌, ◌-◌, ◌*◌, ◌/◌, ◌^◌, ap, sym, ◌∙◌, ◌≢◌, length, length-set, get_or-set_same, get_or-set_other, ◌⊎◌, if◌then◌else◌, slice_set, slice_index}
use Rattle.freq_table.specs.declared.limits.TheConstants.{TOP_SPEED}
use Rattle.std.proofs.lemmas.Bool.Decides.{nat_tests}
use Rattle.std.proofs.Math.Nat.{mul-le-mul_right, mul-zero, le_of_mul-le-mul_left}
use Rattle.std.proofs.lemmas.Bool.{le-leb, cases_lt, cases_eq}
use Rattle.std.proofs.Math.ListN.{replicate, get_or-replicate, length-replicate}
use Rattle.std.proofs.lemmas.List.{set-get_or}
use Rattle.std.proofs.lemmas.Nat.{mul-le}
use Rattle.dvs_base.specs.declared.kind.Scheduler.{Scheduler}
use Rattle.grid_fraction.specs.Numbers.{sum_where, sum_below}
use Rattle.grid_fraction.proofs.Sums.{sum_below-le, sum_below-add, sum_below-zero, sum_below-change}
use Rattle.sched_model.specs.Plan.{Plan, count, period, worst, hyper, rate, top_speed}
use Rattle.sched_model.specs.Jobs.{JobDemands}
use Rattle.sched_model.specs.Priority.{stands_before, sum_before, SharesOut}
use Rattle.sched_model.specs.States.{StateView, row_at, key_in, opening, IsOfPlan, no_row, released_row, after_release, after_run, after_finish}
use Rattle.sched_model.proofs.Allotments.{due_by_gets}
use Rattle.sched_model.proofs.LevelSums.{sum_where-tight, sum_below-times, sum_where-term, sum_where-zero, sum_below-term}
use Rattle.governor.specs.ServedSchedulers.{ServesEdf}
use Rattle.governor.specs.Steps.{share_in, left_in, IsLegalIn, after_tick, Belongs, after_boundary, wleft_at, IsBeforeAll}
use Rattle.governor.proofs.StatesOfDemands.{legal_most, unborn_done, opening_at, boundary_at, tick_at, due_soon}
use Rattle.governor.proofs.Ticks.{tick-closes, demand_most}
use Rattle.governor.specs.Edf.{due_by}
use Rattle.dvs_base.specs.declared.kind.GovernorKind.TheVariants.{Cycle}
use Rattle.dvs_base.specs.PlanWords.{IsPair}
use Rattle.freq_table.specs.Tables.{speed_at, lowest_entry, lowest_pick}
use Rattle.freq_table.proofs.Chosen.{picked_meets, picked_met}
use Rattle.sched_model.specs.Tests.{total_rate}
use Rattle.sched_model.specs.Admission.{IsWithinLimits, IsAdmitted}
use Rattle.sched_model.proofs.Limits.{some_hyper, low_hyper, period_divides}
use Rattle.governor.specs.Laws.{GovernorLaws}
use Rattle.governor.proofs.EdfLaws.{closed_row}
use Rattle.governor.proofs.Fits.{full_enough}
use Rattle.sched_model.specs.declared.state.Row.{Row}
use Rattle.cc_edf_laws.specs.Cycle.{charged_of, charged_rate_in, edf_cycle_demand, Counts}
use Rattle.cc_edf_laws.specs.Conditions.{due_work, credit, CycleCalm, CycleSafe}
use Rattle.cc_edf_laws.proofs.Rows.{owed, credit_of, boundary_pays, tick_pays, tick_charge, charged_most}

if-weaker : (a b : Bool) (x : ℕ) → (a ≡ true → b ≡ true) → (if a then x else 0) ≤ (if b then x else 0)
if-weaker a b x h = grind arith

module _ (plan : Plan) (dem : JobDemands) (f : ℕ) (s : StateView) (shares : List ℕ) (edf : ServesEdf plan.scheduler)
    (bel : Belongs plan dem s) (legal : IsLegalIn plan dem f s shares) where
  abbrev deadlines : ℕ → ℕ
  deadlines i = (row_at s i).deadline

  by_deadline : SharesOut (count plan) deadlines f (left_in dem s) (share_in shares)
  by_deadline = subst (λ (sch : Scheduler). SharesOut (count plan) (key_in sch plan s) f (left_in dem s) (share_in shares)) edf legal.out

  pub due_gets : (d : ℕ)
      → sum_where (count plan) (due_by s d) (share_in shares) ≡ min f (sum_where (count plan) (due_by s d) (left_in dem s))
  due_gets d = due_by_gets (count plan) deadlines d f (left_in dem s) (share_in shares) by_deadline

  -- if the speed covers what the tasks due by d need, each of them is complete after the tick
  pub due_closes : (d : ℕ) → sum_where (count plan) (due_by s d) (left_in dem s) ≤ f → (i : ℕ) → i < count plan
      → due_by s d i ≡ true → (row_at (after_tick dem shares s) i).done ≡ true
  due_closes d low i h on =
      tick-closes plan dem f s shares bel legal i h
      (sum_where-tight (count plan) (due_by s d) (left_in dem s) (share_in shares) (legal_most plan dem f s shares legal) (omega (arith, due_gets d)) i h on)

  -- if the tasks due by d need all units of the tick, they get them all
  pub due_full : (d : ℕ) → f ≤ sum_where (count plan) (due_by s d) (left_in dem s)
      → sum_where (count plan) (due_by s d) (share_in shares) ≡ f
  due_full d high = omega (arith, due_gets d)

  -- if the tasks due by d need all units of the tick, no task that is due later gets any
  pub later_none : (d : ℕ) → f ≤ sum_where (count plan) (due_by s d) (left_in dem s) → (i : ℕ) → i < count plan
      → d < (row_at s i).deadline → share_in shares i ≡ 0
  later_none d high i h later =
      let first : (k : ℕ) → due_by s d k ≡ true → stands_before deadlines k i ≡ true = λ k on. grind (arith, nat_tests) in
      let before : sum_where (count plan) (due_by s d) (share_in shares) ≤ sum_before (count plan) deadlines (share_in shares) i =
      sum_below-le (count plan) (λ k. if due_by s d k then share_in shares k else 0) (λ k. if stands_before deadlines k i then share_in shares k else 0)
      (λ k l. if-weaker (due_by s d k) (stands_before deadlines k i) (share_in shares k) (first k)) in
      omega (arith, before, due_full d high, by_deadline i h)

-- an inequality of two terms for each task, added up
sum-two : (n : ℕ) (a b c d : ℕ → ℕ) → ((i : ℕ) → i < n → a i + b i ≤ c i + d i)
    → sum_below n a + sum_below n b ≤ sum_below n c + sum_below n d
sum-two n a b c d each = grind (arith, sum_below-le, sum_below-add n a b, sum_below-add n c d)

sum-three : (n : ℕ) (a b p c d q : ℕ → ℕ) → ((i : ℕ) → i < n → a i + b i + p i ≤ c i + d i + q i)
    → sum_below n a + sum_below n b + sum_below n p ≤ sum_below n c + sum_below n d + sum_below n q
sum-three n a b p c d q each =
    let all = sum-two n (λ i. a i + b i) p (λ i. c i + d i) q each in
    omega (arith, all, sum_below-add n a b, sum_below-add n c d)

-- before the first release no work is due
cycle_opens : (plan : Plan) → CycleCalm plan (opening plan)
cycle_opens plan d le = grind (arith, sum_where-zero, opening_at, mul-zero)

-- each charge is at most the worst case, so the sum of the rates is at most that of the test
pub cycle_within : (plan : Plan) (s : StateView) → IsOfPlan plan s → (edf_cycle_demand plan s).num ≤ total_rate plan
cycle_within plan s of = grind (arith, sum_below-le, charged_most, mul-le-mul_right)

pub cycle_fits : (plan : Plan) (s : StateView) → IsAdmitted plan → ServesEdf plan.scheduler → IsOfPlan plan s
    → (edf_cycle_demand plan s).num ≤ top_speed plan * hyper plan
cycle_fits plan s adm edf of = grind (arith, full_enough, cycle_within)

-- in each state of an admitted plan under EDF some entry meets the demand
pub cycle_met : (plan : Plan) (s : StateView) → IsAdmitted plan → ServesEdf plan.scheduler → IsOfPlan plan s
    → (lowest_pick plan.machine (edf_cycle_demand plan s)).met ≡ true
cycle_met plan s adm edf of = picked_met plan.machine adm.limits.machine (edf_cycle_demand plan s) (cycle_fits plan s adm edf of)

pub cycle_den : (plan : Plan) (s : StateView) → IsWithinLimits plan → (0 < (edf_cycle_demand plan s).den) × ((edf_cycle_demand plan s).den ≤ 2 ^ 64)
cycle_den plan s lim = (some_hyper plan lim, let low = low_hyper plan lim in omega arith)

cycle_chooses : (plan : Plan) (s : StateView) → IsAdmitted plan → ServesEdf plan.scheduler → IsOfPlan plan s
    → CycleCalm plan s → CycleSafe plan s (lowest_entry plan.machine (edf_cycle_demand plan s))
cycle_chooses plan s adm edf of calm = record {
  calm = calm;
  rate = picked_meets plan.machine adm.limits.machine (edf_cycle_demand plan s) (cycle_fits plan s adm edf of);
}

module _ (plan : Plan) (lim : IsWithinLimits plan) (dem : JobDemands) (s : StateView) (bel : Belongs plan dem s) where
  -- H over the period of a task
  abbrev jobs : ℕ → ℕ
  jobs i = hyper plan / period plan i

  -- the rates give no units up to the present tick, so in a calm state each job that is due is complete
  cycle_completes : CycleCalm plan s → (i : ℕ) → i < count plan → (row_at s i).deadline ≡ s.now → (row_at s i).done ≡ true
  cycle_completes calm i h at_now =
      let none : credit plan s s.now ≡ 0 =
      sum_below-zero (count plan) (λ j. charged_rate_in plan s j * (min s.now (row_at s j).deadline - s.now))
      (λ j l. let z : min s.now (row_at s j).deadline - s.now ≡ 0 = omega arith in rw z (mul-zero (charged_rate_in plan s j))) in
      let all : hyper plan * due_work plan s s.now ≤ 0 = rw none at (calm s.now (omega arith)) in
      let paid : due_work plan s s.now ≤ 0 =
      le_of_mul-le-mul_left {m = due_work plan s s.now} {n = 0} {k = hyper plan} (omega (arith, all)) (some_hyper plan lim) in
      let mine : wleft_at s i ≤ due_work plan s s.now =
      sum_where-term (count plan) (due_by s s.now) (wleft_at s) i h (le-leb (row_at s i).deadline s.now (omega arith)) in
      closed_row (row_at s i) (dem i (row_at s i).job) (omega (arith, mine, paid)) (bel.open_job i h) (demand_most plan dem s bel i h)

  cycle_releases : CycleCalm plan s → CycleCalm plan (after_boundary plan dem s)
  cycle_releases calm d le =
      let n = count plan in
      let h = hyper plan in
      let t = after_boundary plan dem s in
      let each = sum-two n (λ i. h * owed d (row_at t i)) (λ i. credit_of (jobs i) s.now d (row_at s i)) (λ i. h * owed d (row_at s i))
      (λ i. credit_of (jobs i) s.now d (row_at t i))
      (λ i lt. rw (boundary_at plan dem s bel i lt)
      (boundary_pays plan dem h (jobs i) s.now d i (row_at s i) (period_divides plan lim i lt) (cycle_completes calm i lt) le)) in
      omega (arith, each, calm d le, sum_below-times n h (λ i. owed d (row_at t i)), sum_below-times n h (λ i. owed d (row_at s i)))

  module _ (edf : ServesEdf plan.scheduler) (f : ℕ) (shares : List ℕ) (before : IsBeforeAll plan s) (legal : IsLegalIn plan dem f s shares) where
    abbrev next : StateView
    next = after_tick dem shares s

    -- an incomplete job isn't job 0, so it is due within a period
    soon : (i : ℕ) → i < count plan → (row_at s i).done ≡ false → (row_at s i).deadline ≤ s.now + period plan i
    soon i h open_job = grind (arith, cases_lt, due_soon, unborn_done)

    -- if the speed covers what the tasks due by d need, they need nothing after the tick
    all_done : (d : ℕ) → sum_where (count plan) (due_by s d) (left_in dem s) ≤ f → due_work plan next d ≡ 0
    all_done d low =
        sum_where-zero (count plan) (due_by next d) (wleft_at next) (λ i h on.
        let due : due_by s d i ≡ true = rw (tick_at plan dem shares s bel i h) at on in
        rw (due_closes plan dem f s shares edf bel legal d low i h due) refl)

    -- if the tasks due by d need all units of the tick, their work stays paid for
    all_paid : (d : ℕ) → s.now + 1 ≤ d → f ≤ sum_where (count plan) (due_by s d) (left_in dem s)
        → hyper plan * due_work plan next d + hyper plan * f + credit plan s d
        ≤ hyper plan * due_work plan s d + credit plan next d + (edf_cycle_demand plan s).num
    all_paid d le high =
        let n = count plan in
        let h = hyper plan in
        let x = share_in shares in
        let each = sum-three n
        (λ i. h * owed d (row_at next i)) (λ i. h * (if due_by s d i then x i else 0)) (λ i. credit_of (jobs i) s.now d (row_at s i))
        (λ i. h * owed d (row_at s i)) (λ i. credit_of (jobs i) (s.now + 1) d (row_at next i)) (charged_rate_in plan s)
        (λ i lt.
        let row = row_at s i in
        rw (tick_at plan dem shares s bel i lt)
        (tick_pays row.done h (jobs i) (period plan i) (dem i row.job) row.used row.worst row.deadline s.now d (x i) (period_divides plan lim i lt)
        (let g = before i lt in omega arith) le (soon i lt) (bel.open_job i lt) (demand_most plan dem s bel i lt) (legal_most plan dem f s shares legal i lt)
        (later_none plan dem f s shares edf bel legal d high i lt))) in
        let units : h * sum_where n (due_by s d) x ≡ h * f = ap (λ (m : ℕ). h * m) (due_full plan dem f s shares edf bel legal d high) in
        omega (
          arith,
          each,
          units,
          sum_below-times n h (λ i. owed d (row_at next i)),
          sum_below-times n h (λ i. if due_by s d i then x i else 0),
          sum_below-times n h (λ i. owed d (row_at s i)),
        )

    rates_fall : (edf_cycle_demand plan next).num ≤ (edf_cycle_demand plan s).num
    rates_fall =
        sum_below-le (count plan) (charged_rate_in plan next) (charged_rate_in plan s) (λ i h.
        let row = row_at s i in
        rw (tick_at plan dem shares s bel i h)
        (mul-le-mul_right (jobs i) (tick_charge row.done (dem i row.job) row.used row.worst (share_in shares i)
        (demand_most plan dem s bel i h) (legal_most plan dem f s shares legal i h))))

    cycle_ticks : (edf_cycle_demand plan s).num ≤ f * hyper plan → CycleCalm plan s → CycleCalm plan next
    cycle_ticks fits calm d le = grind (arith, cases_lt, all_done, mul-zero, all_paid)

pub cycle_laws : GovernorLaws Cycle ServesEdf edf_cycle_demand CycleCalm CycleSafe
cycle_laws = record {
  pairs = λ sch edf. subst (λ (s : Scheduler). IsPair s Cycle) (sym edf) refl;
  low_den = λ plan s on of dec. cycle_den plan s on.admitted.limits;
  opens = λ plan on. cycle_opens plan;
  releases = λ plan dem s run calm. cycle_releases plan run.admitted.limits dem s run.belongs calm;
  chooses = λ plan dem s run dec calm. cycle_chooses plan s run.admitted run.served run.belongs.of calm;
  meets = λ plan dem s run dec calm kind. cycle_met plan s run.admitted run.served run.belongs.of;
  ticks = λ plan dem s run k safe shares may. record {
    calm = cycle_ticks plan run.admitted.limits dem s run.belongs run.served (speed_at plan.machine k) shares may.before may.legal safe.rate safe.calm;
    rate = (let falls = rates_fall plan run.admitted.limits dem s run.belongs run.served (speed_at plan.machine k) shares may.before may.legal in
        let fits = safe.rate in omega arith);
  };
  stays_calm = λ plan dem s run k safe. safe.calm;
  completes = λ plan dem s run calm. cycle_completes plan run.admitted.limits dem s run.belongs calm;
}

-- the work that the highest speed does in H ticks fits well into 128 bits
work_low : (plan : Plan) → IsAdmitted plan → top_speed plan * hyper plan ≤ TOP_SPEED * 2 ^ 48
work_low plan adm = grind (arith, mul-le, low_hyper)

-- the row of task i is replaced by another row
module _ (plan : Plan) (s : StateView) (of : IsOfPlan plan s) (rates : List ℕ) (sum : ℕ) (counts : Counts rates sum plan s) (i : ℕ) (h : i < count plan) where
  abbrev written : Row → StateView
  written row = record s { rows = slice_set s.rows i row }

  row-same : (row : Row) → row_at (written row) i ≡ row
  row-same row = get_or-set_same s.rows i row no_row (let r = of.rows in omega arith)

  row-other : (row : Row) (k : ℕ) → k ≢ i → row_at (written row) k ≡ row_at s k
  row-other row k ne = get_or-set_other s.rows i k row no_row ne

  -- the task has a kept rate
  pub rate_place : i < length rates
  rate_place = let e = counts.one_each in omega arith

  -- the kept rate of the task is at most the sum
  pub rate_most : slice_index rates i ≤ sum
  rate_most = let r = counts.rate_is i h in let t = counts.sum_is in let m = sum_below-term (count plan) (charged_rate_in plan s) i h in omega arith

  -- with the new row's rate in place of the old one the counters are right
  counts-set : (row : Row) (new : ℕ) → new ≡ charged_of row * (hyper plan / period plan i)
      → Counts (slice_set rates i new) (sum - slice_index rates i + new) plan (written row)
  counts-set row new is = record {
    served = counts.served;
    one_each = length-set rates i new ∙ counts.one_each;
    rate_is = λ k lt. at k lt (cases_eq k i);
    sum_is =
        let moved =
        sum_below-change (count plan) (charged_rate_in plan s) (charged_rate_in plan (written row)) i h (λ k lt ne. other k ne) in
        let was = counts.rate_is i h in
        let all = counts.sum_is in
        omega (arith, moved, was, all, rate_most, own);
  }
    where
      own : charged_rate_in plan (written row) i ≡ new
      own = ap (λ (r : Row). charged_of r * (hyper plan / period plan i)) (row-same row) ∙ sym is

      other : (k : ℕ) → k ≢ i → charged_rate_in plan (written row) k ≡ charged_rate_in plan s k
      other k ne = ap (λ (r : Row). charged_of r * (hyper plan / period plan k)) (row-other row k ne)

      at : (k : ℕ) → k < count plan → (k ≡ i) ⊎ (k ≢ i) → slice_index (slice_set rates i new) k ≡ charged_rate_in plan (written row) k
      at k lt (inl same) =
          subst (λ m. slice_index (slice_set rates i new) m ≡ charged_rate_in plan (written row) m) (sym same)
          (get_or-set_same rates i new 0 rate_place ∙ sym own)
      at k lt (inr ne) = get_or-set_other rates i k new 0 ne ∙ (counts.rate_is k lt ∙ sym (other k ne))

  -- a release charges the task's worst case
  pub counts-released : Counts (slice_set rates i ((row_at s i).worst * (hyper plan / period plan i)))
      (sum - slice_index rates i + (row_at s i).worst * (hyper plan / period plan i)) plan (after_release plan s i)
  counts-released = counts-set (released_row (period plan i) (row_at s i)) ((row_at s i).worst * (hyper plan / period plan i)) refl

  -- a completion charges the units that the job had
  pub counts-finished : Counts (slice_set rates i ((row_at s i).used * (hyper plan / period plan i)))
      (sum - slice_index rates i + (row_at s i).used * (hyper plan / period plan i)) plan (after_finish s i)
  counts-finished = counts-set (record (row_at s i) { done = true }) ((row_at s i).used * (hyper plan / period plan i)) refl

  -- units of an open job change no charge
  pub counts-ran : (units : ℕ) → (row_at s i).done ≡ false → Counts rates sum plan (after_run s i units)
  counts-ran units still =
      let row : Row = record (row_at s i) { used = (row_at s i).used + units } in
      let same : charged_of (row_at s i) ≡ charged_of row = rw still refl in
      let kept : slice_set rates i (slice_index rates i) ≡ rates = set-get_or rates i 0 in
      let all : sum - slice_index rates i + slice_index rates i ≡ sum = omega (arith, rate_most) in
      subst (λ (rs : List ℕ). Counts rs sum plan (written row)) kept
      (subst (λ (total : ℕ). Counts (slice_set rates i (slice_index rates i)) total plan (written row)) all
      (counts-set row (slice_index rates i) (counts.rate_is i h ∙ ap (λ v. v * (hyper plan / period plan i)) same)))

  -- after a new charge the sum fits in 128 bits
  pub sum_fits : IsAdmitted plan → (units : ℕ) → units ≤ (row_at s i).worst
      → sum - slice_index rates i + units * (hyper plan / period plan i) < 2 ^ 128
  sum_fits adm units le = grind (arith, mul-le-mul_right, full_enough, cycle_within, sum_below-term, work_low)

-- before the first release no task is charged
pub counts-opening : (plan : Plan) → ServesEdf plan.scheduler → Counts (replicate (count plan) 0) 0 plan (opening plan)
counts-opening plan edf = grind (arith, length-replicate, get_or-replicate, sum_below-zero, opening_at)
