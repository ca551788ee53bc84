-- The laws of cycle-conserving RM.
use Rattle.std.proofs.Common.{◌≡◌, ◌⊎◌, inl, inr, ℕ, ◌+◌, ◌-◌, ◌*◌, ◌<◌, ◌≤◌, min, Bool, true, false, List, refl, sym, ◌∙◌, ap, subst, arith, true≢false, ◌^◌, length, mul-le-mul_right}
use Rattle.std.proofs.lemmas.Bool.{cases_lt}
use Rattle.dvs_base.specs.declared.kind.Scheduler.{Scheduler}
use Rattle.dvs_base.specs.declared.kind.Scheduler.TheVariants.{Rm}
use Rattle.grid_fraction.specs.Numbers.{sum_below, sum_where}
use Rattle.grid_fraction.proofs.Sums.{sum_below-le, sum_below-add, sum_below-some}
use Rattle.grid_fraction.proofs.Least.{least-same}
use Rattle.sched_model.specs.declared.state.Row.{Row}
use Rattle.sched_model.specs.Plan.{Plan, count, period, top_speed}
use Rattle.sched_model.specs.Jobs.{JobDemands}
use Rattle.sched_model.specs.Priority.{stands_before, SharesOut, allotment}
use Rattle.sched_model.specs.StaticDemand.{static_speed, rm_static}
use Rattle.sched_model.specs.Backlog.{backlog}
use Rattle.sched_model.specs.Admission.{IsAdmitted}
use Rattle.sched_model.specs.States.{StateView, row_at, earliest_in, key_in}
use Rattle.sched_model.proofs.Allotments.{allotment_of, down-set-gets, allotment-full, allotment-none}
use Rattle.sched_model.proofs.LevelSums.{sum_where-mono, sum_where-plus, sum_where-tight}
use Rattle.governor.specs.Steps.{wleft_at, release_of, share_in, left_in, IsLegalIn, after_tick, IsBeforeAll, Belongs, IsAtDecision}
use Rattle.governor.proofs.StatesOfDemands.{done_none, tick_at, legal_most, earliest-later}
use Rattle.governor.proofs.Ticks.{tick-falls, tick-closes}
use Rattle.governor.specs.Rm.{level}
use Rattle.cc_rm_laws.specs.Allotments.{base_of, allotted_units, allotted_in, allotment_left_in, rm_cycle_demand}
use Rattle.cc_rm_laws.specs.Conditions.{CcRmCalm, CcRmSafe}
use Rattle.cc_rm_laws.proofs.AllotmentLefts.{left_by, left-full, left-idle, left-open}
use Rattle.cc_rm_laws.proofs.Deadlines.{cc_rm_completes, cc_rm_opens, cc_rm_releases}
use Rattle.dvs_base.specs.declared.kind.GovernorKind.TheVariants.{Cycle}
use Rattle.dvs_base.specs.PlanWords.{IsPair}
use Rattle.freq_table.specs.Tables.{speed_at, lowest_entry, lowest_pick}
use Rattle.freq_table.proofs.Chosen.{speeds_rise, below_highest, lowest_within, lowest-most, picked_meets, picked_met}
use Rattle.governor.specs.Laws.{GovernorLaws}
use Rattle.governor.specs.ServedSchedulers.{ServesRm}

-- what is left still fits into the rest of the time, if it is 0 or fell by the speed
room_falls : (left_in left' f x y : ℕ) → x ≡ y + 1
    → (left' ≡ 0) ⊎ (left' + f ≤ left_in) → left_in ≤ f * x → left' ≤ f * y
room_falls left_in left' f x y e b le = grind arith

module _ (plan : Plan) (adm : IsAdmitted plan) (rm : plan.scheduler ≡ Rm) (dem : JobDemands) (s : StateView)
    (bel : Belongs plan dem s) (f : ℕ) (shares : List ℕ)
    (before : IsBeforeAll plan s) (legal : IsLegalIn plan dem f s shares) where
  abbrev ticked : StateView
  ticked = after_tick dem shares s

  done_stays : (j : ℕ) → j < count plan → (row_at s j).done ≡ true → (row_at ticked j).done ≡ true
  done_stays j h closed = rw (tick_at plan dem shares s bel j h) (rw closed refl)

  same_earliest : earliest_in plan ticked ≡ earliest_in plan s
  same_earliest = grind (arith, least-same, tick_at)

  -- what is left after the tick, from the allotments before the tick
  left_then : (j : ℕ)
      → allotment_left_in plan ticked j
      ≡ left_by (row_at ticked j).done (allotted_in plan s j) (base_of s j) (wleft_at ticked j)
  left_then j = grind (arith, same_earliest)

  falls : (j : ℕ) → j < count plan → wleft_at ticked j + share_in shares j ≤ wleft_at s j
  falls j h = tick-falls plan dem f s shares bel legal j h

  part : (j : ℕ) → j < count plan
      → wleft_at ticked j + allotment_left_in plan s j ≤ wleft_at s j + allotment_left_in plan ticked j
  part j h = grind (arith, left_then, falls)

  out : SharesOut (count plan) (period plan) f (left_in dem s) (share_in shares)
  out = subst (λ (sch : Scheduler). SharesOut (count plan) (key_in sch plan s) f (left_in dem s) (share_in shares))
      rm legal.out

  -- a task with some units left after the tick is incomplete, and got less than it needed
  module _ (k : ℕ) (hk : k < count plan) (pos : 0 < allotment_left_in plan ticked k) where
    some_left : 0 < left_by (row_at ticked k).done (allotted_in plan s k) (base_of s k) (wleft_at ticked k)
    some_left = subst (λ (x : ℕ). 0 < x) (left_then k) pos

    still_open : ((row_at ticked k).done ≡ false) × (0 < allotted_in plan s k)
    still_open = left-open (row_at ticked k).done (allotted_in plan s k) (base_of s k) (wleft_at ticked k) some_left

    short : share_in shares k < left_in dem s k
    short =
        elim (cases_lt (share_in shares k) (left_in dem s k)) [
          | inl lt ↦ lt
          | inr all ↦ absurd (true≢false (sym (tick-closes plan dem f s shares bel legal k hk all) ∙ still_open.0))
        ]

    short_allotment : allotment (count plan) (period plan) f (left_in dem s) k < left_in dem s k
    short_allotment = grind (arith, allotment_of (count plan) (period plan) f (left_in dem s) (share_in shares) out k hk, short)

    -- if task k has some left after the tick, each unit of a task before it lowers what that task has left
    takes_before : (j : ℕ) → j < count plan → stands_before (period plan) j k ≡ true
        → left_by (row_at ticked j).done (allotted_in plan s j) (base_of s j) (wleft_at ticked j) + share_in shares j
        ≤ allotment_left_in plan s j
    takes_before j h ahead =
        let full : allotted_in plan s j ≡ base_of s j =
        allotment-full (count plan) (period plan) (allotted_units plan s) (base_of s) j k h ahead still_open.1 in
        left-full (row_at s j).done (row_at ticked j).done (allotted_in plan s j)
        (base_of s j) (wleft_at s j) (wleft_at ticked j) (share_in shares j)
        full (bel.base j h) (falls j h) (done_none (row_at s j)) (done_none (row_at ticked j)) (done_stays j h)

    takes_own : (j : ℕ) → j < count plan → k ≡ j
        → left_by (row_at ticked j).done (allotted_in plan s j) (base_of s j) (wleft_at ticked j) + share_in shares j
        ≤ allotment_left_in plan s j
    takes_own j h same = grind (arith, falls, some_left)

    takes_after : (j : ℕ) → j < count plan → stands_before (period plan) k j ≡ true
        → left_by (row_at ticked j).done (allotted_in plan s j) (base_of s j) (wleft_at ticked j) + share_in shares j
        ≤ allotment_left_in plan s j
    takes_after j h behind =
        let none : share_in shares j ≡ 0 =
        allotment_of (count plan) (period plan) f (left_in dem s) (share_in shares) out j h
        ∙ allotment-none (count plan) (period plan) f (left_in dem s) k j hk behind short_allotment in
        left-idle (row_at s j).done (row_at ticked j).done (allotted_in plan s j)
        (base_of s j) (wleft_at s j) (wleft_at ticked j) (share_in shares j)
        (falls j h) none (done_stays j h)

    takes : (j : ℕ) → j < count plan → allotment_left_in plan ticked j + share_in shares j ≤ allotment_left_in plan s j
    takes j h = grind (arith, left_then, takes_before, takes_own, takes_after)

    -- if task k has some left after the tick, all units of the tick are handed out
    all_out : sum_below (count plan) (share_in shares) ≡ f
    all_out =
        let n = count plan in
        let every : ℕ → Bool = λ (j : ℕ). true in
        let gets : sum_below n (share_in shares) ≡ min f (sum_below n (left_in dem s)) =
        down-set-gets n (period plan) every f (left_in dem s) (share_in shares) (λ j i hj hi b on. refl) out in
        elim (cases_lt (sum_below n (left_in dem s)) f) [
          | inl small ↦
              let all : left_in dem s k ≤ share_in shares k =
              sum_where-tight n every (left_in dem s) (share_in shares)
              (legal_most plan dem f s shares legal) (omega arith) k hk refl in
              absurd (omega (arith, short))
          | inr full ↦ omega arith
        ]

    takes_all : sum_below (count plan) (allotment_left_in plan ticked) + f
        ≤ sum_below (count plan) (allotment_left_in plan s)
    takes_all =
        let n = count plan in
        let each : sum_below n (λ j. allotment_left_in plan ticked j + share_in shares j)
        ≤ sum_below n (allotment_left_in plan s) =
        sum_below-le n (λ j. allotment_left_in plan ticked j + share_in shares j) (allotment_left_in plan s) takes in
        let split = sum_below-add n (allotment_left_in plan ticked) (share_in shares) in
        omega (arith, each, split, all_out)

  left_falls : (sum_below (count plan) (allotment_left_in plan ticked) ≡ 0)
      ⊎ (sum_below (count plan) (allotment_left_in plan ticked) + f ≤ sum_below (count plan) (allotment_left_in plan s))
  left_falls =
      elim (cases_lt 0 (sum_below (count plan) (allotment_left_in plan ticked))) [
        | inl some ↦
            let found = sum_below-some (count plan) (allotment_left_in plan ticked) some in
            inr (takes_all found.0 found.1 found.2)
        | inr none ↦ inl (omega arith)
      ]

  -- what is left in all still fits at the speed after the tick
  pub cc_rm_enough : sum_below (count plan) (allotment_left_in plan s) ≤ f * (earliest_in plan s - s.now)
      → sum_below (count plan) (allotment_left_in plan ticked) ≤ f * (earliest_in plan ticked - ticked.now)
  cc_rm_enough enough =
      let span : earliest_in plan s - s.now ≡ (earliest_in plan ticked - ticked.now) + 1 =
      omega (arith, same_earliest, earliest-later plan adm.limits s before) in
      room_falls (sum_below (count plan) (allotment_left_in plan s))
      (sum_below (count plan) (allotment_left_in plan ticked)) f (earliest_in plan s - s.now)
      (earliest_in plan ticked - ticked.now) span left_falls enough

  pub cc_rm_ticks : f ≤ static_speed plan → CcRmCalm plan s
      → sum_below (count plan) (allotment_left_in plan s) ≤ f * (earliest_in plan s - s.now) → CcRmCalm plan ticked
  cc_rm_ticks slower calm enough = record {
    levels = λ i h.
        let n = count plan in
        let lv = level plan i in
        let each : sum_where n lv (λ j. wleft_at ticked j + allotment_left_in plan s j)
        ≤ sum_where n lv (λ j. wleft_at s j + allotment_left_in plan ticked j) =
        sum_where-mono n lv (λ j. wleft_at ticked j + allotment_left_in plan s j)
        (λ j. wleft_at s j + allotment_left_in plan ticked j) (λ j hj on. part j hj) in
        let a = sum_where-plus n lv (wleft_at ticked) (allotment_left_in plan s) in
        let b = sum_where-plus n lv (wleft_at s) (allotment_left_in plan ticked) in
        let worst : backlog plan (earliest_in plan ticked) i ≡ backlog plan (earliest_in plan s) i =
        ap (λ (u : ℕ). backlog plan u i) same_earliest in
        omega (arith, each, a, b, worst, calm.levels i h);
    total = omega (arith, mul-le-mul_right (earliest_in plan ticked - ticked.now) slower, cc_rm_enough enough);
    since = λ i h born early none.
        let at = tick_at plan dem shares s bel i h in
        let born' : 0 < (row_at s i).job = subst (λ (row : Row). 0 < row.job) at born in
        let early' : release_of plan i (row_at s i) < s.base_at =
        subst (λ (row : Row). release_of plan i row < s.base_at) at early in
        done_stays i h (calm.since i h born' early' none);
  }

module _ (plan : Plan) (adm : IsAdmitted plan) (s : StateView) where
  abbrev static_entry : ℕ
  static_entry = lowest_entry plan.machine (rm_static plan)

  static_within : static_entry < length plan.machine.points
  static_within = lowest_within plan.machine (rm_static plan) adm.limits.machine.some

  demand_below_top : CcRmCalm plan s → (rm_cycle_demand plan s).num ≤ top_speed plan * (rm_cycle_demand plan s).den
  demand_below_top calm = grind (arith, below_highest)

  chooses : CcRmCalm plan s → CcRmSafe plan s (lowest_entry plan.machine (rm_cycle_demand plan s))
  chooses calm = record {
    calm = calm;
    enough = picked_meets plan.machine adm.limits.machine (rm_cycle_demand plan s) (demand_below_top calm);
    slower =
        speeds_rise plan.machine adm.limits.machine (lowest_entry plan.machine (rm_cycle_demand plan s)) static_entry
        (lowest-most plan.machine (rm_cycle_demand plan s) static_entry calm.total) static_within;
  }

  pub meets_it : CcRmCalm plan s → (lowest_pick plan.machine (rm_cycle_demand plan s)).met ≡ true
  meets_it calm = picked_met plan.machine adm.limits.machine (rm_cycle_demand plan s) (demand_below_top calm)

  pub cycle_den : IsAtDecision plan s → (0 < (rm_cycle_demand plan s).den) × ((rm_cycle_demand plan s).den ≤ 2 ^ 64)
  cycle_den dec = grind (arith, earliest-later)

-- cycle-conserving RM keeps the laws of a governor
pub cc_rm_laws : GovernorLaws Cycle ServesRm rm_cycle_demand CcRmCalm CcRmSafe
cc_rm_laws = record {
  pairs = λ sch rm. subst (λ (s : Scheduler). IsPair s Cycle) (sym rm) refl;
  low_den = λ plan s on of dec. cycle_den plan on.admitted s dec;
  opens = λ plan on. cc_rm_opens plan;
  releases = λ plan dem s run calm. cc_rm_releases plan run.admitted run.served dem s run.belongs calm;
  chooses = λ plan dem s run dec calm. chooses plan run.admitted s calm;
  meets = λ plan dem s run dec calm kind. meets_it plan run.admitted s calm;
  ticks = λ plan dem s run k safe shares may. record {
    calm = cc_rm_ticks plan run.admitted run.served dem s run.belongs
        (speed_at plan.machine k) shares may.before may.legal safe.slower safe.calm safe.enough;
    enough = cc_rm_enough plan run.admitted run.served dem s run.belongs
        (speed_at plan.machine k) shares may.before may.legal safe.enough;
    slower = safe.slower;
  };
  stays_calm = λ plan dem s run k safe. safe.calm;
  completes = λ plan dem s run calm. cc_rm_completes plan run.admitted dem s run.belongs run.served calm;
}
