-- The laws of look-ahead EDF.
use Rattle.std.proofs.Common.{◌≡◌, inl, inr, ℕ, ◌+◌, ◌-◌, ◌*◌, ◌^◌, ◌<◌, ◌≤◌, List, ◌∷◌, ◌++◌, length, refl, sym, ◌∙◌, ap, subst, arith, mul-le-mul_left, mul-le-mul_right}
use Rattle.std.proofs.lemmas.Bool.{cases_lt}
use Rattle.dvs_base.specs.declared.kind.Scheduler.{Scheduler}
use Rattle.dvs_base.specs.declared.kind.GovernorKind.TheVariants.{Ahead}
use Rattle.dvs_base.specs.PlanWords.{IsPair}
use Rattle.grid_fraction.specs.declared.Frac.{Frac}
use Rattle.freq_table.specs.Tables.{Table, speed_at, last_entry, highest_speed, lowest_entry, IsTable}
use Rattle.freq_table.proofs.Chosen.{below_highest, lowest_within, picked_meets, lowest_pick-none}
use Rattle.sched_model.specs.Plan.{Plan, count, hyper, rate, top_speed}
use Rattle.sched_model.specs.Jobs.{JobDemands}
use Rattle.sched_model.specs.Priority.{sum_before}
use Rattle.sched_model.specs.Tests.{total_rate}
use Rattle.sched_model.specs.AheadDemand.{spread_rates}
use Rattle.sched_model.specs.Admission.{IsAdmitted}
use Rattle.sched_model.specs.States.{StateView, earliest_in}
use Rattle.sched_model.proofs.Limits.{some_hyper}
use Rattle.sched_model.proofs.Orders.{sum_list, sum_list-in_order, in_order-below, sum_list-append}
use Rattle.governor.specs.Steps.{wleft_at, IsAtDecision, Belongs}
use Rattle.governor.specs.ServedSchedulers.{ServesEdf}
use Rattle.governor.specs.Laws.{GovernorLaws}
use Rattle.governor.proofs.StatesOfDemands.{earliest-later}
use Rattle.governor.specs.Edf.{load}
use Rattle.governor.proofs.Fits.{full_enough}
use Rattle.governor.proofs.EdfLaws.{load_is, edf_opens, edf_releases, edf_chooses, edf_ticks, edf_stays_calm, edf_completes}
use Rattle.look_ahead_laws.specs.Ahead.{deadline_at, edf_order, ahead_demand, AheadCalm, AheadSafe}
use Rattle.sched_model.proofs.PutOffWork.{due_work, all_paid, before_is, rate_within, work_within}

-- if the highest speed doesn't meet a demand, the last entry is picked
last_picked : (m : Table) → IsTable m → (d : Frac) → highest_speed m * d.den < d.num → lowest_entry m d ≡ last_entry m
last_picked m table d over = grind (arith, lowest_pick-none, mul-le-mul_right, below_highest)

module _ (plan : Plan) (s : StateView) where
  -- the sum of all rates is the sum over the tasks in EDF order
  pub total_is : total_rate plan ≡ sum_list (rate plan) (edf_order plan s)
  total_is = sym (sum_list-in_order (rate plan) (deadline_at s) (count plan))

  pub rates_fit : IsAdmitted plan → ServesEdf plan.scheduler
      → sum_list (rate plan) (edf_order plan s) ≤ top_speed plan * hyper plan
  rates_fit adm serves = let fits = (full_enough plan adm).edf serves in omega (arith, total_is, fits)

  -- the rate of a task, the rates before it and the spread rates after it fit together at the highest speed
  pub each_rate : IsAdmitted plan → ServesEdf plan.scheduler → (before later : List ℕ) (i : ℕ)
      → edf_order plan s ≡ before ++ i ∷ later
      → sum_before (count plan) (deadline_at s) (rate plan) i
      + spread_rates plan (deadline_at s) (wleft_at s) (i ∷ later) ≤ top_speed plan * hyper plan
  each_rate adm serves before later i e =
      let sum = sum_list (rate plan) in
      let whole : sum (edf_order plan s) ≡ sum before + sum (i ∷ later) =
      ap (sum_list (rate plan)) e ∙ sum_list-append (rate plan) before (i ∷ later) in
      let within =
      rate_within plan (deadline_at s) (wleft_at s) before (i ∷ later) e (some_hyper plan adm.limits)
      (let f = rates_fit adm serves in omega (arith, whole, f)) in
      let at = before_is plan (deadline_at s) (wleft_at s) before later i e in
      omega (arith, at, within)

  load_in_order : (d : ℕ) → load plan s d ≡ sum_list (due_work plan (deadline_at s) (wleft_at s) d) (edf_order plan s)
  load_in_order d = grind (arith, load_is, sum_list-in_order)

  -- an entry whose speed meets the demand is safe
  meets_safe : (k : ℕ) → IsAdmitted plan → ServesEdf plan.scheduler → k < length plan.machine.points
      → (ahead_demand plan s).num ≤ speed_at plan.machine k * (earliest_in plan s - s.now) → AheadSafe plan s k
  meets_safe k adm serves lt met = record {
    bound = λ d le.
        let x = d - earliest_in plan s in
        let below = in_order-below (deadline_at s) (count plan) in
        let paid = all_paid plan (deadline_at s) (wleft_at s) d (edf_order plan s) below in
        let some = some_hyper plan adm.limits in
        let worked = work_within plan (deadline_at s) (wleft_at s) x some (rates_fit adm serves) in
        let first = mul-le-mul_left (hyper plan) met in
        omega (arith, load_in_order d, paid, worked, first);
    slower = below_highest plan.machine adm.limits.machine k lt;
  }

  pub ahead_chooses : (dem : JobDemands) → IsAdmitted plan → ServesEdf plan.scheduler → Belongs plan dem s
      → AheadCalm plan s → AheadSafe plan s (lowest_entry plan.machine (ahead_demand plan s))
  ahead_chooses dem adm serves bel calm =
      let d = ahead_demand plan s in
      let k = lowest_entry plan.machine d in
      elim (cases_lt (top_speed plan * d.den) d.num) [
        | inl over ↦
            let last = ap (speed_at plan.machine) (last_picked plan.machine adm.limits.machine d over) in
            edf_chooses (top_speed plan) plan adm.limits dem s bel k last calm
        | inr within ↦
            let met = picked_meets plan.machine adm.limits.machine d within in
            meets_safe k adm serves (lowest_within plan.machine d adm.limits.machine.some) met
      ]

  -- the time to the earliest deadline is positive and fits in 64 bits
  pub ahead_den : IsAdmitted plan → IsAtDecision plan s
      → (0 < (ahead_demand plan s).den) × ((ahead_demand plan s).den ≤ 2 ^ 64)
  ahead_den adm dec = grind (arith, earliest-later)

pub ahead_laws : GovernorLaws Ahead ServesEdf ahead_demand AheadCalm AheadSafe
ahead_laws = record {
  pairs = λ sch serves. subst (λ (s : Scheduler). IsPair s Ahead) (sym serves) refl;
  low_den = λ plan s on of dec. ahead_den plan s on.admitted dec;
  opens = λ plan on. edf_opens (top_speed plan) plan on.admitted.limits ((full_enough plan on.admitted).edf on.served);
  releases = λ plan dem s run calm. edf_releases (top_speed plan) plan run.admitted.limits dem s run.belongs calm;
  chooses = λ plan dem s run dec calm. ahead_chooses plan s dem run.admitted run.served run.belongs calm;
  meets = λ plan dem s run dec calm kind. absurd (kind refl);
  ticks = λ plan dem s run k safe shares may.
      edf_ticks (top_speed plan) plan run.admitted.limits dem s run.belongs run.served
      ((full_enough plan run.admitted).edf run.served) k shares may.before may.legal safe;
  stays_calm = λ plan dem s run k safe. edf_stays_calm (top_speed plan) plan run.admitted.limits dem s run.belongs k safe;
  completes = λ plan dem s run calm. edf_completes (top_speed plan) plan run.admitted.limits dem s run.belongs calm;
}
