-- The laws of a governor whose speed is one number, under both schedulers.
use Rattle.std.proofs.lemmas.Bool.Decides.{nat_tests}
use Rattle.std.proofs.Common.{◌≡◌, ℕ, ◌*◌, ◌<◌, ◌≤◌, true, List, refl, subst, arith, lit<, lit≤}
use Rattle.dvs_base.specs.declared.kind.Scheduler.TheVariants.{Rm, Edf}
use Rattle.sched_model.specs.Plan.{Plan, count, period, top_speed}
use Rattle.sched_model.specs.Jobs.{JobDemands}
use Rattle.sched_model.specs.Admission.{IsWithinLimits, IsAdmitted}
use Rattle.sched_model.specs.States.{StateView, row_at, opening}
use Rattle.dvs_base.specs.declared.kind.Scheduler.{Scheduler}
use Rattle.dvs_base.specs.declared.kind.GovernorKind.{GovernorKind}
use Rattle.dvs_base.specs.declared.kind.GovernorKind.TheVariants.{Plain, Fixed}
use Rattle.dvs_base.specs.PlanWords.{IsPair}
use Rattle.grid_fraction.specs.declared.Frac.{Frac}
use Rattle.freq_table.specs.Tables.{speed_at, lowest_entry, lowest_pick}
use Rattle.sched_model.specs.StaticDemand.{full_demand, static_demand}
use Rattle.sched_model.proofs.Limits.{some_period}
use Rattle.sched_model.proofs.StaticShare.{static_den}
use Rattle.governor.specs.Steps.{after_boundary, IsLegalIn, after_tick, IsBeforeAll, Belongs}
use Rattle.governor.specs.Worst.{level_work_in}
use Rattle.governor.specs.Rm.{StretchCalm}
use Rattle.governor.proofs.RmLevels.{level_opens, level_completes, level_releases, level_ticks}
use Rattle.governor.specs.Laws.{GovernorLaws, HasLowDen}
use Rattle.governor.specs.ServedSchedulers.{ServesBoth}
use Rattle.governor.specs.Speeds.{unchanging, fixed_speed}
use Rattle.governor.specs.OneSpeed.{CalmBy, SafeBy, CalmAt, SafeAt}
use Rattle.governor.proofs.Fits.{IsEnough, full_enough, full_speed, full_met, static_enough, static_met}
use Rattle.governor.proofs.EdfLaws.{edf_opens, edf_releases, edf_chooses, edf_ticks, edf_stays_calm, edf_completes}

module _ (F : ℕ) (span : ℕ → ℕ) (plan : Plan) (lim : IsWithinLimits plan) where
  pub rm_opens : StretchCalm F span plan (opening plan)
  rm_opens i h = level_opens F (span i) plan lim i h

  module _ (dem : JobDemands) (s : StateView) (bel : Belongs plan dem s) where
    pub rm_completes : ((i : ℕ) → i < count plan → span i ≤ period plan i) → StretchCalm F span plan s → (i : ℕ)
        → i < count plan → (row_at s i).deadline ≡ s.now → (row_at s i).done ≡ true
    rm_completes within calm i h = level_completes F (span i) plan lim i h dem s bel (within i h) (calm i h)

    pub rm_releases : ((i : ℕ) → i < count plan → 0 < span i) → ((i : ℕ) → i < count plan → span i ≤ period plan i)
        → StretchCalm F span plan s → StretchCalm F span plan (after_boundary plan dem s)
    rm_releases some within calm i h =
        level_releases F (span i) plan lim i h dem s bel (some i h)
        (λ j hj on. rm_completes within calm j hj) (calm i h)

    pub rm_ticks : plan.scheduler ≡ Rm
        → ((i : ℕ) → i < count plan → level_work_in plan (span i) i ≤ F * span i)
        → (shares : List ℕ) → IsBeforeAll plan s → IsLegalIn plan dem F s shares → StretchCalm F span plan s
        → StretchCalm F span plan (after_tick dem shares s)
    rm_ticks rm fits shares before legal calm i h =
        level_ticks F (span i) plan lim i h dem s bel rm (fits i h) shares before legal (calm i h)

module _ (F : ℕ) (plan : Plan) (lim : IsWithinLimits plan) (enough : IsEnough F plan) where
  opens_by : (sch : Scheduler) → plan.scheduler ≡ sch → CalmBy sch F plan (opening plan)
  opens_by Edf e = edf_opens F plan lim (enough.edf e)
  opens_by Rm e = rm_opens F (period plan) plan lim

  within : (i : ℕ) → i < count plan → period plan i ≤ period plan i
  within i h = omega arith

  module _ (dem : JobDemands) (s : StateView) (bel : Belongs plan dem s) where
    releases_by : (sch : Scheduler) → CalmBy sch F plan s → CalmBy sch F plan (after_boundary plan dem s)
    releases_by Edf calm = edf_releases F plan lim dem s bel calm
    releases_by Rm calm = rm_releases F (period plan) plan lim dem s bel (some_period plan lim) within calm

    chooses_by : (sch : Scheduler) (k : ℕ) → speed_at plan.machine k ≡ F → CalmBy sch F plan s → SafeBy sch F plan s k
    chooses_by Edf k same calm = edf_chooses F plan lim dem s bel k same calm
    chooses_by Rm k same calm = record { calm = calm; same = same }

    ticks_by : (sch : Scheduler) → plan.scheduler ≡ sch → (k : ℕ) (shares : List ℕ) → IsBeforeAll plan s
        → IsLegalIn plan dem (speed_at plan.machine k) s shares → SafeBy sch F plan s k
        → SafeBy sch F plan (after_tick dem shares s) k
    ticks_by Edf e k shares before legal safe = edf_ticks F plan lim dem s bel e (enough.edf e) k shares before legal safe
    ticks_by Rm e k shares before legal safe = record {
      calm = rm_ticks F (period plan) plan lim dem s bel e (enough.rm e) shares before
          (subst (λ (f : ℕ). IsLegalIn plan dem f s shares) safe.same legal) safe.calm;
      same = safe.same;
    }

    stays_by : (sch : Scheduler) (k : ℕ) → SafeBy sch F plan s k → CalmBy sch F plan s
    stays_by Edf k safe = edf_stays_calm F plan lim dem s bel k safe
    stays_by Rm k safe = safe.calm

    completes_by : (sch : Scheduler) → CalmBy sch F plan s → (i : ℕ) → i < count plan → (row_at s i).deadline ≡ s.now
        → (row_at s i).done ≡ true
    completes_by Edf calm = edf_completes F plan lim dem s bel calm
    completes_by Rm calm = rm_completes F (period plan) plan lim dem s bel within calm

-- the kinds `Plain` and `Fixed` make a pair with each scheduler
pub pairs_plain : (sch : Scheduler) → ServesBoth sch → IsPair sch Plain
pairs_plain Edf serves = refl
pairs_plain Rm serves = refl

pub pairs_fixed : (sch : Scheduler) → ServesBoth sch → IsPair sch Fixed
pairs_fixed Edf serves = refl
pairs_fixed Rm serves = refl

-- F is the speed of the lowest entry that meets the demand, and passes the scheduler's test, on each admitted plan
pub record IsOneSpeed (F : Plan → ℕ) (demand : Plan → Frac) : Type 0 where
  pub enough : (plan : Plan) → IsAdmitted plan → IsEnough (F plan) plan
  pub same : (plan : Plan) → IsAdmitted plan → speed_at plan.machine (lowest_entry plan.machine (demand plan)) ≡ F plan
  pub met : (plan : Plan) → IsAdmitted plan → (lowest_pick plan.machine (demand plan)).met ≡ true
  pub low : (plan : Plan) → IsAdmitted plan → HasLowDen (demand plan)

-- a governor with one speed keeps the laws, for each kind that makes a pair with both schedulers
pub laws_at : {kind : GovernorKind} (F : Plan → ℕ) (demand : Plan → Frac) → IsOneSpeed F demand
    → ((sch : Scheduler) → ServesBoth sch → IsPair sch kind)
    → GovernorLaws kind ServesBoth (unchanging demand) (CalmAt F) (SafeAt F)
laws_at F demand one pairs = grind (arith, nat_tests, opens_by, releases_by, chooses_by, ticks_by, stays_by, completes_by)

-- a governor at the highest speed keeps the laws
pub full_laws : {kind : GovernorKind} → ((sch : Scheduler) → ServesBoth sch → IsPair sch kind)
    → GovernorLaws kind ServesBoth (unchanging full_demand) (CalmAt top_speed) (SafeAt top_speed)
full_laws = laws_at top_speed full_demand (record {
  enough = full_enough;
  same = λ plan adm. full_speed plan adm.limits;
  met = λ plan adm. full_met plan adm.limits;
  low = λ plan adm. (lit< tt, lit≤ tt);
})

-- a governor at the static speed keeps the laws
pub static_laws : {kind : GovernorKind} → ((sch : Scheduler) → ServesBoth sch → IsPair sch kind)
    → GovernorLaws kind ServesBoth (unchanging static_demand) (CalmAt fixed_speed) (SafeAt fixed_speed)
static_laws = laws_at fixed_speed static_demand (record {
  enough = static_enough;
  same = λ plan adm. refl;
  met = static_met;
  low = λ plan adm. static_den plan adm.limits;
})
