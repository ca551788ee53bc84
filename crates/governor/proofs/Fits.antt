-- The speeds of the two governors with one speed pass the scheduler's test and meet what they publish.
use Rattle.std.proofs.lemmas.Bool.Decides.{nat_tests}
use Rattle.std.proofs.Common.{◌≡◌, ℕ, ◌*◌, ◌<◌, ◌≤◌, true, subst, arith}
use Rattle.std.proofs.Math.Nat.{mul-le-mul_right, le_of_mul-le-mul_right}
use Rattle.dvs_base.specs.declared.kind.Scheduler.{Scheduler}
use Rattle.dvs_base.specs.declared.kind.Scheduler.TheVariants.{Edf, Rm}
use Rattle.freq_table.specs.Tables.{speed_at, lowest_entry, lowest_pick}
use Rattle.freq_table.proofs.Chosen.{below_highest, lowest_within, picked_meets, picked_met}
use Rattle.sched_model.specs.Plan.{Plan, count, period, top_speed}
use Rattle.sched_model.specs.Tests.{PassesAt, IsEdfFeasible, IsRmFeasible, level_work}
use Rattle.sched_model.specs.StaticDemand.{heaviest, full_demand, rm_static, static_demand_of, static_demand}
use Rattle.sched_model.specs.Admission.{IsWithinLimits, IsAdmitted, PassesTest}
use Rattle.sched_model.proofs.Limits.{some_period}
use Rattle.sched_model.proofs.StaticShare.{heaviest_within, heaviest_greatest}
pub use Rattle.sched_model.proofs.StaticShare.{static_den}
use Rattle.governor.specs.Speeds.{fixed_speed}

-- the speed F passes the test of the plan's scheduler
pub record IsEnough (F : ℕ) (plan : Plan) : Type 0 where
  pub edf : plan.scheduler ≡ Edf → PassesAt F Edf plan
  pub rm : plan.scheduler ≡ Rm → PassesAt F Rm plan

edf_test : (plan : Plan) → IsAdmitted plan → plan.scheduler ≡ Edf → IsEdfFeasible plan
edf_test plan adm e = subst (λ (sch : Scheduler). PassesTest sch plan) e adm.test

rm_test : (plan : Plan) → IsAdmitted plan → plan.scheduler ≡ Rm → IsRmFeasible plan
rm_test plan adm e = subst (λ (sch : Scheduler). PassesTest sch plan) e adm.test

pub full_enough : (plan : Plan) → IsAdmitted plan → IsEnough (top_speed plan) plan
full_enough plan adm = record { edf = edf_test plan adm; rm = rm_test plan adm }

-- the lowest entry that meets the highest speed has the highest speed
pub full_speed : (plan : Plan) → IsWithinLimits plan → speed_at plan.machine (lowest_entry plan.machine (full_demand plan)) ≡ top_speed plan
full_speed plan lim = grind (arith, nat_tests, below_highest plan.machine lim.machine, lowest_within plan.machine, picked_meets plan.machine lim.machine)

pub full_met : (plan : Plan) → IsWithinLimits plan → (lowest_pick plan.machine (full_demand plan)).met ≡ true
full_met plan lim = picked_met plan.machine lim.machine (full_demand plan) (omega arith)

-- the highest speed meets the static demand
below_top_by : (plan : Plan) (lim : IsWithinLimits plan) (sch : Scheduler) → PassesTest sch plan
    → (static_demand_of sch plan).num ≤ top_speed plan * (static_demand_of sch plan).den
below_top_by plan lim Edf test = test
below_top_by plan lim Rm test = test (heaviest plan) (heaviest_within plan lim)

pub below_top : (plan : Plan) → IsAdmitted plan → (static_demand plan).num ≤ top_speed plan * (static_demand plan).den
below_top plan adm = below_top_by plan adm.limits plan.scheduler adm.test

pub static_met : (plan : Plan) → IsAdmitted plan → (lowest_pick plan.machine (static_demand plan)).met ≡ true
static_met plan adm = picked_met plan.machine adm.limits.machine (static_demand plan) (below_top plan adm)

-- a speed that meets a fraction meets each smaller one
meets_each : (s p g d F : ℕ) → 0 < d → s * d ≤ g * p → g ≤ F * d → s ≤ F * p
meets_each s p g d F pos greatest meets =
    let a : g * p ≤ F * d * p = mul-le-mul_right p meets in
    let swap : F * d * p ≡ F * p * d = omega arith in
    le_of_mul-le-mul_right {m = s} {n = F * p} {k = d} (omega (arith, a, swap, greatest)) pos

pub rm_each : (plan : Plan) (lim : IsWithinLimits plan) (F : ℕ) → (rm_static plan).num ≤ F * (rm_static plan).den
    → (i : ℕ) → i < count plan → level_work plan i ≤ F * period plan i
rm_each plan lim F meets i h = grind (arith, nat_tests, heaviest_greatest plan lim i h, heaviest_within plan lim, meets_each, some_period plan lim)

-- a speed that meets the static demand passes the test
pub enough_at : (plan : Plan) → IsAdmitted plan → (F : ℕ) → (static_demand plan).num ≤ F * (static_demand plan).den → IsEnough F plan
enough_at plan adm F meets = grind (arith, nat_tests, rm_each)

pub static_enough : (plan : Plan) → IsAdmitted plan → IsEnough (fixed_speed plan) plan
static_enough plan adm = grind (arith, nat_tests, below_top plan adm, enough_at plan adm, picked_meets plan.machine adm.limits.machine)
