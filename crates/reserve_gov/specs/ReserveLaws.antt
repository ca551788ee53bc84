-- The laws of the governor reserve: the highest speed meets its demand, and its speed meets the static demand.
use Rattle.std.proofs.Common.{◌≡◌, ◌*◌, ◌<◌, ◌≤◌, true, length, refl, arith}
use Rattle.std.proofs.Math.Nat.{mul-le-mul_left, mul-le-mul_right}
use Rattle.dvs_base.specs.Widths.{u64_end}
use Rattle.dvs_base.specs.declared.kind.GovernorKind.TheVariants.{Fixed}
use Rattle.freq_table.specs.declared.limits.TheConstants.{TOP_SPEED}
use Rattle.freq_table.specs.Tables.{last_entry, lowest_entry, lowest_pick}
use Rattle.freq_table.proofs.Chosen.{picked_meets, picked_met, lowest-most}
use Rattle.sched_model.specs.Plan.{Plan, top_speed}
use Rattle.sched_model.specs.StaticDemand.{static_demand}
use Rattle.sched_model.specs.Admission.{IsAdmitted}
use Rattle.sched_model.proofs.StaticShare.{static_den}
use Rattle.governor.specs.Laws.{GovernorLaws, HasLowDen}
use Rattle.governor.specs.ServedSchedulers.{ServesBoth}
use Rattle.governor.specs.Speeds.{unchanging}
use Rattle.governor.specs.OneSpeed.{CalmAt, SafeAt}
use Rattle.governor.proofs.Fits.{below_top, enough_at}
use Rattle.governor.proofs.OneSpeedLaws.{pairs_fixed, laws_at}
use Rattle.reserve_gov.specs.Reserved.{reserved_demand, reserved_speed}

module _ (plan : Plan) (adm : IsAdmitted plan) where
  -- the highest speed meets the reserved demand
  reserved_below : (reserved_demand plan).num ≤ top_speed plan * (reserved_demand plan).den
  reserved_below = omega arith

  -- some entry meets the reserved demand
  pub reserved_met : (lowest_pick plan.machine (reserved_demand plan)).met ≡ true
  reserved_met = picked_met plan.machine adm.limits.machine (reserved_demand plan) reserved_below

  -- the reserved speed meets the static demand
  pub static_within : (static_demand plan).num ≤ reserved_speed plan * (static_demand plan).den
  static_within =
      let taken = picked_meets plan.machine adm.limits.machine (reserved_demand plan) reserved_below in
      omega (arith, below_top plan adm, taken)

  -- the entry of the reserved demand is at least that of static
  pub above_static : lowest_entry plan.machine (static_demand plan) ≤ lowest_entry plan.machine (reserved_demand plan)
  above_static = lowest-most plan.machine (static_demand plan) (lowest_entry plan.machine (reserved_demand plan)) static_within

  -- the denominator of the reserved demand is low
  pub reserved_den : HasLowDen (reserved_demand plan)
  reserved_den = static_den plan adm.limits

  -- the numerator of the static demand is far below the end of a u128
  pub static_low : (static_demand plan).num ≤ TOP_SPEED * u64_end
  static_low =
      let last : last_entry plan.machine < length plan.machine.points = omega (arith, adm.limits.machine.some) in
      let top : top_speed plan ≤ TOP_SPEED = (adm.limits.machine.each (last_entry plan.machine) last).low_speed in
      let den = static_den plan adm.limits in
      omega (arith, below_top plan adm, mul-le-mul_right (static_demand plan).den top, mul-le-mul_left TOP_SPEED den.1)

-- the laws of a governor of one speed, at the reserved speed
pub reserve_laws : GovernorLaws Fixed ServesBoth (unchanging reserved_demand) (CalmAt reserved_speed) (SafeAt reserved_speed)
reserve_laws =
    laws_at reserved_speed reserved_demand (record {
      enough = λ plan adm. enough_at plan adm (reserved_speed plan) (static_within plan adm);
      same = λ plan adm. refl;
      met = reserved_met;
      low = reserved_den;
    }) pairs_fixed
