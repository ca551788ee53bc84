-- On each schedule the published demand of cycle-conserving EDF is the governor's own.
use Rattle.std.proofs.Common.{◌≡◌, ℕ, ◌<◌, ◌≤◌, Bool, List, ◌∙◌, ap, arith, nat_le, if◌then◌else◌}
use Rattle.dvs_base.specs.declared.kind.Scheduler.{Scheduler}
use Rattle.dvs_base.specs.declared.kind.GovernorKind.TheVariants.{Cycle}
use Rattle.grid_fraction.proofs.Sums.{sum_below-same}
use Rattle.sched_model.specs.Plan.{Plan, count}
use Rattle.sched_model.specs.Jobs.{JobDemands}
use Rattle.sched_model.specs.Ticks.{PublishedDemand, Tick}
use Rattle.sched_model.specs.CycleDemand.{cycle_units, edf_cycle}
use Rattle.sched_model.specs.Demand.{demand_by, published}
use Rattle.sched_model.specs.Schedule.{IsScheduleBy}
use Rattle.sched_model.specs.States.{row_at, state_of}
use Rattle.sched_model.proofs.Schedules.{exec-most}
use Rattle.sched_model.proofs.States.{row_at-state_of}
use Rattle.governor.specs.Schedule.{Publishes, PublishingLaws}
use Rattle.governor.specs.ServedSchedulers.{ServesEdf}
use Rattle.governor.proofs.Course.{publishing_laws}
use Rattle.cc_edf_laws.specs.Cycle.{charged_of, edf_cycle_demand}

-- a complete job is charged its demand, which it has had
charge-is : (b : Bool) (d u w : ℕ) → nat_le d u ≡ b → u ≤ d → (if b then d else w) ≡ (if b then u else w)
charge-is b d u w e le = grind arith

charged-state : (p : Plan) (dem : JobDemands) (ask : PublishedDemand) (past : List Tick)
    → IsScheduleBy p dem ask past → (i : ℕ) → i < count p
    → cycle_units p dem past i ≡ charged_of (row_at (state_of p dem past) i)
charged-state p dem ask past h i lt = grind (arith, charge-is, exec-most, row_at-state_of)

cycle-state : (p : Plan) (dem : JobDemands) (ask : PublishedDemand) (past : List Tick) → IsScheduleBy p dem ask past
    → edf_cycle p dem past ≡ edf_cycle_demand p (state_of p dem past)
cycle-state p dem ask past h = grind (arith, sum_below-same, charged-state)

pub published-cycle : (p : Plan) → ServesEdf p.scheduler → Publishes edf_cycle_demand Cycle p
unfolding published
published-cycle p edf dem within ask past h =
    ap (λ (sch : Scheduler). demand_by sch Cycle p dem past) edf ∙ cycle-state p dem ask past h

pub cycle_publishing : PublishingLaws Cycle ServesEdf edf_cycle_demand
cycle_publishing = publishing_laws edf_cycle_demand Cycle ServesEdf (λ p adm edf. published-cycle p edf)
