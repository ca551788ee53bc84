-- A governor's schedule: the one tick list whose speeds are those of its published demand.
use Rattle.std.specs.Prelude.{List, ℕ, ◌≡◌}
use Rattle.dvs_base.specs.declared.kind.GovernorKind.{GovernorKind}
use Rattle.sched_model.specs.Plan.{Plan}
use Rattle.sched_model.specs.Ticks.{PublishedDemand, Tick}
use Rattle.sched_model.specs.Demand.{published}
use Rattle.sched_model.specs.Jobs.{JobDemands, IsWithin}
use Rattle.sched_model.specs.Admission.{IsAdmitted}
use Rattle.sched_model.specs.Schedule.{schedule_by, IsScheduleBy, schedule}
use Rattle.sched_model.specs.States.{state_of}
use Rattle.governor.specs.Meanings.{OwnDemand, Serving}

-- a governor's published demand as a function of the ticks so far
abbrev pub ask_of : OwnDemand → Plan → JobDemands → PublishedDemand
ask_of demand p dem past = demand p (state_of p dem past)

-- the first t ticks of a governor's own schedule
abbrev pub course : OwnDemand → Plan → JobDemands → ℕ → List Tick
course demand p dem t = schedule_by p dem (ask_of demand p dem) t

-- on each schedule, whose speeds any demand may give, and for all demands of the jobs within their worst cases,
-- the published demand of the kind is the governor's own in the state there
abbrev pub Publishes : OwnDemand → GovernorKind → Plan → Type 0
Publishes demand kind p =
    (dem : JobDemands) → IsWithin p dem → (ask : PublishedDemand) (past : List Tick)
    → IsScheduleBy p dem ask past → published p kind dem past ≡ ask_of demand p dem past

-- for all demands of the jobs within their worst cases, the governor's schedule is the one that the kind gives
abbrev pub HasScheduleOf : OwnDemand → GovernorKind → Plan → Type 0
HasScheduleOf demand kind p =
    (dem : JobDemands) → IsWithin p dem → (t : ℕ) → course demand p dem t ≡ schedule p kind dem t

-- the laws on the demand of a type of governors, for each admitted plan whose scheduler is served
pub record PublishingLaws (kind : GovernorKind) (serves : Serving) (demand : OwnDemand) : Type 0 where
  -- on each schedule the governor's demand is the published demand of the kind
  pub publishes : (plan : Plan) → IsAdmitted plan → serves plan.scheduler → Publishes demand kind plan
  -- the governor's schedule is the one that the kind gives
  pub one_schedule : (plan : Plan) → IsAdmitted plan → serves plan.scheduler → HasScheduleOf demand kind plan
