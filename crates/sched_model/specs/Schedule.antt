-- The schedule of a plan and its jobs' demands; which ticks are the one schedule of a run.
use Rattle.std.specs.Prelude.{ℕ, List, [], ◌∷◌, if◌then◌else◌, ◌≡◌, length, zero, suc, ◌<◌, true}
use Rattle.dvs_base.specs.declared.kind.GovernorKind.{GovernorKind}
use Rattle.grid_fraction.specs.Numbers.{list_below}
use Rattle.freq_table.specs.Tables.{lowest_entry, lowest_pick}
use Rattle.sched_model.specs.Plan.{Plan, count, point}
use Rattle.sched_model.specs.Ticks.{PublishedDemand, Tick, units_left}
use Rattle.sched_model.specs.Priority.{IsLegal, allotment, key_of}
use Rattle.sched_model.specs.Decision.{is_decision}
use Rattle.sched_model.specs.Demand.{published}
use Rattle.sched_model.specs.Jobs.{JobDemands}

-- The entry in force at the tick after `past`: the one chosen at the last decision instant.
-- `ask` is the demand published there.
abbrev pub entry_in_force : Plan → JobDemands → PublishedDemand → List Tick → ℕ
entry_in_force p dem ask [] = lowest_entry p.machine (ask [])
entry_in_force p dem ask (x ∷ past) =
    if is_decision p dem (x ∷ past) then lowest_entry p.machine (ask (x ∷ past)) else entry_in_force p dem ask past

-- the tick x may follow the ticks of `past`: a share for each task, the entry in force, and a legal tick at its speed
pub record IsNext (p : Plan) (dem : JobDemands) (ask : PublishedDemand) (past : List Tick) (x : Tick) : Type 0 where
  pub one_share_each : length x.shares ≡ count p
  pub entry : x.entry ≡ entry_in_force p dem ask past
  pub legal : IsLegal p dem past ((point p x.entry).speed) x

-- the ticks, the last one first, are a schedule: each may follow those before it
abbrev pub IsScheduleBy : Plan → JobDemands → PublishedDemand → List Tick → Type 0
IsScheduleBy p dem ask [] = Unit {0}
IsScheduleBy p dem ask (x ∷ past) = IsScheduleBy p dem ask past × IsNext p dem ask past x

-- the ticks are the first ones of the schedule of a plan under a governor
abbrev pub IsSchedule : Plan → GovernorKind → JobDemands → List Tick → Type 0
IsSchedule p g dem = IsScheduleBy p dem (published p g dem)

-- the one tick that may follow the ticks of `past`
abbrev pub next_tick : Plan → JobDemands → PublishedDemand → List Tick → Tick
next_tick p dem ask past =
    let e = entry_in_force p dem ask past in
    record {
      entry = e;
      shares = list_below (count p) (allotment (count p) (key_of p.scheduler p (length past)) ((point p e).speed) (units_left p dem past));
    }

-- the one schedule of t ticks, with `ask` as the published demand
unfoldable pub schedule_by : Plan → JobDemands → PublishedDemand → ℕ → List Tick
schedule_by p dem ask zero = []
schedule_by p dem ask (suc t) = let past = schedule_by p dem ask t in next_tick p dem ask past ∷ past

-- the one schedule of t ticks under a governor, with its published demand
abbrev pub schedule : Plan → GovernorKind → JobDemands → ℕ → List Tick
schedule p g dem = schedule_by p dem (published p g dem)

-- the ticks of `schedule_by` are a schedule of t ticks, for all demands of the jobs and any published demand
abbrev pub HasSchedule : Plan → Type 0
HasSchedule p = (dem : JobDemands) (ask : PublishedDemand) (t : ℕ)
    → IsScheduleBy p dem ask (schedule_by p dem ask t) × (length (schedule_by p dem ask t) ≡ t)

-- each schedule is the list of `schedule_by` of its length
abbrev pub HasNoOther : Plan → Type 0
HasNoOther p = (dem : JobDemands) (ask : PublishedDemand) (ticks : List Tick)
    → IsScheduleBy p dem ask ticks → ticks ≡ schedule_by p dem ask (length ticks)

-- at each decision before tick `ticks` some entry of the table meets the published demand
abbrev pub AlwaysMeets : Plan → GovernorKind → JobDemands → ℕ → Type 0
AlwaysMeets p g dem ticks =
    (t : ℕ) → t < ticks → is_decision p dem (schedule p g dem t) ≡ true
    → (lowest_pick p.machine (published p g dem (schedule p g dem t))).met ≡ true

-- the ticks are a schedule of t ticks of a plan under a governor, and no other list of t ticks is
pub record IsTheSchedule (p : Plan) (g : GovernorKind) (dem : JobDemands) (t : ℕ) (ticks : List Tick) : Type 0 where
  pub legal : IsSchedule p g dem ticks
  pub whole : length ticks ≡ t
  pub only : (other : List Tick) → IsSchedule p g dem other → length other ≡ t → other ≡ ticks
