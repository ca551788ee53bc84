-- What a speed does for tasks with deadlines up to their periods, under EDF.
use Rattle.std.specs.Prelude.{◌≡◌, ℕ, List, length}
use Rattle.freq_table.specs.Tables.{speed_at}
use Rattle.sched_model.specs.Plan.{Plan}
use Rattle.sched_model.specs.Jobs.{IsWithin, JobDemands, worst_demand}
use Rattle.sched_model.specs.Ticks.{Tick}
use Rattle.edf_demand_laws.specs.Constrained.{IsScheduleAt, IsMetBy, schedule_at}

-- at the speed f every schedule is met, for each number of ticks and all demands within the worst cases
abbrev pub MeetsAlways : Plan → (ℕ → ℕ) → ℕ → Type 0
MeetsAlways p relative f =
    (dem : JobDemands) (ticks : List Tick) → IsWithin p dem → IsScheduleAt p relative dem f ticks
    → IsMetBy p relative dem ticks

-- `ticks` is the one schedule of d ticks with the entry e and every job at its worst case, and it isn't met
pub record IsMissed (p : Plan) (relative : ℕ → ℕ) (e d : ℕ) (ticks : List Tick) : Type 0 where
  pub schedule : IsScheduleAt p relative (worst_demand p) (speed_at p.machine e) ticks
  pub long : length ticks ≡ d
  pub missed : IsMetBy p relative (worst_demand p) ticks → ⊥
  pub only : (other : List Tick) → IsScheduleAt p relative (worst_demand p) (speed_at p.machine e) other
      → length other ≡ d → other ≡ ticks

-- the one schedule of d ticks with the entry e and every job at its worst case isn't met
abbrev pub MissesAtWorst : Plan → (ℕ → ℕ) → ℕ → ℕ → Type 0
MissesAtWorst p relative e d = IsMissed p relative e d (schedule_at p relative (worst_demand p) e d)
