-- What the lowest speed that meets the static demand means (Pillai and Shin 2001).
use Rattle.std.specs.Prelude.{ℕ, List, length, ◌≡◌, ◌<◌, ◌≤◌}
use Rattle.dvs_base.specs.declared.kind.Scheduler.TheVariants.{Edf}
use Rattle.grid_fraction.specs.declared.Frac.{Frac}
use Rattle.freq_table.specs.Tables.{speed_at, lowest_entry}
use Rattle.sched_model.specs.Plan.{Plan, count}
use Rattle.sched_model.specs.Tests.{PassesAt}
use Rattle.sched_model.specs.Jobs.{JobDemands, due, worst_demand}
use Rattle.sched_model.specs.Ticks.{Tick, at, exec, IsMet}
use Rattle.sched_model.specs.Schedule.{schedule_by}

-- the speed of entry e as a demand
abbrev pub speed_of : Plan → ℕ → Frac
speed_of p e = record { num = speed_at p.machine e; den = 1 }

-- the one schedule of t ticks with entry e always in force and every job at its worst case
abbrev pub schedule_with : Plan → ℕ → ℕ → List Tick
schedule_with p e t = schedule_by p (worst_demand p) (λ past. speed_of p e) t

-- some job that is due within the ticks has had less than its demand by its deadline
pub record Misses (p : Plan) (dem : JobDemands) (ticks : List Tick) : Type 0 where
  pub task : ℕ
  pub job : ℕ
  pub of_plan : task < count p
  pub some_job : 1 ≤ job
  pub in_ticks : due p task job ≤ length ticks
  pub less : exec p (at (due p task job) ticks) task job < dem task job

-- Entry e is the lowest that is enough. With it the scheduler's test passes, and every job meets its deadline, each at
-- its worst case. With each lower entry the test fails, and under EDF some job then misses its deadline.
pub record IsLowestEnough (p : Plan) (e : ℕ) : Type 0 where
  pub in_table : e < length p.machine.points
  -- the speed of an entry as a demand picks this entry
  pub picks : (f : ℕ) → f ≤ e → lowest_entry p.machine (speed_of p f) ≡ f
  pub passes : PassesAt (speed_at p.machine e) p.scheduler p
  pub meets : (t : ℕ) → IsMet p (worst_demand p) (schedule_with p e t)
  pub fails : (f : ℕ) → f < e → PassesAt (speed_at p.machine f) p.scheduler p → ⊥
  pub misses : p.scheduler ≡ Edf → (f : ℕ) → f < e → (t : ℕ) × Misses p (worst_demand p) (schedule_with p f t)
