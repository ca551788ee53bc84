-- Schedules of tasks with deadlines up to their periods, under EDF at one speed.
use Rattle.std.specs.Prelude.{◌≡◌, ℕ, zero, suc, ◌+◌, ◌<◌, ◌≤◌, List, [], ◌∷◌, length}
use Rattle.grid_fraction.specs.Numbers.{list_below}
use Rattle.freq_table.specs.Tables.{speed_at}
use Rattle.sched_model.specs.Plan.{Plan, count, period, offset}
use Rattle.sched_model.specs.Jobs.{release, latest, JobDemands}
use Rattle.sched_model.specs.Ticks.{Tick, at, exec, units_left, share}
use Rattle.sched_model.specs.Priority.{SharesOut, allotment}

-- each task is first released at tick 0, and has a relative deadline from 1 to its period
pub record IsConstrained (p : Plan) (relative : ℕ → ℕ) : Type 0 where
  pub first : (i : ℕ) → i < count p → offset p i ≡ 0
  pub some : (i : ℕ) → i < count p → 1 ≤ relative i
  pub within : (i : ℕ) → i < count p → relative i ≤ period p i

-- the absolute deadline of job k of task i: its release plus the relative deadline of the task
abbrev pub absolute : Plan → (ℕ → ℕ) → ℕ → ℕ → ℕ
absolute p relative i k = release p i k + relative i

-- the key that orders the tasks at tick t: the absolute deadline of the latest job
abbrev pub key_at : Plan → (ℕ → ℕ) → ℕ → ℕ → ℕ
key_at p relative t i = absolute p relative i (latest p i t)

-- the tick x has speed f, and is legal after the ticks of `past`
pub record IsNextAt (p : Plan) (relative : ℕ → ℕ) (dem : JobDemands) (f : ℕ) (past : List Tick) (x : Tick) : Type 0 where
  pub one_share_each : length x.shares ≡ count p
  pub speed : speed_at p.machine x.entry ≡ f
  pub legal : SharesOut (count p) (key_at p relative (length past)) f (units_left p dem past) (share x)

-- every tick has speed f and is legal after the earlier ones; the last tick is first
abbrev pub IsScheduleAt : Plan → (ℕ → ℕ) → JobDemands → ℕ → List Tick → Type 0
IsScheduleAt p relative dem f [] = Unit {0}
IsScheduleAt p relative dem f (x ∷ past) = IsScheduleAt p relative dem f past × IsNextAt p relative dem f past x

-- every job whose absolute deadline is within the ticks has had its demand by then
abbrev pub IsMetBy : Plan → (ℕ → ℕ) → JobDemands → List Tick → Type 0
IsMetBy p relative dem ticks =
    (i k : ℕ) → i < count p → 1 ≤ k → absolute p relative i k ≤ length ticks
    → exec p (at (absolute p relative i k) ticks) i k ≡ dem i k

-- the one tick that may follow the ticks of `past` with the entry e
abbrev pub constrained_tick : Plan → (ℕ → ℕ) → JobDemands → ℕ → List Tick → Tick
constrained_tick p relative dem e past =
    let n = count p in
    let key = key_at p relative (length past) in
    record { entry = e; shares = list_below n (allotment n key (speed_at p.machine e) (units_left p dem past)) }

-- the one schedule of t ticks with the entry e
abbrev pub schedule_at : Plan → (ℕ → ℕ) → JobDemands → ℕ → ℕ → List Tick
schedule_at p relative dem e zero = []
schedule_at p relative dem e (suc t) = let past = schedule_at p relative dem e t in constrained_tick p relative dem e past ∷ past
