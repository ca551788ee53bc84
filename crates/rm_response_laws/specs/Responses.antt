-- The response of a task under RM at the highest speed (Joseph and Pandya 1986), and what it says of first jobs.
use Rattle.std.specs.Prelude.{ℕ, List, Bool, ◌≡◌, ◌<◌, true, false, ◌*◌, nat_le, ◌≤◌}
use Rattle.dvs_base.specs.declared.kind.GovernorKind.TheVariants.{Plain}
use Rattle.sched_model.specs.Plan.{Plan, top_speed, period, count}
use Rattle.sched_model.specs.Ticks.{Tick, is_done, IsMet}
use Rattle.sched_model.specs.Jobs.{IsWithin, JobDemands, worst_demand}
use Rattle.sched_model.specs.Schedule.{schedule}
use Rattle.grid_fraction.specs.Numbers.{first_from}
use Rattle.sched_model.specs.Priority.{stands_before}
use Rattle.governor.specs.Worst.{level_work_in}

-- for all demands of the jobs within their worst cases, the schedule with no governor meets every deadline,
-- for each number of ticks
abbrev pub MeetsAllDeadlines : Plan → Type 0
MeetsAllDeadlines p = (dem : JobDemands) → IsWithin p dem → (t : ℕ) → IsMet p dem (schedule p Plain dem t)

-- the first t ticks of the schedule with no governor and every job at its worst case
abbrev pub full_worst_ticks : Plan → ℕ → List Tick
full_worst_ticks p t = schedule p Plain (worst_demand p) t

-- whether the first job of task i is complete after t ticks with no governor and every job at its worst case
abbrev pub is_first_done : Plan → ℕ → ℕ → Bool
is_first_done p i t = is_done p (worst_demand p) (full_worst_ticks p t) i 1

-- t is the least tick at which the first job of task i is complete
pub record IsFirstDoneAt (p : Plan) (i t : ℕ) : Type 0 where
  pub done : is_first_done p i t ≡ true
  pub before : (u : ℕ) → u < t → is_first_done p i u ≡ false

-- whether t ticks serve the level of task i: in them the highest speed does the work that the level can ask for in them
abbrev pub is_level_served : Plan → ℕ → ℕ → Bool
is_level_served p i t = nat_le (level_work_in p t i) (top_speed p * t)

-- fewer than t ticks don't serve the level of task i
abbrev pub IsUnserved : Plan → ℕ → ℕ → Type 0
IsUnserved p i t = (u : ℕ) → 1 ≤ u → u < t → top_speed p * u < level_work_in p u i

-- the response of task i: the least t from 1 to its period such that t ticks serve, otherwise one more than the period
unfoldable pub response : Plan → ℕ → ℕ
response p i = first_from (period p i) 1 (is_level_served p i)

-- task i has a response: it is at most the period
abbrev pub HasResponse : Plan → ℕ → Type 0
HasResponse p i = response p i ≤ period p i

-- each task has a response
abbrev pub AllRespond : Plan → Type 0
AllRespond p = (i : ℕ) → i < count p → HasResponse p i

-- each task before task i in RM order has a response
abbrev pub EarlierRespond : Plan → ℕ → Type 0
EarlierRespond p i = (j : ℕ) → j < count p → stands_before (period p) j i ≡ true → HasResponse p j
