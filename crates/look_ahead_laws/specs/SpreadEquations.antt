-- The demand of look-ahead in a state, by equations over all tasks at once.
use Rattle.std.specs.Prelude.{◌≡◌, ℕ, ◌+◌, ◌-◌, ◌*◌, ◌<◌, ◌≤◌}
use Rattle.grid_fraction.specs.Numbers.{sum_below}
use Rattle.sched_model.specs.Plan.{Plan, count, hyper, rate, top_speed}
use Rattle.sched_model.specs.Priority.{sum_before}
use Rattle.sched_model.specs.AheadDemand.{sum_after, IsSpread}
use Rattle.sched_model.specs.States.{StateView}
use Rattle.governor.specs.Steps.{wleft_at}
use Rattle.look_ahead_laws.specs.Ahead.{deadline_at, ahead_demand}

-- the sum of the rates ui of the tasks before task i in EDF order
abbrev pub rates_before : Plan → StateView → ℕ → ℕ
rates_before plan s i = sum_before (count plan) (deadline_at s) (rate plan) i

-- the sum of the rates vi of the tasks after task i in EDF order
abbrev pub rates_after : Plan → StateView → (ℕ → ℕ) → ℕ → ℕ
rates_after plan s v i = sum_after (count plan) (deadline_at s) v i

-- for each task, y units are put off past the earliest deadline of the state, and v is the rate that they then need
abbrev pub IsSpreadIn : Plan → StateView → (ℕ → ℕ) → (ℕ → ℕ) → Type 0
IsSpreadIn plan s y v = IsSpread plan (deadline_at s) (wleft_at s) y v

-- the equations for the units that are put off and their rates have a solution in the state
abbrev pub HasSpread : Plan → StateView → Type 0
HasSpread plan s = (y : ℕ → ℕ) × ((v : ℕ → ℕ) × IsSpreadIn plan s y v)

-- for each solution, the demand's numerator is the sum of what is not put off
abbrev pub IsDemandOfSpread : Plan → StateView → Type 0
IsDemandOfSpread plan s =
    (y v : ℕ → ℕ) → IsSpreadIn plan s y v → (ahead_demand plan s).num ≡ sum_below (count plan) (λ i. wleft_at s i - y i)

-- for each solution, the rate of a task with the rates of the tasks after it and before it is within the highest speed
abbrev pub RatesFit : Plan → StateView → Type 0
RatesFit plan s =
    (y v : ℕ → ℕ) → IsSpreadIn plan s y v → (i : ℕ) → i < count plan
    → v i + rates_after plan s v i + rates_before plan s i ≤ top_speed plan * hyper plan
