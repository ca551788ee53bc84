-- The demand of cycle conservation under EDF (Pillai and Shin 2001), and its counters.
use Rattle.std.specs.Prelude.{◌≡◌, ℕ, ◌+◌, ◌-◌, ◌<◌, if◌then◌else◌, List, length, slice_index}
use Rattle.grid_fraction.specs.declared.Frac.{Frac}
use Rattle.sched_model.specs.declared.state.Row.{Row}
use Rattle.sched_model.specs.Plan.{Plan, count}
use Rattle.sched_model.specs.CycleDemand.{rate_for, edf_cycle_of}
use Rattle.sched_model.specs.States.{StateView, row_at}
use Rattle.governor.specs.ServedSchedulers.{ServesEdf}

-- the units that a row's task is charged with: what its job had if it is complete, and otherwise its worst case
abbrev pub charged_of : Row → ℕ
charged_of row = if row.done then row.used else row.worst

-- the rate of task i: the work of H ticks, when each job takes what the task is charged with
abbrev pub charged_rate_in : Plan → StateView → ℕ → ℕ
charged_rate_in plan s i = rate_for plan i (charged_of (row_at s i))

-- the published demand: the sum of the rates, over H
abbrev pub edf_cycle_demand : Plan → StateView → Frac
edf_cycle_demand plan s = edf_cycle_of plan (λ i. charged_of (row_at s i))

-- the sum of the rates after task i is charged with `units` units
abbrev pub sum_charged : Plan → List ℕ → ℕ → ℕ → ℕ → ℕ
sum_charged plan rates sum i units = sum - slice_index rates i + rate_for plan i units

-- the counters are right for a state: the plan is under EDF, and the kept rates and their sum are the state's
pub record Counts (rates : List ℕ) (sum : ℕ) (plan : Plan) (s : StateView) : Type 0 where
  pub served : ServesEdf plan.scheduler
  pub one_each : length rates ≡ count plan
  pub rate_is : (i : ℕ) → i < count plan → slice_index rates i ≡ charged_rate_in plan s i
  pub sum_is : sum ≡ (edf_cycle_demand plan s).num
