-- The two conditions of cycle-conserving EDF: the rates pay for the work that is due, and the speed meets the rates.
use Rattle.std.specs.Prelude.{ℕ, ◌-◌, ◌*◌, ◌≤◌, min}
use Rattle.grid_fraction.specs.Numbers.{sum_below, sum_where}
use Rattle.freq_table.specs.Tables.{speed_at}
use Rattle.sched_model.specs.Plan.{Plan, count, hyper}
use Rattle.sched_model.specs.States.{StateView, row_at}
use Rattle.governor.specs.Steps.{wleft_at}
use Rattle.governor.specs.Edf.{due_by}
use Rattle.cc_edf_laws.specs.Cycle.{charged_rate_in, edf_cycle_demand}

-- the work that the tasks due by d may still need at most
abbrev pub due_work : Plan → StateView → ℕ → ℕ
due_work plan s d = sum_where (count plan) (due_by s d) (wleft_at s)

-- what the rates give from the present tick up to d, each up to its task's deadline, times H
abbrev pub credit : Plan → StateView → ℕ → ℕ
credit plan s d = sum_below (count plan) (λ i. charged_rate_in plan s i * (min d (row_at s i).deadline - s.now))

-- for each tick d from the present one on, the rates pay for the work that is due by d
abbrev pub CycleCalm : Plan → StateView → Type 0
CycleCalm plan s = (d : ℕ) → s.now ≤ d → hyper plan * due_work plan s d ≤ credit plan s d

-- the condition CycleCalm holds, and the entry in force meets the sum of the rates
pub record CycleSafe (plan : Plan) (s : StateView) (k : ℕ) : Type 0 where
  pub calm : CycleCalm plan s
  pub rate : (edf_cycle_demand plan s).num ≤ speed_at plan.machine k * hyper plan
