-- The two conditions under EDF for one speed F: the work that is due by each tick fits.
use Rattle.std.specs.Prelude.{ℕ, Bool, nat_le, ◌+◌, ◌-◌, ◌*◌, ◌≤◌}
use Rattle.grid_fraction.specs.Numbers.{sum_where}
use Rattle.freq_table.specs.Tables.{speed_at}
use Rattle.sched_model.specs.Plan.{Plan, count, hyper, rate}
use Rattle.sched_model.specs.States.{StateView, row_at, earliest_in}
use Rattle.governor.specs.Steps.{wleft_at}

-- whether the latest job of task i is due by tick d
abbrev pub due_by : StateView → ℕ → ℕ → Bool
due_by s d i = nat_le (row_at s i).deadline d

-- the work of the tasks that are due by d, times H: what their latest jobs may still need,
-- and their rates from the deadlines up to d
abbrev pub load : Plan → StateView → ℕ → ℕ
load plan s d =
    hyper plan * sum_where (count plan) (due_by s d) (wleft_at s)
    + sum_where (count plan) (due_by s d) (λ i. rate plan i * (d - (row_at s i).deadline))

-- for each tick d, the load up to d fits into what the speed F does up to d
abbrev pub EdfCalm : ℕ → Plan → StateView → Type 0
EdfCalm F plan s = (d : ℕ) → s.now ≤ d → load plan s d ≤ hyper plan * (F * (d - s.now))

-- for each tick d from the earliest deadline on, the load up to d fits into what the entry k does up to the earliest
-- deadline and F does from there on; the speed of the entry k is at most F
pub record EdfSafe (F : ℕ) (plan : Plan) (s : StateView) (k : ℕ) : Type 0 where
  pub bound : (d : ℕ) → earliest_in plan s ≤ d → load plan s d
      ≤ hyper plan * (speed_at plan.machine k * (earliest_in plan s - s.now) + F * (d - earliest_in plan s))
  pub slower : speed_at plan.machine k ≤ F
