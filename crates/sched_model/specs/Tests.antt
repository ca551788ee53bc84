-- The two tests of admission.
use Rattle.std.specs.Prelude.{ℕ, ◌*◌, ◌≤◌, ◌<◌}
use Rattle.dvs_base.specs.declared.kind.Scheduler.{Scheduler}
use Rattle.dvs_base.specs.declared.kind.Scheduler.TheVariants.{Edf, Rm}
use Rattle.grid_fraction.specs.Numbers.{sum_below, ceil_div}
use Rattle.sched_model.specs.Plan.{Plan, count, rate, hyper, top_speed, period, worst}
use Rattle.sched_model.specs.Priority.{sum_up_to}

-- the sum of the rates ui
abbrev pub total_rate : Plan → ℕ
total_rate p = sum_below (count p) (rate p)

-- Si: the work that task i and the tasks before it in RM order can ask for in one period of task i
abbrev pub level_work : Plan → ℕ → ℕ
level_work p i = sum_up_to (count p) (period p) (λ j. ceil_div (period p i) (period p j) * worst p j) i

-- The test of a scheduler at speed f. Under EDF the work of H ticks fits into H ticks, under RM each Si fits into one
-- period of task i.
abbrev pub PassesAt : ℕ → Scheduler → Plan → Type 0
PassesAt f Edf p = total_rate p ≤ f * hyper p
PassesAt f Rm p = (i : ℕ) → i < count p → level_work p i ≤ f * period p i

-- the test under EDF, at the highest speed
abbrev pub IsEdfFeasible : Plan → Type 0
IsEdfFeasible p = PassesAt (top_speed p) Edf p

-- the test under RM, at the highest speed
abbrev pub IsRmFeasible : Plan → Type 0
IsRmFeasible p = PassesAt (top_speed p) Rm p
