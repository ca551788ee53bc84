-- What jobs ask for at worst, and the schedule under static with every job at its worst case.
use Rattle.std.specs.Prelude.{ℕ, ◌*◌}
use Rattle.grid_fraction.specs.Numbers.{ceil_div}
use Rattle.sched_model.specs.Priority.{sum_up_to}
use Rattle.sched_model.specs.Plan.{Plan, count, period, worst}
use Rattle.sched_model.specs.Jobs.{worst_demand}
use Rattle.dvs_base.specs.declared.kind.GovernorKind.TheVariants.{Fixed}
use Rattle.sched_model.specs.Ticks.{IsMet}
use Rattle.sched_model.specs.Schedule.{schedule}

-- the work that task i and the tasks before it in RM order can ask for in `span` ticks
abbrev pub level_work_in : Plan → ℕ → ℕ → ℕ
level_work_in plan span i = sum_up_to (count plan) (period plan) (λ j. ceil_div span (period plan j) * worst plan j) i

-- the schedule under static with every job at its worst case meets every deadline, for each number of ticks
abbrev pub MeetsAtWorst : Plan → Type 0
MeetsAtWorst p = (t : ℕ) → IsMet p (worst_demand p) (schedule p Fixed (worst_demand p) t)
