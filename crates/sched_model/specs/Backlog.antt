-- What the jobs of a level still lack under static RM with every job at its worst case.
use Rattle.std.specs.Prelude.{ℕ, ◌-◌, List, length, [], ◌∷◌}
use Rattle.dvs_base.specs.declared.kind.GovernorKind.TheVariants.{Fixed}
use Rattle.sched_model.specs.Plan.{Plan, count, period}
use Rattle.sched_model.specs.Jobs.{latest, worst_demand}
use Rattle.sched_model.specs.Ticks.{Tick, exec}
use Rattle.sched_model.specs.Priority.{sum_up_to}
use Rattle.sched_model.specs.Schedule.{schedule}

-- what the job of task i released last before the present tick lacks of its worst case; 0 if none was
abbrev pub lacking : Plan → List Tick → ℕ → ℕ
lacking p past i = let k = latest p i (length past - 1) in worst_demand p i k - exec p past i k

-- what task i and the tasks before it in RM order lack together; 0 at tick 0
abbrev pub level_lacking : Plan → List Tick → ℕ → ℕ
level_lacking p [] i = 0
level_lacking p (x ∷ past) i = sum_up_to (count p) (period p) (lacking p (x ∷ past)) i

-- Bi(t): what task i and the tasks before it in RM order lack at tick t under static with every job at its worst case
unfoldable pub backlog : Plan → ℕ → ℕ → ℕ
backlog p t i = level_lacking p (schedule p Fixed (worst_demand p) t) i
