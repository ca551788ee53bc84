-- Why a task set is not admitted under RM.
use Rattle.std.specs.Prelude.{◌≡◌, ℕ, ◌*◌, ◌<◌, ◌≤◌, true}
use Rattle.sched_model.specs.Plan.{Plan, count, period, top_speed}
use Rattle.sched_model.specs.Priority.{stands_before}
use Rattle.sched_model.specs.Tests.{level_work, IsRmFeasible}
use Rattle.rm_admit.specs.declared.RmFault.{RmFault}
use Rattle.rm_admit.specs.declared.RmFault.TheVariants.{Denied, NoMemory}

-- task i fails the test
abbrev pub IsOverloaded : Plan → ℕ → Type 0
IsOverloaded p i = top_speed p * period p i < level_work p i

-- task i is the first in RM order that fails the test
pub record IsFirstOverloaded (p : Plan) (i : ℕ) : Type 0 where
  pub task : i < count p
  pub fails : IsOverloaded p i
  pub first : (k : ℕ) → k < count p → stands_before (period p) k i ≡ true → level_work p k ≤ top_speed p * period p k

-- `task` is the first to fail the test, with the two numbers that show it; or the test passes, and memory ran out
abbrev pub IsRmDenial : Plan → RmFault → Type 0
IsRmDenial p (Denied task num cap) =
    IsFirstOverloaded p task × (num ≡ level_work p task) × (cap ≡ top_speed p * period p task)
IsRmDenial p NoMemory = IsRmFeasible p
