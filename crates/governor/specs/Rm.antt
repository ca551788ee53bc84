-- The two conditions under RM for one speed F: each level is done or in a busy stretch.
use Rattle.std.specs.Prelude.{ℕ, Bool, zero, suc, ◌+◌, nat_le, if◌then◌else◌, ◌*◌, ◌≡◌, ◌-◌, ◌<◌, ◌≤◌, true, false, ◌⊎◌}
use Rattle.grid_fraction.specs.Numbers.{sum_where}
use Rattle.freq_table.specs.Tables.{speed_at}
use Rattle.sched_model.specs.Priority.{is_up_to}
use Rattle.sched_model.specs.Plan.{Plan, period, worst, count}
use Rattle.sched_model.specs.Jobs.{release}
use Rattle.sched_model.specs.States.{StateView, row_at}
use Rattle.governor.specs.Steps.{wleft_at, release_of}

-- whether task j is of the level of task i: task i itself or before it in RM order
abbrev pub level : Plan → ℕ → ℕ → Bool
level plan i j = is_up_to (period plan) i j

-- how many of the jobs 1 to k of task j were released at tick b or later
abbrev pub released_since : Plan → ℕ → ℕ → ℕ → ℕ
released_since plan j b zero = 0
released_since plan j b (suc k) = released_since plan j b k + (if nat_le b (release plan j (suc k)) then 1 else 0)

-- the work of the jobs of task j released at tick b or later, so far, each at its worst case
abbrev pub asked_since : Plan → StateView → ℕ → ℕ → ℕ
asked_since plan s b j = released_since plan j b (row_at s j).job * worst plan j

-- A busy stretch of the level of task i began at tick b. It is shorter than `long` and has the release of each open
-- job of the level. What the level asked for since b covers F times the ticks since b, and what it may still need.
pub record IsStretch (F long : ℕ) (plan : Plan) (s : StateView) (i b : ℕ) : Type 0 where
  pub begun : b ≤ s.now
  pub short : s.now - b < long
  pub since : (j : ℕ) → j < count plan → level plan i j ≡ true → (row_at s j).done ≡ false
      → b ≤ release_of plan j (row_at s j)
  pub work : sum_where (count plan) (level plan i) (wleft_at s) + F * (s.now - b)
      ≤ sum_where (count plan) (level plan i) (asked_since plan s b)

-- each task of the level of task i has a complete job
abbrev pub IsLevelDone : Plan → StateView → ℕ → Type 0
IsLevelDone plan s i = (j : ℕ) → j < count plan → level plan i j ≡ true → (row_at s j).done ≡ true

-- the level of task i is done, or in a busy stretch shorter than `long`
abbrev pub LevelCalm : ℕ → ℕ → Plan → StateView → ℕ → Type 0
LevelCalm F long plan s i = IsLevelDone plan s i ⊎ ((b : ℕ) × IsStretch F long plan s i b)

-- the level of each task i is done, or in a busy stretch shorter than `long i`
abbrev pub StretchCalm : ℕ → (ℕ → ℕ) → Plan → StateView → Type 0
StretchCalm F long plan s = (i : ℕ) → i < count plan → LevelCalm F (long i) plan s i

-- the level of each task is done, or in a busy stretch shorter than the task's period
abbrev pub RmCalm : ℕ → Plan → StateView → Type 0
RmCalm F plan s = StretchCalm F (period plan) plan s

-- the condition RmCalm holds, and the speed of the entry k is F
pub record RmSafe (F : ℕ) (plan : Plan) (s : StateView) (k : ℕ) : Type 0 where
  pub calm : RmCalm F plan s
  pub same : speed_at plan.machine k ≡ F
