-- The two conditions of cycle-conserving RM, against the schedule under static with every job at its worst case.
use Rattle.std.specs.Prelude.{◌≡◌, ℕ, ◌+◌, ◌-◌, ◌*◌, ◌<◌, ◌≤◌, true}
use Rattle.dvs_base.specs.declared.kind.GovernorKind.TheVariants.{Fixed}
use Rattle.grid_fraction.specs.Numbers.{sum_below, sum_where}
use Rattle.freq_table.specs.Tables.{speed_at}
use Rattle.sched_model.specs.Plan.{Plan, count}
use Rattle.sched_model.specs.Jobs.{worst_demand}
use Rattle.sched_model.specs.Schedule.{schedule}
use Rattle.sched_model.specs.StaticDemand.{static_speed}
use Rattle.sched_model.specs.Backlog.{lacking, backlog}
use Rattle.sched_model.specs.States.{StateView, row_at, earliest_in}
use Rattle.governor.specs.Steps.{wleft_at, release_of}
use Rattle.governor.specs.Rm.{level}
use Rattle.cc_rm_laws.specs.Allotments.{allotment_left_in}

-- in the worst static schedule the job of task i that was released last before tick t has had all that it needs
abbrev pub LacksNothing : Plan → ℕ → ℕ → Type 0
LacksNothing plan t i = lacking plan (schedule plan Fixed (worst_demand plan) t) i ≡ 0

-- A level needs at most what is left of its allotments and its worst static backlog at the earliest deadline.
-- What is left in all fits at the static speed up to that deadline. A job released before the mark is complete if the
-- worst static schedule had completed it by the mark.
pub record CcRmCalm (plan : Plan) (s : StateView) : Type 0 where
  pub levels : (i : ℕ) → i < count plan → sum_where (count plan) (level plan i) (wleft_at s)
      ≤ sum_where (count plan) (level plan i) (allotment_left_in plan s) + backlog plan (earliest_in plan s) i
  pub total : sum_below (count plan) (allotment_left_in plan s) ≤ static_speed plan * (earliest_in plan s - s.now)
  pub since : (i : ℕ) → i < count plan → 0 < (row_at s i).job → release_of plan i (row_at s i) < s.base_at
      → LacksNothing plan s.base_at i → (row_at s i).done ≡ true

-- the condition CcRmCalm holds, and what is left in all fits at the speed of the entry k,
-- which is at most the static speed
pub record CcRmSafe (plan : Plan) (s : StateView) (k : ℕ) : Type 0 where
  pub calm : CcRmCalm plan s
  pub enough : sum_below (count plan) (allotment_left_in plan s)
      ≤ speed_at plan.machine k * (earliest_in plan s - s.now)
  pub slower : speed_at plan.machine k ≤ static_speed plan
