-- The published demand of look-ahead in a state, and its two conditions.
use Rattle.std.specs.Prelude.{ℕ, List}
use Rattle.grid_fraction.specs.declared.Frac.{Frac}
use Rattle.sched_model.specs.Plan.{Plan, count, top_speed}
use Rattle.sched_model.specs.Priority.{in_order}
use Rattle.sched_model.specs.AheadDemand.{ahead_of}
use Rattle.sched_model.specs.States.{StateView, row_at}
use Rattle.governor.specs.Steps.{wleft_at}
use Rattle.governor.specs.Edf.{EdfCalm, EdfSafe}

-- Di, the deadline of the latest job of task i
abbrev pub deadline_at : StateView → ℕ → ℕ
deadline_at s i = (row_at s i).deadline

-- the tasks in EDF order
abbrev pub edf_order : Plan → StateView → List ℕ
edf_order plan s = in_order (deadline_at s) (count plan)

-- the published demand: the formula over the deadlines in the state's rows and what their jobs may still need
abbrev pub ahead_demand : Plan → StateView → Frac
ahead_demand plan s = ahead_of plan (deadline_at s) (wleft_at s) s.now

-- the calm condition: the work due by each tick fits at the highest speed;
-- it is the condition of the governor that always runs at the highest speed
abbrev pub AheadCalm : Plan → StateView → Type 0
AheadCalm plan s = EdfCalm (top_speed plan) plan s

-- the safe condition: the work due by each tick fits at the entry k up to the earliest deadline,
-- and at the highest speed from there on
abbrev pub AheadSafe : Plan → StateView → ℕ → Type 0
AheadSafe plan s k = EdfSafe (top_speed plan) plan s k
