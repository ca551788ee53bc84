-- What the two governors with one speed publish, and their speeds.
use Rattle.std.specs.Prelude.{ℕ}
use Rattle.grid_fraction.specs.declared.Frac.{Frac}
use Rattle.freq_table.specs.Tables.{speed_at, lowest_entry}
use Rattle.sched_model.specs.Plan.{Plan}
use Rattle.sched_model.specs.StaticDemand.{static_demand}
use Rattle.sched_model.specs.States.{StateView}

-- a published demand of only the plan, the same in every state
abbrev pub unchanging : (Plan → Frac) → Plan → StateView → Frac
unchanging demand plan s = demand plan

-- the speed of the lowest entry that meets the plan's static demand
abbrev pub fixed_speed : Plan → ℕ
fixed_speed plan = speed_at plan.machine (lowest_entry plan.machine (static_demand plan))
