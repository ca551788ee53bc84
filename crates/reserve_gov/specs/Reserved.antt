-- What the governor reserve publishes, and its speed.
use Rattle.std.specs.Prelude.{ℕ, ◌+◌, ◌*◌, min}
use Rattle.grid_fraction.specs.declared.Frac.{Frac}
use Rattle.grid_fraction.specs.Numbers.{ceil_div}
use Rattle.freq_table.specs.Tables.{speed_at, lowest_entry}
use Rattle.sched_model.specs.Plan.{Plan, top_speed}
use Rattle.sched_model.specs.StaticDemand.{static_demand}

-- the static demand and a tenth of it, its numerator rounded up, and at most the highest speed
abbrev pub reserved_demand : Plan → Frac
reserved_demand plan =
    let least = static_demand plan in
    record { num = min (least.num + ceil_div least.num 10) (top_speed plan * least.den); den = least.den }

-- the speed of the lowest entry that meets the reserved demand
abbrev pub reserved_speed : Plan → ℕ
reserved_speed plan = speed_at plan.machine (lowest_entry plan.machine (reserved_demand plan))
