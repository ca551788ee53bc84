-- Choices: an entry and a number of units for each tick, and what they cost.
use Rattle.std.specs.Prelude.{ℕ, ◌+◌, ◌*◌, ◌-◌, ◌<◌, ◌≤◌, List, length, sum_by}
use Rattle.std.specs.List.{All}
use Rattle.freq_table.specs.Tables.{Table, point_at, speed_at}

-- a choice for one tick: the entry in force, and the units that run
pub record Choice : Type 0 where
  pub entry : ℕ
  pub units : ℕ

-- the entry is one of the table's, and the units are at most its speed
pub record IsChoice (m : Table) (x : Choice) : Type 0 where
  pub entry : x.entry < length m.points
  pub units : x.units ≤ speed_at m x.entry

-- each tick of a list has a choice within the table
abbrev pub AreChoices : Table → List Choice → Type 0
AreChoices m xs = All (IsChoice m) xs

-- the energy of a tick: each unit that runs costs the square of the millivolts times 1000, and each that idles the
-- square times the idle share
abbrev pub choice_cost : Table → Choice → ℕ
choice_cost m x =
    let mv = (point_at m x.entry).millivolts in mv * mv * (1000 * x.units + m.idle * (speed_at m x.entry - x.units))

-- the units that run in all ticks of a list
abbrev pub total_units : List Choice → ℕ
total_units xs = sum_by (λ x. x.units) xs

-- the energy of all ticks of a list
abbrev pub total_cost : Table → List Choice → ℕ
total_cost m xs = sum_by (choice_cost m) xs
