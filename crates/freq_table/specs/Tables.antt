-- A machine: its table of speeds, its idle share and its charge, and the entry that a demand picks.
use Rattle.std.specs.Prelude.{ℕ, ◌+◌, ◌-◌, ◌*◌, ◌<◌, ◌≤◌, min, List, length, slice_index_or}
use Rattle.grid_fraction.specs.declared.Frac.{Frac}
use Rattle.grid_fraction.specs.Fraction.{meets}
use Rattle.grid_fraction.specs.Numbers.{any_below, first_from}
use Rattle.freq_table.specs.declared.limits.TheConstants.{MOST_POINTS, TOP_SPEED, MOST_MILLIVOLTS, MOST_IDLE, MOST_CHARGE}
use Rattle.freq_table.specs.declared.machine.Point.{Point}
use Rattle.freq_table.specs.declared.machine.Pick.{Pick}

-- a machine: its entries, the thousandths that an idle unit costs, and the units that a switch of speed costs
pub record Table : Type 0 where
  pub points : List Point
  pub idle : ℕ
  pub charge : ℕ

-- the units that each job is charged with: those of two switches of speed
abbrev pub job_charge : Table → ℕ
job_charge m = 2 * m.charge

-- the entry with this number
abbrev pub point_at : Table → ℕ → Point
point_at m e = slice_index_or m.points e (record { speed = 0; millivolts = 0 })

-- the speed of the entry with this number
abbrev pub speed_at : Table → ℕ → ℕ
speed_at m e = (point_at m e).speed

-- the number of the last entry
abbrev pub last_entry : Table → ℕ
last_entry m = length m.points - 1

-- the highest speed, that of the last entry
abbrev pub highest_speed : Table → ℕ
highest_speed m = speed_at m (last_entry m)

-- the first entry whose speed meets the demand, and the last entry if none does
abbrev pub lowest_entry : Table → Frac → ℕ
lowest_entry m d = min (first_from (length m.points) 0 (λ e. meets (speed_at m e) d)) (last_entry m)

-- the first entry that meets the demand, otherwise the last, and whether any entry meets it
abbrev pub lowest_pick : Table → Frac → Pick
lowest_pick m d = record { index = lowest_entry m d; met = any_below (length m.points) (λ e. meets (speed_at m e) d) }

-- the limits of an entry: its speed and its voltage
pub record IsPoint (x : Point) : Type 0 where
  pub some_speed : 1 ≤ x.speed
  pub low_speed : x.speed ≤ TOP_SPEED
  pub some_millivolts : 1 ≤ x.millivolts
  pub low_millivolts : x.millivolts ≤ MOST_MILLIVOLTS

-- a machine within the limits: the speeds rise, and the voltages don't fall
pub record IsTable (m : Table) : Type 0 where
  pub some : 1 ≤ length m.points
  pub few : length m.points ≤ MOST_POINTS
  pub each : (e : ℕ) → e < length m.points → IsPoint (point_at m e)
  pub rising : (e : ℕ) → e + 1 < length m.points → speed_at m e < speed_at m (e + 1)
  pub not_falling : (e : ℕ) → e + 1 < length m.points → (point_at m e).millivolts ≤ (point_at m (e + 1)).millivolts
  pub low_idle : m.idle ≤ MOST_IDLE
  pub low_charge : m.charge ≤ MOST_CHARGE
