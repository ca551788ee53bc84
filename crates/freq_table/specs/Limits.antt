-- A list of points within the limits, of any length: what a table keeps while it is read.
use Rattle.std.specs.Prelude.{ℕ, ◌+◌, ◌<◌, ◌≤◌, List, length, slice_index_or}
use Rattle.freq_table.specs.declared.machine.Point.{Point}
use Rattle.freq_table.specs.Tables.{IsPoint}

-- the point of a list with this number
abbrev pub point_in : List Point → ℕ → Point
point_in points e = slice_index_or points e (record { speed = 0; millivolts = 0 })

-- each point is within its limits, the speeds rise, and the voltages don't fall
pub record ArePoints (points : List Point) : Type 0 where
  pub each : (e : ℕ) → e < length points → IsPoint (point_in points e)
  pub rising : (e : ℕ) → e + 1 < length points → (point_in points e).speed < (point_in points (e + 1)).speed
  pub not_falling : (e : ℕ) → e + 1 < length points → (point_in points e).millivolts ≤ (point_in points (e + 1)).millivolts
