-- A table of two points, within the limits.
use Rattle.std.proofs.Common.{◌<◌, ◌≤◌, ℕ, zero, suc, ◌+◌, [], ◌∷◌, arith}
use Rattle.freq_table.specs.Tables.{Table, point_at, speed_at, IsPoint, IsTable}

abbrev pub two_points : Table
two_points = record { points = record { speed = 6; millivolts = 3000 } ∷ record { speed = 12; millivolts = 5000 } ∷ []; idle = 0; charge = 0 }

each : (e : ℕ) → e < 2 → IsPoint (point_at two_points e)
each zero lt = record { some_speed = omega arith; low_speed = omega arith; some_millivolts = omega arith; low_millivolts = omega arith }
each (suc zero) lt = record { some_speed = omega arith; low_speed = omega arith; some_millivolts = omega arith; low_millivolts = omega arith }
each (suc (suc e)) lt = absurd (omega arith)

rising : (e : ℕ) → e + 1 < 2 → speed_at two_points e < speed_at two_points (e + 1)
rising zero lt = omega arith
rising (suc e) lt = absurd (omega arith)

not_falling : (e : ℕ) → e + 1 < 2 → (point_at two_points e).millivolts ≤ (point_at two_points (e + 1)).millivolts
not_falling zero lt = omega arith
not_falling (suc e) lt = absurd (omega arith)

pub two_points-limits : IsTable two_points
two_points-limits = record {
  some = omega arith;
  few = omega arith;
  each = each;
  rising = rising;
  not_falling = not_falling;
  low_idle = omega arith;
  low_charge = omega arith;
}
