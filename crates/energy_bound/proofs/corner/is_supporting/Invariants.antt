use Rattle.std.proofs.Common.{◌≡◌, ◌<◌, ℕ}
use Rattle.energy_bound.specs.Corners.{corner_units, corner_cost, IsAbove}
use Rattle.energy_bound.proofs.corner.is_supporting.Given as goal

-- no corner so far lies below the line through the two
abbrev pub invariant-loop-k : goal.invariant-loop-k
invariant-loop-k l = record {
  low_units : l.low.units ≡ corner_units l.machine l.a;
  low_cost : l.low.cost ≡ corner_cost l.machine l.a;
  high_units : l.high.units ≡ corner_units l.machine l.b;
  high_cost : l.high.cost ≡ corner_cost l.machine l.b;
  above : (k : ℕ) → k < l.k → IsAbove l.low.units l.low.cost l.high.units l.high.cost (corner_units l.machine k) (corner_cost l.machine k);
}
