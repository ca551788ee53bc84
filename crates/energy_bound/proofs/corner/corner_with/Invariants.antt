use Rattle.std.proofs.Common.{◌≢◌, ◌<◌, ℕ}
use Rattle.energy_bound.specs.Corners.{corner_units}
use Rattle.energy_bound.proofs.corner.corner_with.Given as goal

-- no corner so far has the units
abbrev pub invariant-loop-k : goal.invariant-loop-k
invariant-loop-k l = (k : ℕ) → k < l.k → corner_units l.machine k ≢ l.units
