use Rattle.std.proofs.Common.{◌<◌, ℕ}
use Rattle.energy_bound.specs.Corners.{Holds}
use Rattle.energy_bound.proofs.least.least_energy.Given as goal

-- no pair holds whose low corner was tried
abbrev pub invariant-loop-a : goal.invariant-loop-a
invariant-loop-a l = (a d : ℕ) → a < l.a → Holds l.machine l.units l.ticks a d → ⊥
