use Rattle.std.proofs.Common.{◌<◌, ℕ}
use Rattle.energy_bound.specs.Corners.{Holds}
use Rattle.energy_bound.proofs.least.first_partner.Given as goal

-- no corner so far holds with corner a
abbrev pub invariant-loop-b : goal.invariant-loop-b
invariant-loop-b l = (d : ℕ) → d < l.b → Holds l.machine l.units l.ticks l.a d → ⊥
