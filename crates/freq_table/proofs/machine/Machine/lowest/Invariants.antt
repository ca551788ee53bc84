use Rattle.std.proofs.Common.{◌≡◌, ◌<◌, ℕ, false}
use Rattle.grid_fraction.specs.Fraction.{meets}
use Rattle.freq_table.specs.Tables.{speed_at}
use Rattle.freq_table.proofs.machine.Machine.lowest.Given as goal

-- no entry so far meets the demand
abbrev pub invariant-loop-i : goal.invariant-loop-i
invariant-loop-i l = (k : ℕ) → k < l.i → meets (speed_at l.self k) l.d ≡ false
