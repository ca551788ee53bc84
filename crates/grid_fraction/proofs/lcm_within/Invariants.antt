-- The multiple so far is the least common multiple of the periods read so far.
use Rattle.std.proofs.Common.{◌≡◌, ◌≤◌, take}
use Rattle.grid_fraction.specs.Fraction.{least_common_multiple}
use Rattle.grid_fraction.proofs.lcm_within.Given as goal

abbrev pub invariant-loop-period : goal.invariant-loop-period
invariant-loop-period l = record {
  least : l.multiple ≡ least_common_multiple (take l.period-index l.periods);
  within : l.multiple ≤ l.cap;
}
