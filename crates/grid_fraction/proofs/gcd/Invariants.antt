-- The greatest common divisor of the two loop variables is that of the two arguments.
use Rattle.std.proofs.Common.{ℕ}
use Rattle.std.specs.Int.{IsGcd}
use Rattle.grid_fraction.proofs.gcd.Given as goal

abbrev pub invariant-loop-rest : goal.invariant-loop-rest
invariant-loop-rest l = (g : ℕ) → IsGcd l.divisor l.rest g → IsGcd l.fn.a l.fn.b g

abbrev pub decreases-loop-rest : goal.decreases-loop-rest
decreases-loop-rest l = l.rest
