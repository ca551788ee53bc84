-- The test of two answers, field by field.
use Rattle.std.proofs.lemmas.Bool.Decides.{nat_tests}
use Rattle.std.proofs.Common.{◌≡◌, Bool, true, false, ◌&&◌, eqb, refl, arith}
use Rattle.std.proofs.lemmas.Bool.{eqb-true, eq-eqb, and_parts, and_from}
use Rattle.std.proofs.Math.Bool.{beq}
use Rattle.energy_bound.specs.declared.least.Least.{Least}

abbrev pub same_least : Least → Least → Bool
same_least l k =
    eqb l.rounds k.rounds && (eqb l.low k.low && (eqb l.low_ticks k.low_ticks && (eqb l.high k.high && (eqb l.high_ticks k.high_ticks
    && (eqb l.energy k.energy && (eqb l.unit_price k.unit_price && (beq l.tick_minus k.tick_minus && eqb l.tick_price k.tick_price)))))))

beq-true : (a b : Bool) → beq a b ≡ true → a ≡ b
beq-true a b e = grind (arith, nat_tests)

eq-beq : (a : Bool) → beq a a ≡ true
eq-beq true = refl
eq-beq false = refl

pub same_least-true : (l k : Least) → same_least l k ≡ true → l ≡ k
same_least-true l k e = grind (arith, nat_tests, and_parts, beq, eqb-true, beq-true)

pub same_least-self : (l k : Least) → l ≡ k → same_least l k ≡ true
same_least-self l k e = grind (arith, nat_tests, and_from, eq-eqb, eq-beq)
