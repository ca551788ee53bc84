-- Quotients, and quotients rounded up.
use Rattle.std.proofs.lemmas.Bool.Decides.{nat_tests}
use Rattle.std.proofs.Common.{◌≡◌, ℕ, zero, suc, ◌+◌, ◌-◌, ◌*◌, ◌/◌, ◌<◌, ◌≤◌, min, arith, one-mul}
use Rattle.std.proofs.Math.Nat.{div-eq_of_lt-le, add-mul, div-mul-le_self}
use Rattle.std.proofs.lemmas.Nat.{div-mul-add, le-div}
use Rattle.std.specs.Int.{div_ceil}
use Rattle.grid_fraction.specs.Numbers.{ceil_div}

-- a quotient is known by its bounds
pub quotient : (n d q : ℕ) → q * d ≤ n → n < (q + 1) * d → n / d ≡ q
quotient n d q low high = grind (arith, nat_tests, add-mul, div-mul-add, one-mul)

-- a multiple of d over d, rounded up, is the factor
pub ceil-at : (q d : ℕ) → 0 < d → ceil_div (q * d) d ≡ q
ceil-at q d pos = quotient (q * d + (d - 1)) d q (omega arith) (omega (arith, add-mul q 1 d, one-mul d))

-- a quotient rounded up grows with its numerator
pub ceil-mono : (m n d : ℕ) → 0 < d → m ≤ n → ceil_div m d ≤ ceil_div n d
ceil-mono m n d pos le = grind (arith, nat_tests, div-mul-le_self, le-div)

above_quotient : (n d q r : ℕ) → q * d + r ≡ n → r < d → ((q + min 1 r) * d ≤ n + (d - 1)) × (n + (d - 1) < (q + min 1 r + 1) * d)
above_quotient n d q zero e lt = (omega (arith, add-mul q 0 d), omega (arith, add-mul q 1 d))
above_quotient n d q (suc r) e lt = grind (arith, nat_tests, add-mul)

-- the quotient, and one more if there is a remainder, is the quotient rounded up
pub div_ceil_is : (n d : ℕ) → 0 < d → div_ceil n d ≡ ceil_div n d
div_ceil_is n d some = grind (arith, nat_tests, above_quotient, div-eq_of_lt-le)
