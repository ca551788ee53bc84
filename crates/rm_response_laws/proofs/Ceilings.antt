-- Quotients rounded up: their values after a multiple, and what they cover.
use Rattle.std.proofs.Common.{◌≡◌, inl, inr, ℕ, suc, ◌+◌, ◌-◌, ◌*◌, ◌<◌, ◌≤◌, arith, add-mul, one-mul}
use Rattle.std.proofs.Math.Nat.{mul-le-mul_right, div-mul-le_self}
use Rattle.std.proofs.lemmas.Bool.{cases_lt}
use Rattle.grid_fraction.specs.Numbers.{ceil_div}
use Rattle.grid_fraction.proofs.Ceilings.{quotient}
use Rattle.governor.proofs.RmLevels.{ceil_covers}

-- from one more than a multiple of d up to the next one the quotient is the same
pub ceil-after : (q d r : ℕ) → 0 < r → r ≤ d → ceil_div (q * d + r) d ≡ q + 1
ceil-after q d r pos most =
    quotient (q * d + r + (d - 1)) d (q + 1) (omega (arith, add-mul q 1 d, one-mul d))
    (omega (arith, add-mul q 1 d, one-mul d, add-mul (q + 1) 1 d))

-- fewer than the quotient, times the divisor, don't cover the dividend
pub ceil-least : (n d u : ℕ) → 0 < d → u < ceil_div n d → d * u < n
ceil-least n d u pos lt =
    let low = div-mul-le_self (n + (d - 1)) d in
    let m : suc u * d ≤ ceil_div n d * d = mul-le-mul_right d lt in
    omega arith

-- n units that d units a tick do in u ticks take at most u ticks
pub ceil-within : (n d u : ℕ) → 0 < d → n ≤ d * u → ceil_div n d ≤ u
ceil-within n d u pos le = elim (cases_lt u (ceil_div n d)) [
  | inl above ↦ (let low = ceil-least n d u pos above in absurd (omega arith))
  | inr most ↦ most
]

-- the quotient of a sum is at most the sum of the quotients
pub ceil-sum : (a b d : ℕ) → 0 < d → ceil_div (a + b) d ≤ ceil_div a d + ceil_div b d
ceil-sum a b d pos =
    let first = ceil_covers a d pos in
    let second = ceil_covers b d pos in
    ceil-within (a + b) d (ceil_div a d + ceil_div b d) pos (omega (arith, first, second))
