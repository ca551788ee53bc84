-- How std orders pairs of numbers: by the first, and then by the second.
use Rattle.std.specs.Prelude.{◌≡◌, ℕ, nat_eq, nat_lt, ◌&&◌, ◌||◌}
use Rattle.std.proofs.Common.{arith}
use Rattle.std.proofs.lemmas.Bool.Decides.{nat_tests}
use Rattle.std.specs.declared.cmp.Ordering.{Ordering}
use Rattle.std.specs.Ordering.{nat_cmp, ordering_then, is_lt}

abbrev pub pair_cmp : ℕ × ℕ → ℕ × ℕ → Ordering
pair_cmp x y = ordering_then (nat_cmp x.0 y.0) (nat_cmp x.1 y.1)

pub is_lt-pair_cmp : (x y : ℕ × ℕ) → is_lt (pair_cmp x y) ≡ (nat_lt x.0 y.0 || (nat_eq x.0 y.0 && nat_lt x.1 y.1))
is_lt-pair_cmp x y = grind (arith, nat_tests)
