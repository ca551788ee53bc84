-- Fractions by their products, and the least common multiple.
use Rattle.std.specs.Prelude.{ℕ, ◌*◌, ◌%◌, Bool, nat_le, nat_lt, nat_eq, List, [], ◌∷◌}
use Rattle.std.specs.List.{list_all}
use Rattle.grid_fraction.specs.declared.Frac.{Frac}
use Rattle.grid_fraction.specs.Numbers.{first_from}

-- a speed, in work units per tick, meets the demand d: num <= speed * den
abbrev pub meets : ℕ → Frac → Bool
meets speed d = nat_le d.num (speed * d.den)

-- a is greater than b
abbrev pub is_greater : Frac → Frac → Bool
is_greater a b = nat_lt (b.num * a.den) (a.num * b.den)

-- the product of the numbers
abbrev pub product : List ℕ → ℕ
product [] = 1
product (n ∷ ns) = n * product ns

-- each of the numbers divides h
abbrev pub divides_all : List ℕ → ℕ → Bool
divides_all ns h = list_all (λ n. nat_eq (h % n) 0) ns

-- the least common multiple: the least number from 1 on that each of the numbers divides
unfoldable pub least_common_multiple : List ℕ → ℕ
least_common_multiple ns = first_from (product ns) 1 (divides_all ns)
