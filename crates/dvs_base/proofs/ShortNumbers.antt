-- A number of few digits is below a power of ten.
use Rattle.std.proofs.Common.{◌≡◌, ℕ, suc, ◌+◌, ◌*◌, ◌-◌, ◌^◌, ◌<◌, ◌≤◌, Bool, true, false, List, [], ◌∷◌, length, Some, None, refl, ap, subst, not, ◌∙◌, arith, if◌then◌else◌, ◌&&◌}
use Rattle.std.specs.Prelude.{nat_lt, ◌==◌}
use Rattle.std.specs.Char.{is_ascii_digit}
use Rattle.std.specs.List.{list_all}
use Rattle.std.proofs.Math.Bool.{and-true}
use Rattle.std.proofs.lemmas.Bool.{and_parts}
use Rattle.std.proofs.lemmas.Bool.Decides.{nat_tests}
use Rattle.std.proofs.Math.Nat.{pow-suc, pow-le-pow_right}
use Rattle.dvs_base.specs.Text.{starts_number}
use Rattle.dvs_base.specs.Text.{is_spelled, number_below, number_after}
use Rattle.dvs_base.proofs.Numbers.{is_spelled-digits}

-- a number of fewer than 19 digits is below 10^18
pub few-digits : (v i n : ℕ) → v < 10 ^ i → i < n → n ≤ 19 → v < 10 ^ 18
few-digits v i n low within few = let bound : 10 ^ i ≤ 10 ^ 18 = pow-le-pow_right {n = 10} (omega arith) {i = i} {j = 18} (omega arith) in omega (arith, bound)

-- one digit more makes a number below the next power of ten
pub one-digit : (v i c : ℕ) → v < 10 ^ i → c ≤ 57 → v * 10 + (c - 48) < 10 ^ (i + 1)
one-digit v i c low digit =
    let next : suc i ≡ i + 1 = omega arith in
    subst (λ (k : ℕ). v * 10 + (c - 48) < 10 ^ k) next (omega (arith, pow-suc 10 i))

digit-most : (c : ℕ) → is_ascii_digit c ≡ true → c ≤ 57
digit-most c h = grind (arith, nat_tests)

read_on-below : (v i : ℕ) (cs : List ℕ) → v < 10 ^ i → list_all is_ascii_digit cs ≡ true → number_after v cs < 10 ^ (i + length cs)
read_on-below v i [] low h = let same : i ≡ i + 0 = omega arith in subst (λ (k : ℕ). v < 10 ^ k) same low
read_on-below v i (c ∷ cs) low h =
    let parts = and_parts (is_ascii_digit c) (list_all is_ascii_digit cs) h in
    let next : ℕ = v * 10 + (c - 48) in
    let longer : i + 1 + length cs ≡ i + suc (length cs) = omega arith in
    subst (λ (k : ℕ). number_after next cs < 10 ^ k) longer
    (read_on-below next (i + 1) cs (one-digit v i c low (digit-most c parts.0)) parts.1)

-- a text is spelled if it can start a number and has only digits
spelled-by : {A : Type 0} (cs : List ℕ) (x y : A)
    → (if starts_number cs then (if list_all is_ascii_digit cs then x else y) else y) ≡ (if is_spelled cs then x else y)
spelled-by [] x y = refl
spelled-by (c ∷ []) x y = ap (λ b. if b then x else y) (and-true (is_ascii_digit c))
spelled-by (c ∷ d ∷ cs) x y = by (not (c == 48)) (list_all is_ascii_digit (c ∷ d ∷ cs))
  where
    by : (b digits : Bool) → (if b then (if digits then x else y) else y) ≡ (if b && digits then x else y)
    by true digits = refl
    by false digits = refl

-- a spelled text of at most 19 bytes is a number below each limit from 10^19 on
short-below : (limit : ℕ) (cs : List ℕ) → 10 ^ 19 ≤ limit → length cs ≤ 19
    → (if is_spelled cs then Some (number_after 0 cs) else None) ≡ number_below limit cs
short-below limit cs above short = by (is_spelled cs) refl
  where
    by : (b : Bool) → is_spelled cs ≡ b → (if b then Some (number_after 0 cs) else None) ≡ (if b && nat_lt (number_after 0 cs) limit then Some (number_after
        0 cs) else None)
    by true e =
        let small : number_after 0 cs < 10 ^ (0 + length cs) = read_on-below 0 0 cs (omega arith) (is_spelled-digits cs e) in
        let bound : 10 ^ (0 + length cs) ≤ 10 ^ 19 = pow-le-pow_right {n = 10} (omega arith) {i = 0 + length cs} {j = 19} (omega arith) in
        let below : nat_lt (number_after 0 cs) limit ≡ true = grind (arith, nat_tests, small, bound, above) in
        rw below refl
    by false e = refl

-- the same by the test of the first byte and that of the digits
pub short-number : (limit : ℕ) (cs : List ℕ) → 10 ^ 19 ≤ limit → length cs ≤ 19
    → (if starts_number cs then (if list_all is_ascii_digit cs then Some (number_after 0 cs) else None) else None) ≡ number_below limit cs
short-number limit cs above short = spelled-by cs (Some (number_after 0 cs)) None ∙ short-below limit cs above short
