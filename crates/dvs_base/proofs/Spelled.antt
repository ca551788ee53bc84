-- The decimal text of a number is its one spelling.
use Rattle.std.proofs.Common.{◌≡◌, ◌≢◌, ℕ, ◌+◌, ◌*◌, ◌-◌, ◌/◌, ◌%◌, ◌^◌, ◌<◌, ◌≤◌, Bool, true, false, not, ◌&&◌, List, [], ◌∷◌, ◌++◌, length, get_or, Some, None, refl, sym, ap, ap₂, ◌∙◌, append_assoc, arith, if◌then◌else◌}
use Rattle.std.specs.Prelude.{◌==◌, nat_lt}
use Rattle.std.specs.Char.{is_ascii_digit}
use Rattle.std.specs.List.{list_all}
use Rattle.std.specs.Fmt.{decimal}
use Rattle.std.proofs.lemmas.Bool.{and_parts}
use Rattle.std.proofs.lemmas.Bool.Decides.{nat_tests}
use Rattle.std.proofs.lemmas.List.{append-nil}
use Rattle.std.proofs.lemmas.Fmt.{decimal_is_IsNumeral_wide, decimal_by_steps_wide, decimal_step_wide, decimal_digit}
use Rattle.dvs_base.specs.Text.{is_spelled, number_below, number_after}
use Rattle.dvs_base.proofs.Numbers.{own}

digit-range : (c : ℕ) → is_ascii_digit c ≡ true → (48 ≤ c) × (c ≤ 57)
digit-range c h = grind (arith, nat_tests)

-- a text has a first digit, which is above 0 if the number is
abbrev Leads : ℕ → List ℕ → Type 0
Leads n ds = (0 < length ds) × (0 < n → 48 < get_or ds 0 0)

leads-more : (n : ℕ) (ds : List ℕ) → 10 ≤ n → Leads (n / 10) ds → Leads n (ds ++ (48 + n % 10) ∷ [])
leads-more n [] ten h = absurd (omega (arith, h.0))
leads-more n (d ∷ ds) ten h = (omega arith, λ _. h.1 (omega arith))

leads : (n : ℕ) → n < 10 ^ 64 → Leads n (decimal n)
leads = decimal_by_steps_wide Leads (λ n small. (omega arith, λ above. omega arith)) leads-more

digits : (n : ℕ) → n < 10 ^ 64 → list_all is_ascii_digit (decimal n) ≡ true
digits n fits = own.from (decimal n) (decimal_is_IsNumeral_wide n fits).0.1

pub read_on-decimal : (n : ℕ) → n < 10 ^ 64 → number_after 0 (decimal n) ≡ n
read_on-decimal n fits = own.same (decimal n) (decimal_is_IsNumeral_wide n fits).0.1 ∙ (decimal_is_IsNumeral_wide n fits).1

spelled-led : (ds : List ℕ) → list_all is_ascii_digit ds ≡ true → 0 < length ds → 48 < get_or ds 0 0 → is_spelled ds ≡ true
spelled-led [] h some above = absurd (omega arith)
spelled-led (c ∷ []) h some above = (and_parts (is_ascii_digit c) true h).0
spelled-led (c ∷ d ∷ cs) h some above = let other : (c == 48) ≡ false = grind (arith, nat_tests) in rw (other, h) refl

pub is_spelled-decimal : (n : ℕ) → n < 10 ^ 64 → is_spelled (decimal n) ≡ true
is_spelled-decimal n fits = by (nat_lt 0 n) refl
  where
    by : (b : Bool) → nat_lt 0 n ≡ b → is_spelled (decimal n) ≡ true
    by true e = spelled-led (decimal n) (digits n fits) (leads n fits).0 ((leads n fits).1 (grind (arith, nat_tests)))
    by false e = let none : n ≡ 0 = grind (arith, nat_tests) in ap (λ m. is_spelled (decimal m)) none ∙ ap is_spelled (decimal_digit 0 (omega arith))

-- reading the decimal text of a number gives the number
pub number_below-decimal : (limit n : ℕ) → n < limit → n < 10 ^ 64 → number_below limit (decimal n) ≡ Some n
number_below-decimal limit n below fits =
    let less : nat_lt n limit ≡ true = grind (arith, nat_tests) in
    rw (is_spelled-decimal n fits, read_on-decimal n fits, less) refl

read_on-le : (n : ℕ) (cs : List ℕ) → n ≤ number_after n cs
read_on-le n [] = omega arith
read_on-le n (c ∷ cs) = omega (arith, read_on-le (n * 10 + (c - 48)) cs)

decimal-read_on : (m : ℕ) (cs : List ℕ) → 0 < m → list_all is_ascii_digit cs ≡ true → number_after m cs < 10 ^ 64
    → decimal (number_after m cs) ≡ decimal m ++ cs
decimal-read_on m [] above h fits = sym (append-nil (decimal m))
decimal-read_on m (c ∷ cs) above h fits =
    let parts = and_parts (is_ascii_digit c) (list_all is_ascii_digit cs) h in
    let range = digit-range c parts.0 in
    let next : ℕ = m * 10 + (c - 48) in
    let front : next / 10 ≡ m = omega (arith, range.0, range.1) in
    let last : 48 + next % 10 ≡ c = omega (arith, range.0, range.1) in
    let step : decimal next ≡ decimal m ++ c ∷ [] = decimal_step_wide next (omega arith) (omega (arith, read_on-le next cs))
    ∙ ap₂ (λ a b. decimal a ++ b ∷ []) front last in
    decimal-read_on next cs (omega arith) parts.1 fits ∙ (ap (λ ds. ds ++ cs) step ∙ append_assoc (decimal m) (c ∷ []) cs)

-- a spelled text is the decimal text of its value
pub decimal-spelled : (bs : List ℕ) → is_spelled bs ≡ true → number_after 0 bs < 10 ^ 64 → decimal (number_after 0 bs) ≡ bs
decimal-spelled [] h fits = absurd (cc)
decimal-spelled (c ∷ []) h fits =
    let range = digit-range c h in
    decimal_digit (0 * 10 + (c - 48)) (omega (arith, range.0, range.1)) ∙ ap (λ d. d ∷ []) (omega (arith, range.0, range.1))
decimal-spelled (c ∷ d ∷ cs) h fits =
    let parts = and_parts (not (c == 48)) (list_all is_ascii_digit (c ∷ d ∷ cs)) h in
    let all = and_parts (is_ascii_digit c) (list_all is_ascii_digit (d ∷ cs)) parts.1 in
    let range = digit-range c all.0 in
    let other : c ≢ 48 = grind (arith, nat_tests) in
    let first : decimal (0 * 10 + (c - 48)) ≡ c ∷ [] = decimal_digit (0 * 10 + (c - 48)) (omega (arith, range.0, range.1))
    ∙ ap (λ d. d ∷ []) (omega (arith, range.0, range.1)) in
    decimal-read_on (0 * 10 + (c - 48)) (d ∷ cs) (omega (arith, range.0, range.1)) all.1 fits ∙ ap (λ ds. ds ++ (d ∷ cs)) first

number-found : (limit : ℕ) (bs : List ℕ) (n : ℕ) (spelled below : Bool) → is_spelled bs ≡ spelled → nat_lt (number_after 0 bs) limit ≡ below
    → (if spelled && below then Some (number_after 0 bs) else None) ≡ Some n → (is_spelled bs ≡ true) × (number_after 0 bs ≡ n) × (n < limit)
number-found limit bs n true true e f h = let same : number_after 0 bs ≡ n = cc in (e, same, grind (arith, nat_tests))
number-found limit bs n true false e f h = absurd (cc)
number-found limit bs n false below e f h = absurd (cc)

-- the text that a number was read from is its decimal text, and the number is below the limit
pub number_below-found : (limit : ℕ) (bs : List ℕ) (n : ℕ) → limit ≤ 10 ^ 64 → number_below limit bs ≡ Some n → (bs ≡ decimal n) × (n < limit)
number_below-found limit bs n wide h =
    let found = number-found limit bs n _ _ refl refl h in
    (sym (decimal-spelled bs found.0 (omega (arith, found.1, found.2))) ∙ ap decimal found.1, found.2)
