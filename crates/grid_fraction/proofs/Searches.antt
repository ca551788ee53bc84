-- Searches among numbers.
use Rattle.std.proofs.Common.{◌≡◌, ℕ, zero, suc, ◌+◌, ◌<◌, ◌≤◌, Bool, true, false, ◌||◌, not, ◌⊎◌, inl, inr, refl, arith, ap, ap₂, ◌∙◌, sym, eq-or-lt_of_le, le_of_suc-le-suc, true≢false, nat_le}
use Rattle.std.proofs.lemmas.Bool.Decides.{nat_tests}
use Rattle.grid_fraction.specs.Numbers.{any_below, first_from, last_up_to, all_below}

-- what holds below m and at m holds below m + 1
pub below_suc : (P : ℕ → Type 0) (m : ℕ) → ((k : ℕ) → k < m → P k) → P m → (k : ℕ) → k < suc m → P k
below_suc P m h x k lt = grind (arith, nat_tests, eq-or-lt_of_le, le_of_suc-le-suc)

pub first_from-found : (n from m : ℕ) (test : ℕ → Bool) → from ≤ m → m < from + n → test m ≡ true
    → (test (first_from n from test) ≡ true) × (from ≤ first_from n from test)
first_from-found zero from m test low high found = absurd (omega arith)
first_from-found (suc n) from m test low high found = go (test from) refl (eq-or-lt_of_le low) (first_from-found n (suc from) m test)
  where
    go : (b : Bool) → test from ≡ b → (from ≡ m) ⊎ (from < m)
        → (suc from ≤ m → m < suc from + n → test m ≡ true → (test (first_from n (suc from) test) ≡ true) × (suc from ≤ first_from n (suc from) test))
        → (test (first_from (suc n) from test) ≡ true) × (from ≤ first_from (suc n) from test)
    go true e c ih = (rw (e, first_from) e, rw (e, first_from) (omega arith))
    go false e (inl c) ih = absurd (true≢false (sym found ∙ (ap test (sym c) ∙ e)))
    go false e (inr c) ih =
        let r : (test (first_from n (suc from) test) ≡ true) × (suc from ≤ first_from n (suc from) test) = ih c (omega arith) found in
        (rw (e, first_from) r.0, rw (e, first_from) (omega (arith, r.1)))

-- none of the numbers before the first one passes
pub first_from-before : (n from k : ℕ) (test : ℕ → Bool) → from ≤ k → k < first_from n from test → test k ≡ false
first_from-before zero from k test low lt = absurd (omega arith)
first_from-before (suc n) from k test low lt = go (test from) refl (eq-or-lt_of_le low) (first_from-before n (suc from) k test) lt
  where
    go : (b : Bool) → test from ≡ b → (from ≡ k) ⊎ (from < k)
        → (suc from ≤ k → k < first_from n (suc from) test → test k ≡ false)
        → k < elim b [ true ↦ from | false ↦ first_from n (suc from) test ] → test k ≡ false
    go true e c ih lt' = absurd (omega arith)
    go false e (inl c) ih lt' = ap test (sym c) ∙ e
    go false e (inr c) ih lt' = ih c lt'

pub any_below-none : (n : ℕ) (test : ℕ → Bool) → ((i : ℕ) → i < n → test i ≡ false) → any_below n test ≡ false
any_below-none zero test h = refl
any_below-none (suc n) test h = rw (any_below-none n test (λ i l. h i (omega arith)), h n (omega arith)) refl

pub any_below-false : (n : ℕ) (test : ℕ → Bool) → any_below n test ≡ false → (i : ℕ) → i < n → test i ≡ false
any_below-false zero test h = λ i lt. absurd (omega arith)
any_below-false (suc n) test h = grind (arith, nat_tests, below_suc, any_below-false n test)

-- the first number that passes is at most each one that passes
pub first_from-most : (n from m : ℕ) (test : ℕ → Bool) → from ≤ m → test m ≡ true → first_from n from test ≤ m
first_from-most n from m test low found = go (nat_le (first_from n from test) m) refl
  where
    go : (b : Bool) → nat_le (first_from n from test) m ≡ b → first_from n from test ≤ m
    go true e = grind (arith, nat_tests)
    go false e =
        let over : m < first_from n from test = grind (arith, nat_tests) in
        absurd (true≢false (sym found ∙ first_from-before n from m test low over))

pub any_below-same : (n : ℕ) (f g : ℕ → Bool) → ((k : ℕ) → k < n → f k ≡ g k) → any_below n f ≡ any_below n g
any_below-same zero f g h = refl
any_below-same (suc n) f g h = ap₂ (λ a b. a || b) (any_below-same n f g (λ k l. h k (omega arith))) (h n (omega arith))

pub any_below-found : (n : ℕ) (test : ℕ → Bool) (i : ℕ) → i < n → test i ≡ true → any_below n test ≡ true
any_below-found n test i h found = go (any_below n test) refl
  where
    go : (b : Bool) → any_below n test ≡ b → any_below n test ≡ true
    go true e = e
    go false e = absurd (true≢false (sym found ∙ any_below-false n test e i h))

-- a number that passes, with none before it that does, is the first from 0 on
pub first_from-is : (n i : ℕ) (test : ℕ → Bool) → i < n → ((k : ℕ) → k < i → test k ≡ false) → test i ≡ true → first_from n 0 test ≡ i
first_from-is n i test lt before here =
    let found : test (first_from n 0 test) ≡ true = (first_from-found n 0 i test (omega arith) (omega arith) here).0 in
    let not_above : i < first_from n 0 test → ⊥ = λ above. true≢false (sym here ∙ first_from-before n 0 i test (omega arith) above) in
    let not_below : first_from n 0 test < i → ⊥ = λ below. true≢false (sym found ∙ before (first_from n 0 test) below) in
    omega (arith, not_above, not_below)

pub first_from-none : (n from : ℕ) (test : ℕ → Bool) → ((k : ℕ) → from ≤ k → k < from + n → test k ≡ false) → first_from n from test ≡ from + n
first_from-none zero from test h = omega arith
first_from-none (suc n) from test h =
    let here : test from ≡ false = h from (omega arith) (omega arith) in
    let rest : first_from n (suc from) test ≡ suc from + n = first_from-none n (suc from) test (λ k low high. h k (omega arith) (omega arith)) in
    rw (here, first_from) (omega (arith, rest))

-- the last number up to t that passes is at most t
pub last_up_to-le : (t : ℕ) (test : ℕ → Bool) → last_up_to t test ≤ t
last_up_to-le zero test = omega arith
last_up_to-le (suc t) test = grind (arith, nat_tests, last_up_to-le t test)

pub last_up_to-greatest : (t r : ℕ) (test : ℕ → Bool) → r ≤ t → test r ≡ true → r ≤ last_up_to t test
last_up_to-greatest zero r test le e = le
last_up_to-greatest (suc t) r test le e = grind (arith, nat_tests, eq-or-lt_of_le, last_up_to-greatest t r test)

-- if any of the numbers below n passes, there is such a number
pub any-some : (n : ℕ) (test : ℕ → Bool) → any_below n test ≡ true → (i : ℕ) × (i < n) × (test i ≡ true)
any-some zero test e = absurd (true≢false (sym e))
any-some (suc n) test e = grind (arith, nat_tests, any-some n test)

-- if each number below n passes, all do
pub all-found : (n : ℕ) (test : ℕ → Bool) → ((k : ℕ) → k < n → test k ≡ true) → all_below n test ≡ true
all-found n test each = ap not (any_below-none n (λ k. not (test k)) (λ k lt. ap not (each k lt)))
