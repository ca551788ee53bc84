-- Sums over the numbers below n, and lists of the values at them.
use Rattle.std.proofs.Common.{◌≡◌, ◌≢◌, ℕ, zero, suc, ◌+◌, ◌<◌, ◌≤◌, Bool, true, false, eqb, ◌⊎◌, inl, inr, refl, arith, if◌then◌else◌, ◌∙◌, add-one, eq-or-lt_of_le, le_of_suc-le-suc, ◌*◌, [], ◌∷◌, ◌++◌}
use Rattle.std.proofs.lemmas.Bool.Decides.{nat_tests}
use Rattle.grid_fraction.specs.Numbers.{sum_below, sum_where, list_below}

pub sum_below-same : (n : ℕ) (f g : ℕ → ℕ) → ((k : ℕ) → k < n → f k ≡ g k) → sum_below n f ≡ sum_below n g
sum_below-same zero f g h = refl
sum_below-same (suc n) f g h = grind (arith, nat_tests, sum_below-same n f g)

pub sum_below-add : (n : ℕ) (f g : ℕ → ℕ) → sum_below n (λ k. f k + g k) ≡ sum_below n f + sum_below n g
sum_below-add zero f g = refl
sum_below-add (suc n) f g = omega (arith, sum_below-add n f g)

-- a sum of n terms that are at most `most` is at most n * most
pub sum_below-limit : (n most : ℕ) (f : ℕ → ℕ) → ((k : ℕ) → k < n → f k ≤ most) → sum_below n f ≤ n * most
sum_below-limit zero most f h = omega arith
sum_below-limit (suc n) most f h = grind (arith, nat_tests, sum_below-limit n most f)

-- a sum of n terms that are at least `least` is at least n * least
pub sum_below-least : (n least : ℕ) (f : ℕ → ℕ) → ((k : ℕ) → k < n → least ≤ f k) → n * least ≤ sum_below n f
sum_below-least zero least f h = omega arith
sum_below-least (suc n) least f h = grind (arith, nat_tests, sum_below-least n least f)

pub sum_below-le : (n : ℕ) (f g : ℕ → ℕ) → ((k : ℕ) → k < n → f k ≤ g k) → sum_below n f ≤ sum_below n g
sum_below-le zero f g h = omega arith
sum_below-le (suc n) f g h = omega (arith, sum_below-le n f g (λ k lt. h k (omega arith)), h n (omega arith))

pub sum_below-zero : (n : ℕ) (f : ℕ → ℕ) → ((k : ℕ) → k < n → f k ≡ 0) → sum_below n f ≡ 0
sum_below-zero zero f h = refl
sum_below-zero (suc n) f h = omega (arith, sum_below-zero n f (λ k lt. h k (omega arith)), h n (omega arith))

-- a sum above 0 has a term above 0
pub sum_below-some : (n : ℕ) (f : ℕ → ℕ) → 0 < sum_below n f → (k : ℕ) × (k < n) × (0 < f k)
sum_below-some zero f pos = absurd (omega arith)
sum_below-some (suc n) f pos = grind (arith, sum_below-some n f)

-- a sum whose terms other than that of j are 0 is the term of j
pub sum_below-one : (n j : ℕ) (f : ℕ → ℕ) → j < n → ((k : ℕ) → k < n → k ≢ j → f k ≡ 0) → sum_below n f ≡ f j
sum_below-one zero j f lt h = absurd (omega arith)
sum_below-one (suc n) j f lt h = grind (arith, nat_tests, sum_below-zero, sum_below-one n j f)

-- two sums that differ only in the term of i differ by that term
pub sum_below-change : (n : ℕ) (f g : ℕ → ℕ) (i : ℕ) → i < n → ((k : ℕ) → k < n → k ≢ i → g k ≡ f k) → sum_below n g + f i ≡ sum_below n f + g i
sum_below-change zero f g i lt same = absurd (omega arith)
sum_below-change (suc n) f g i lt same = grind (arith, nat_tests, eq-or-lt_of_le, le_of_suc-le-suc, sum_below-same, sum_below-change n f g i)

-- a sum with f at i and 0 elsewhere is f i
pub sum_below-own : (n i : ℕ) (f : ℕ → ℕ) → i < n → sum_below n (λ k. if eqb k i then f k else 0) ≡ f i
sum_below-own n i f lt = sum_below-one n i (λ k. if eqb k i then f k else 0) lt (λ k l ne. off k ne (eqb k i) refl) ∙ on (eqb i i) refl
  where
    off : (k : ℕ) → k ≢ i → (b : Bool) → eqb k i ≡ b → (if b then f k else 0) ≡ 0
    off k ne true e = absurd (ne (grind (arith, nat_tests)))
    off k ne false e = refl

    on : (b : Bool) → eqb i i ≡ b → (if b then f i else 0) ≡ f i
    on true e = refl
    on false e = absurd (grind (arith, nat_tests))

pub sum_below-up : (m n : ℕ) (f : ℕ → ℕ) → m ≤ n → sum_below m f ≤ sum_below n f
sum_below-up m zero f h = let e : m ≡ 0 = omega arith in rw e (omega arith)
sum_below-up m (suc n) f h = go (eq-or-lt_of_le h) (sum_below-up m n f)
  where
    go : (m ≡ suc n) ⊎ (m < suc n) → (m ≤ n → sum_below m f ≤ sum_below n f) → sum_below m f ≤ sum_below n f + f n
    go (inl e) ih = rw e (omega arith)
    go (inr l) ih = omega (arith, ih (omega arith))

pub if-le : (b : Bool) (x : ℕ) → (if b then x else 0) ≤ x
if-le true x = omega arith
if-le false x = omega arith

pub sum_where-le : (n : ℕ) (test : ℕ → Bool) (f : ℕ → ℕ) → sum_where n test f ≤ sum_below n f
sum_where-le n test f = sum_below-le n (λ k. if test k then f k else 0) f (λ k lt. if-le (test k) (f k))

pub sum_where-same : (n : ℕ) (test : ℕ → Bool) (f g : ℕ → ℕ) → ((k : ℕ) → k < n → f k ≡ g k) → sum_where n test f ≡ sum_where n test g
sum_where-same n test f g h = grind (arith, nat_tests, sum_below-same)

-- the sum over the numbers that pass, and the term of one that doesn't, are at most the whole sum
pub sum_where-other : (n : ℕ) (test : ℕ → Bool) (f : ℕ → ℕ) (i : ℕ) → i < n → test i ≡ false → sum_where n test f + f i ≤ sum_below n f
sum_where-other zero test f i lt h = absurd (omega arith)
sum_where-other (suc n) test f i lt h = grind (arith, nat_tests, eq-or-lt_of_le, if-le, le_of_suc-le-suc, sum_where-le, sum_where-other n test f i)

pub list_below-more : {A : Type 0} (n : ℕ) (f : ℕ → A) → list_below (n + 1) f ≡ list_below n f ++ f n ∷ []
list_below-more n f = rw add-one refl
