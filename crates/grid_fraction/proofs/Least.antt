-- The least of finitely many values.
use Rattle.std.proofs.lemmas.Bool.Decides.{nat_tests}
use Rattle.std.proofs.Common.{◌≡◌, ◌⊎◌, inl, inr, ℕ, zero, suc, ◌+◌, ◌<◌, ◌≤◌, min, refl, arith, ap, ap₂, eq-or-lt_of_le, le_of_suc-le-suc}
use Rattle.std.proofs.lemmas.Bool.{cases_lt}
use Rattle.grid_fraction.specs.Numbers.{least_below}

pub least-below : (n : ℕ) (f : ℕ → ℕ) (i : ℕ) → i < n → least_below n f ≤ f i
least-below zero f i h = absurd (omega arith)
least-below (suc zero) f i h = let e : i ≡ 0 = omega arith in omega (arith, ap f e)
least-below (suc (suc n)) f i h = go (eq-or-lt_of_le (le_of_suc-le-suc h)) (least-below (suc n) f i)
  where
    go : (i ≡ suc n) ⊎ (i < suc n) → (i < suc n → least_below (suc n) f ≤ f i) → min (least_below (suc n) f) (f (suc n)) ≤ f i
    go (inl e) ih = omega (arith, ap f e)
    go (inr l) ih = omega (arith, ih l)

pub least-above : (n : ℕ) (f : ℕ → ℕ) (t : ℕ) → 0 < n → ((i : ℕ) → i < n → t ≤ f i) → t ≤ least_below n f
least-above zero f t some h = absurd (omega arith)
least-above (suc zero) f t some h = h 0 (omega arith)
least-above (suc (suc n)) f t some h =
    omega (arith, least-above (suc n) f t (omega arith) (λ i l. h i (omega arith)), h (suc n) (omega arith))

-- the least value of f is that of some number below n
pub least-found : (n : ℕ) (f : ℕ → ℕ) → 0 < n → (i : ℕ) × (i < n) × (f i ≡ least_below n f)
least-found zero f some = absurd (omega arith)
least-found (suc zero) f some = (0, omega arith, refl)
least-found (suc (suc n)) f some =
    let r = least-found (suc n) f (omega arith) in
    elim (cases_lt (f (suc n)) (least_below (suc n) f)) [
      | inl less ↦ (suc n, omega arith, omega arith)
      | inr most ↦ (r.0, omega (arith, r.1), omega (arith, r.2))
    ]

pub least-same : (n : ℕ) (f g : ℕ → ℕ) → ((i : ℕ) → i < n → f i ≡ g i) → least_below n f ≡ least_below n g
least-same zero f g h = refl
least-same (suc zero) f g h = h 0 (omega arith)
least-same (suc (suc n)) f g h =
    ap₂ min (least-same (suc n) f g (λ i l. h i (omega arith))) (h (suc n) (omega arith))

pub least-more : (n : ℕ) (f : ℕ → ℕ) → 1 ≤ n → least_below (n + 1) f ≡ min (least_below n f) (f n)
least-more zero f some = absurd (omega arith)
least-more (suc n) f some = grind (arith, nat_tests)
