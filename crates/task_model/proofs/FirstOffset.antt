-- The first task with an offset, as it is found in file order.
use Rattle.std.proofs.Common.{◌≡◌, ◌⊎◌, inl, inr, ℕ, zero, suc, ◌<◌, ◌≤◌, ◌==◌, not, Bool, true, false, [], ◌∷◌, Some, None, refl, arith, ◌∙◌, subst}
use Rattle.std.specs.Option.{option_or}
use Rattle.std.specs.List.{find}
use Rattle.std.proofs.lemmas.List.Folds.{find-append}
use Rattle.std.proofs.lemmas.Bool.{cases_lt}
use Rattle.std.proofs.lemmas.Bool.Decides.{nat_tests}
use Rattle.grid_fraction.specs.Numbers.{list_below}
use Rattle.task_model.specs.Tasks.{NoneOffset, IsFirstOffset, first_offset}

module _ (test : ℕ → Bool) where
  find-none : (n : ℕ) → ((k : ℕ) → k < n → test k ≡ false) → find test (list_below n (λ i. i)) ≡ None
  find-none zero h = refl
  find-none (suc n) h =
      find-append test (list_below n (λ i. i)) _
      ∙ rw (find-none n (λ k lt. h k (omega (arith, lt))), h n (omega arith)) refl

  find-first : (n i : ℕ) → i < n → test i ≡ true → ((k : ℕ) → k < i → test k ≡ false)
      → find test (list_below n (λ i. i)) ≡ Some i
  find-first zero i lt found before = absurd (omega (arith, lt))
  find-first (suc n) i lt found before =
      find-append test (list_below n (λ i. i)) _ ∙ go (cases_lt i n) (λ less. find-first n i less found before)
    where
      go : (i < n) ⊎ (n ≤ i) → (i < n → find test (list_below n (λ i. i)) ≡ Some i)
          → option_or (find test (list_below n (λ i. i))) (find test (n ∷ [])) ≡ Some i
      go (inl less) earlier = rw (earlier less) refl
      go (inr most) earlier =
          let same : i ≡ n = omega (arith, lt, most) in
          subst (λ (m : ℕ). option_or (find test (list_below m (λ i. i))) (find test (m ∷ [])) ≡ Some i) same
          (rw (find-none i before, found) refl)

pub none-found : (offset : ℕ → ℕ) (n : ℕ) → NoneOffset offset n → first_offset offset n ≡ None
none-found offset n none = find-none (λ i. not (offset i == 0)) n (λ k lt. let zero_at = none k lt in grind (arith, nat_tests))

pub first-found : (offset : ℕ → ℕ) (n i : ℕ) → IsFirstOffset offset n i → first_offset offset n ≡ Some i
first-found offset n i first =
    find-first (λ i. not (offset i == 0)) n i first.task
    (let some = first.later in grind (arith, nat_tests))
    (λ k lt. let zero_at = first.first k lt in grind (arith, nat_tests))
