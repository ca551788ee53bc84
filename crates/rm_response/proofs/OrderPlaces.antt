-- The places of the numbers in the order of a key.
use Rattle.std.proofs.Common.{◌≡◌, ℕ, zero, suc, ◌<◌, true, nat_lt, List, [], ◌∷◌, ◌++◌, length, refl, sym, ap, ◌∙◌, subst, arith}
use Rattle.std.specs.Prelude.{slice_index}
use Rattle.std.proofs.lemmas.Bool.Decides.{nat_tests}
use Rattle.std.proofs.lemmas.List.{get_or_at, length-append}
use Rattle.sched_model.specs.Priority.{stands_before, in_order}
use Rattle.sched_model.proofs.Orders.{IsAhead, IsOrdered, AreBelow, below-at, in_order-below, in_order-ordered, stands-in_order, before-self, before-not}

ahead-at : (key : ℕ → ℕ) (i : ℕ) (js : List ℕ) (k : ℕ) → IsAhead key i js → k < length js
    → stands_before key i (slice_index js k) ≡ true
ahead-at key i [] k a h = absurd (omega arith)
ahead-at key i (j ∷ js) zero a h = a.0
ahead-at key i (j ∷ js) (suc k) a h = ahead-at key i js k a.1 (omega arith)

-- in an ordered list a number comes before another exactly if its place does
places-ordered : (key : ℕ → ℕ) (js : List ℕ) (m k : ℕ) → IsOrdered key js → m < length js → k < length js
    → stands_before key (slice_index js m) (slice_index js k) ≡ nat_lt m k
places-ordered key [] m k o g h = absurd (omega arith)
places-ordered key (i ∷ js) zero zero o g h = before-self key i
places-ordered key (i ∷ js) zero (suc k) o g h = ahead-at key i js k o.0 (omega arith) ∙ sym (grind (arith, nat_tests))
places-ordered key (i ∷ js) (suc m) zero o g h =
    before-not key i (slice_index js m) (ahead-at key i js m o.0 (omega arith)) ∙ sym (grind (arith, nat_tests))
places-ordered key (i ∷ js) (suc m) (suc k) o g h =
    places-ordered key js m k o.1 (omega arith) (omega arith) ∙ grind (arith, nat_tests)

module _ (key : ℕ → ℕ) (n : ℕ) (js : List ℕ) (is : js ≡ in_order key n) where
  pub at-below : (k : ℕ) → k < length js → slice_index js k < n
  at-below k h = below-at n js k (subst (AreBelow n) (sym is) (in_order-below key n)) h

  pub at-ordered : (m k : ℕ) → m < length js → k < length js
      → stands_before key (slice_index js m) (slice_index js k) ≡ nat_lt m k
  at-ordered m k g h = places-ordered key js m k (subst (IsOrdered key) (sym is) (in_order-ordered key n)) g h

  -- what holds at each place holds of each number
  pub at-all : (P : ℕ → Type 0) → ((m : ℕ) → m < length js → P (slice_index js m)) → (i : ℕ) → i < n → P i
  at-all P each i h =
      let there = stands-in_order key n i h in
      let m = length there.0 in
      let parts : js ≡ there.0 ++ i ∷ there.1.0 = is ∙ there.1.1 in
      let here : slice_index js m ≡ i = ap (λ (xs : List ℕ). slice_index xs m) parts ∙ get_or_at there.0 i there.1.0 0 m refl in
      subst P here (each m (omega (arith, ap length parts ∙ length-append there.0 (i ∷ there.1.0))))
