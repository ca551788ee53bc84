-- The first number in the order of a key that passes a test.
use Rattle.std.proofs.Common.{◌≡◌, ℕ, ◌<◌, Bool, true, false, List, [], ◌∷◌, ◌++◌, Some, None, refl, ap, ◌∙◌, subst}
use Rattle.std.specs.List.{find}
use Rattle.sched_model.specs.Priority.{stands_before, in_order}
use Rattle.sched_model.proofs.Orders.{IsOrdered, AreBelow, in_order-below, in_order-ordered, stands-in_order, first_ahead}

module _ (test : ℕ → Bool) (key : ℕ → ℕ) (n : ℕ) where
  find-here : (i : ℕ) (pre post : List ℕ) → AreBelow n (pre ++ i ∷ post) → IsOrdered key (pre ++ i ∷ post)
      → test i ≡ true → ((k : ℕ) → k < n → stands_before key k i ≡ true → test k ≡ false)
      → find test (pre ++ i ∷ post) ≡ Some i
  find-here i [] post b o found others = rw found refl
  find-here i (j ∷ pre) post b o found others =
      rw (others j b.0 (first_ahead key j i pre post o.0)) (find-here i pre post b.1 o.1 found others)

  find-none : (js : List ℕ) → AreBelow n js → ((k : ℕ) → k < n → test k ≡ false) → find test js ≡ None
  find-none [] b none = refl
  find-none (j ∷ js) b none = rw (none j b.0) (find-none js b.1 none)

  -- the search finds the number that passes if none before it does
  pub first-in_order : (i : ℕ) → i < n → test i ≡ true
      → ((k : ℕ) → k < n → stands_before key k i ≡ true → test k ≡ false) → find test (in_order key n) ≡ Some i
  first-in_order i lt found others =
      let at = stands-in_order key n i lt in
      let e : in_order key n ≡ at.0 ++ i ∷ at.1.0 = at.1.1 in
      ap (find test) e
      ∙ find-here i at.0 at.1.0 (subst (AreBelow n) e (in_order-below key n)) (subst (IsOrdered key) e (in_order-ordered key n)) found others

  -- the search finds none if no number passes
  pub none-in_order : ((k : ℕ) → k < n → test k ≡ false) → find test (in_order key n) ≡ None
  none-in_order none = find-none (in_order key n) (in_order-below key n) none
