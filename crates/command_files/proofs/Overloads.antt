-- The first task in RM order that fails the test.
use Rattle.std.proofs.Common.{◌≡◌, ℕ, ◌*◌, ◌<◌, Bool, true, false, List, [], ◌∷◌, ◌++◌, Some, None, refl, sym, ◌∙◌, ap, subst, true≢false, nat_lt, if◌then◌else◌}
use Rattle.std.specs.List.{find}
use Rattle.std.proofs.lemmas.Bool.{lt-ltb, le-ltb, ltb-true, ltb-false}
use Rattle.sched_model.specs.Plan.{Plan, count, period, top_speed}
use Rattle.sched_model.specs.Priority.{stands_before, in_order}
use Rattle.sched_model.specs.Tests.{level_work, IsRmFeasible}
use Rattle.sched_model.proofs.Orders.{before-self, before-not, IsAhead, IsOrdered, AreBelow, Stands, in_order-below, in_order-ordered, stands-in_order, first_ahead}
use Rattle.rm_admit.specs.Denials.{IsFirstOverloaded}
use Rattle.command_files.proofs.FirstInOrder.{first-in_order, none-in_order}
use Rattle.command_files.specs.Admissions.{first_overloaded}

-- whether a task fails the test under RM
abbrev is_overloaded : Plan → ℕ → Bool
is_overloaded p k = nat_lt (top_speed p * period p k) (level_work p k)

pub overloaded-first : (p : Plan) (i : ℕ) → IsFirstOverloaded p i → first_overloaded p ≡ Some i
overloaded-first p i h =
    first-in_order (λ k. nat_lt (top_speed p * period p k) (level_work p k)) (period p) (count p) i h.task
    (lt-ltb (top_speed p * period p i) (level_work p i) h.fails)
    (λ k lt before. le-ltb (top_speed p * period p k) (level_work p k) (h.first k lt before))

pub overloaded-none : (p : Plan) → IsRmFeasible p → first_overloaded p ≡ None
overloaded-none p h =
    none-in_order (λ k. nat_lt (top_speed p * period p k) (level_work p k)) (period p) (count p)
    (λ k lt. le-ltb (top_speed p * period p k) (level_work p k) (h k lt))

module _ (test : ℕ → Bool) where
  -- if a search finds nothing, nothing in the list passes
  found-none : (js : List ℕ) → find test js ≡ None → (k : ℕ) → Stands k js → test k ≡ false
  found-none [] e k (pre, (post, at)) = none-stands pre at
    where
      none-stands : (pre : List ℕ) → [] ≡ pre ++ k ∷ post → test k ≡ false
      none-stands [] at = absurd (cc)
      none-stands (j ∷ pre) at = absurd (cc)
  found-none (j ∷ js) e k (pre, (post, at)) = go (test j) refl e pre at (found-none js)
    where
      go : (b : Bool) → test j ≡ b → (if b then Some j else find test js) ≡ None → (pre : List ℕ)
          → j ∷ js ≡ pre ++ k ∷ post → (find test js ≡ None → (k : ℕ) → Stands k js → test k ≡ false) → test k ≡ false
      go true is e pre at later = absurd (cc)
      go false is e [] at later = let same : j ≡ k = cc in subst (λ (m : ℕ). test m ≡ false) same is
      go false is e (i ∷ pre) at later = let rest : js ≡ pre ++ k ∷ post = cc in later e k (pre, (post, rest))

  module _ (key : ℕ → ℕ) (n : ℕ) where
    -- the number that a search finds passes, and none before it in the order does
    abbrev IsFirstFound : List ℕ → ℕ → Type 0
    IsFirstFound js i =
        (i < n) × (test i ≡ true) × ((k : ℕ) → Stands k js → stands_before key k i ≡ true → test k ≡ false)

    found-first : (js : List ℕ) (i : ℕ) → AreBelow n js → IsOrdered key js → find test js ≡ Some i → IsFirstFound js i
    found-first [] i below ordered e = absurd (cc)
    found-first (j ∷ js) i below ordered e = go (test j) refl e (found-first js i below.1 ordered.1)
      where
        first-only : (k : ℕ) → j ≡ i → Stands k (j ∷ js) → stands_before key k i ≡ true → test k ≡ false
        first-only k same ([], (post, at)) before =
            let own : k ≡ i = cc in
            absurd (true≢false (sym before ∙ (ap (λ m. stands_before key m i) own ∙ before-self key i)))
        first-only k same (m ∷ pre, (post, at)) before =
            let rest : js ≡ pre ++ k ∷ post = cc in
            let ahead : IsAhead key j (pre ++ k ∷ post) = subst (IsAhead key j) rest ordered.0 in
            let after = before-not key j k (first_ahead key j k pre post ahead) in
            absurd (true≢false (sym before ∙ (ap (stands_before key k) (sym same) ∙ after)))

        later-only : test j ≡ false → IsFirstFound js i → (k : ℕ) → Stands k (j ∷ js) → stands_before key k i ≡ true
            → test k ≡ false
        later-only is rest k ([], (post, at)) before = let same : j ≡ k = cc in subst (λ (m : ℕ). test m ≡ false) same is
        later-only is rest k (m ∷ pre, (post, at)) before =
            let tail : js ≡ pre ++ k ∷ post = cc in rest.2 k (pre, (post, tail)) before

        go : (b : Bool) → test j ≡ b → (if b then Some j else find test js) ≡ Some i
            → (find test js ≡ Some i → IsFirstFound js i) → IsFirstFound (j ∷ js) i
        go true is e later =
            let same : j ≡ i = cc in
            (subst (λ (m : ℕ). m < n) same below.0, subst (λ (m : ℕ). test m ≡ true) same is, λ k at before. first-only k same at before)
        go false is e later = let rest = later e in (rest.0, rest.1, λ k at before. later-only is rest k at before)

pub first-overloaded : (p : Plan) (i : ℕ) → first_overloaded p ≡ Some i → IsFirstOverloaded p i
first-overloaded p i e =
    let found = found-first (is_overloaded p) (period p) (count p) (in_order (period p) (count p)) i
    (in_order-below (period p) (count p)) (in_order-ordered (period p) (count p)) e in
    record {
      task = found.0;
      fails = ltb-true (top_speed p * period p i) (level_work p i) found.1;
      first = λ k lt before. ltb-false (top_speed p * period p k) (level_work p k)
          (found.2 k (stands-in_order (period p) (count p) k lt) before);
    }

pub none-overloaded : (p : Plan) → first_overloaded p ≡ None → IsRmFeasible p
none-overloaded p e = λ i lt.
    ltb-false (top_speed p * period p i) (level_work p i)
    (found-none (is_overloaded p) (in_order (period p) (count p)) e i (stands-in_order (period p) (count p) i lt))
