-- EDF order: the first task has the least key, and a task whose deadline grows is moved to its place, in a loop.
use Rattle.std.proofs.Common.{◌≡◌, ℕ, ◌<◌, ◌≤◌, List, [], ◌∷◌, ◌++◌, get_or, arith, sym, subst, ◌≢◌, ◌⊎◌, inl, inr, eq-or-lt_of_le, le_of_suc-le-suc, zero, suc, Bool, true, false, length, drop, refl, ap, ap₂, ◌∙◌, nat_eq, nat_lt, if◌then◌else◌, ◌+◌, take, append_assoc, get_or-set_same, length-set}
use Rattle.std.specs.Prelude.{◌||◌, ◌&&◌, slice_set}
use Rattle.std.proofs.lemmas.Bool.Decides.{nat_tests}
use Rattle.std.proofs.lemmas.List.{drop_more, append-nil, drop-set-lt, take-set, take_all, take_more, take_more_set}
use Rattle.std.proofs.Math.ListN.{drop_of_length-le}
use Rattle.grid_fraction.specs.Numbers.{least_below}
use Rattle.grid_fraction.proofs.Least.{least-above, least-below}
use Rattle.sched_model.specs.Priority.{in_order, stands_before, insert_by}
use Rattle.sched_model.proofs.Orders.{IsOrdered, below-at, first_ahead, in_order-below, in_order-ordered, length-in_order, stands-in_order, before-self, before-trans, before-not, before-total, IsAhead, AreBelow, in_order-same}
use Rattle.sched_model.proofs.PutOffWork.{key_rises}
use Rattle.look_ahead.specs.Counters.{stands_before_due}

first-least : (key : ℕ → ℕ) (j : ℕ) (pre post : List ℕ) → IsOrdered key (pre ++ j ∷ post)
    → key (get_or (pre ++ j ∷ post) 0 0) ≤ key j
first-least key j [] post o = omega arith
first-least key j (i ∷ pre) post o = key_rises key i j (first_ahead key i j pre post o.0)

pub first-in_order : (key : ℕ → ℕ) (n : ℕ) → 0 < n → key (get_or (in_order key n) 0 0) ≡ least_below n key
first-in_order key n some = omega (arith, low, high)
  where
    high : key (get_or (in_order key n) 0 0) ≤ least_below n key
    high = least-above n key (key (get_or (in_order key n) 0 0)) some (λ j lt.
        let at = stands-in_order key n j lt in
        let o : IsOrdered key (at.0 ++ j ∷ at.1.0) = subst (IsOrdered key) at.1.1 (in_order-ordered key n) in
        subst (λ (xs : List ℕ). key (get_or xs 0 0) ≤ key j) (sym at.1.1) (first-least key j at.0 at.1.0 o))

    low : least_below n key ≤ key (get_or (in_order key n) 0 0)
    low = least-below n key (get_or (in_order key n) 0 0)
        (below-at n (in_order key n) 0 (in_order-below key n) (rw length-in_order some))

-- a list with x in front, in which task i goes back after those that pass the test, up to the first that doesn't
abbrev pub moved_back : (ℕ → Bool) → ℕ → ℕ → List ℕ → List ℕ
moved_back test i x [] = x ∷ []
moved_back test i x (y ∷ ys) =
    if nat_eq x i && test y then y ∷ moved_back test i x ys else x ∷ moved_back test i y ys

-- a list in which task i is inserted again, among those after it
abbrev reinserted : (ℕ → ℕ) → ℕ → List ℕ → List ℕ
reinserted key i [] = []
reinserted key i (x ∷ xs) = if nat_eq x i then insert_by key i xs else x ∷ reinserted key i xs

-- two insertions give the same list in either order
module _ (key : ℕ → ℕ) (i j : ℕ) (apart : i ≢ j) where
  insert-two : (x : ℕ) (xs : List ℕ) → insert_by key i (insert_by key j xs) ≡ insert_by key j (insert_by key i xs)
      → insert_by key i (insert_by key j (x ∷ xs)) ≡ insert_by key j (insert_by key i (x ∷ xs))
  insert-two x xs ih = grind (arith, nat_tests, before-not, before-total)

  insert-swap : (xs : List ℕ) → insert_by key i (insert_by key j xs) ≡ insert_by key j (insert_by key i xs)
  insert-swap [] = grind (arith, nat_tests, before-not, before-total)
  insert-swap (x ∷ xs) = insert-two x xs (insert-swap xs)

-- each number of the list is another one than i
abbrev AreOthers : ℕ → List ℕ → Type 0
AreOthers i [] = Unit {0}
AreOthers i (x ∷ xs) = (x ≢ i) × AreOthers i xs

others-below : (i : ℕ) (xs : List ℕ) → AreBelow i xs → AreOthers i xs
others-below i [] b = tt
others-below i (x ∷ xs) b = let lt = b.0 in ((λ e. omega arith), others-below i xs b.1)

others-ahead : (key : ℕ → ℕ) (i : ℕ) (xs : List ℕ) → IsAhead key i xs → AreOthers i xs
others-ahead key i [] a = tt
others-ahead key i (x ∷ xs) a = grind (arith, before-self key i, others-ahead key i xs a.1)

not-eq : (x i : ℕ) → x ≢ i → nat_eq x i ≡ false
not-eq x i ne = grind (arith, nat_tests)

-- the key of task i grows, and no other changes
module _ (key key' : ℕ → ℕ) (i : ℕ) (same : (j : ℕ) → j ≢ i → key' j ≡ key j) (later : key i ≤ key' i) where
  -- two other tasks keep their order
  before-others : (j k : ℕ) → j ≢ i → k ≢ i → stands_before key' j k ≡ stands_before key j k
  before-others j k nj nk = ap₂ (λ (x y : ℕ). nat_lt x y || (nat_eq x y && nat_lt j k)) (same j nj) (same k nk)

  -- a task that wasn't after task i still isn't
  before-later : (j : ℕ) → j ≢ i → stands_before key i j ≡ false → stands_before key' i j ≡ false
  before-later j ne h = let e = same j ne in grind (arith, nat_tests)

  -- a task that came before task i, inserted into the tasks after task i, comes first
  insert-front : (n : ℕ) → n ≢ i → stands_before key n i ≡ true → (xs : List ℕ) → IsAhead key i xs
      → insert_by key' n xs ≡ n ∷ xs
  insert-front n ne h [] a = refl
  insert-front n ne h (y ∷ ys) a = grind (arith, nat_tests, before-others, others-ahead, before-trans)

  insert-others : (n : ℕ) → n ≢ i → (xs : List ℕ) → AreOthers i xs → insert_by key n xs ≡ insert_by key' n xs
  insert-others n ne [] o = refl
  insert-others n ne (y ∷ ys) o = grind (arith, nat_tests, before-others, insert-others n ne ys o.1)

  -- task i, inserted by the old key and then inserted again, is where the new key puts it
  reinserted-own : (xs : List ℕ) → AreOthers i xs → reinserted key' i (insert_by key i xs) ≡ insert_by key' i xs
  reinserted-own [] o = let self : nat_eq i i ≡ true = grind (arith, nat_tests) in rw self refl
  reinserted-own (x ∷ xs) o = grind (arith, not-eq x i o.0, before-later, reinserted-own xs o.1)

  -- another task can be inserted before task i is inserted again, or after it
  reinserted-other : (n : ℕ) → n ≢ i → (xs : List ℕ) → IsOrdered key xs
      → reinserted key' i (insert_by key n xs) ≡ insert_by key' n (reinserted key' i xs)
  reinserted-other n ne [] o = rw (not-eq n i ne) refl
  reinserted-other n ne (x ∷ xs) o = go (nat_eq x i) (stands_before key n x) refl refl (reinserted-other n ne xs o.1)
    where
      own : (c : Bool) → stands_before key n i ≡ c → IsAhead key i xs
          → reinserted key' i (if c then n ∷ i ∷ xs else i ∷ insert_by key n xs)
          ≡ insert_by key' n (insert_by key' i xs)
      own true p a =
          let self : nat_eq i i ≡ true = grind (arith, nat_tests) in
          let late : stands_before key' i n ≡ false = before-later n ne (before-not key n i p) in
          let swapped : insert_by key' n (insert_by key' i xs) ≡ insert_by key' i (n ∷ xs) =
          insert-swap key' n i ne xs ∙ ap (insert_by key' i) (insert-front n ne p xs a) in
          rw (not-eq n i ne, self) (sym (swapped ∙ rw late refl))
      own false p a =
          let self : nat_eq i i ≡ true = grind (arith, nat_tests) in
          let other = insert-others n ne xs (others-ahead key i xs a) in
          rw self (ap (insert_by key' i) other ∙ sym (insert-swap key' n i ne xs))

      go : (b c : Bool) → nat_eq x i ≡ b → stands_before key n x ≡ c
          → reinserted key' i (insert_by key n xs) ≡ insert_by key' n (reinserted key' i xs)
          → reinserted key' i (if c then n ∷ x ∷ xs else x ∷ insert_by key n xs)
          ≡ insert_by key' n (if b then insert_by key' i xs else x ∷ reinserted key' i xs)
      go true c p q ih =
          let e : i ≡ x = grind (arith, nat_tests) in
          let a : IsAhead key i xs = subst (λ (j : ℕ). IsAhead key j xs) (sym e) o.0 in
          let first : stands_before key n i ≡ c = ap (stands_before key n) e ∙ q in
          let inserted : ℕ → List ℕ = λ j. if c then n ∷ j ∷ xs else j ∷ insert_by key n xs in
          ap (λ (j : ℕ). reinserted key' i (inserted j)) (sym e) ∙ own c first a
      go false true p q ih =
          let other : x ≢ i = grind (arith, nat_tests) in
          let first : stands_before key' n x ≡ true = before-others n x ne other ∙ q in
          rw (not-eq n i ne, p, first) refl
      go false false p q ih =
          let other : x ≢ i = grind (arith, nat_tests) in
          let first : stands_before key' n x ≡ false = before-others n x ne other ∙ q in
          rw (p, first) (ap (λ (ys : List ℕ). x ∷ ys) ih)

  reinserted-in_order : (n : ℕ) → i < n → reinserted key' i (in_order key n) ≡ in_order key' n
  unfolding in_order
  reinserted-in_order zero lt = absurd (omega arith)
  reinserted-in_order (suc n) lt = go (eq-or-lt_of_le (le_of_suc-le-suc lt)) (reinserted-in_order n)
    where
      go : (i ≡ n) ⊎ (i < n) → (i < n → reinserted key' i (in_order key n) ≡ in_order key' n)
          → reinserted key' i (insert_by key n (in_order key n)) ≡ insert_by key' n (in_order key' n)
      go (inl e) ih =
          let rest : in_order key i ≡ in_order key' i =
          in_order-same key key' i (λ k l. sym (same k (λ q. omega arith))) in
          let others = others-below i (in_order key i) (in_order-below key i) in
          subst (λ (m : ℕ). reinserted key' i (insert_by key m (in_order key m)) ≡ insert_by key' m (in_order key' m)) e
          (reinserted-own (in_order key i) others ∙ ap (insert_by key' i) rest)
      go (inr l) ih =
          reinserted-other n (λ q. omega arith) (in_order key n) (in_order-ordered key n) ∙ ap (insert_by key' n) (ih l)

  -- if task i isn't in the list, nothing moves
  moved_back-none : (x : ℕ) (xs : List ℕ) → x ≢ i → AreOthers i xs
      → moved_back (stands_before_due key i (key' i)) i x xs ≡ x ∷ xs
  moved_back-none x [] ne o = refl
  moved_back-none x (y ∷ ys) ne o = rw (not-eq x i ne) (ap (λ (zs : List ℕ). x ∷ zs) (moved_back-none y ys o.0 o.1))

  test-is : (j : ℕ) → j ≢ i → stands_before_due key i (key' i) j ≡ stands_before key' j i
  test-is j ne = ap (λ (x : ℕ). nat_lt x (key' i) || (nat_eq x (key' i) && nat_lt j i)) (sym (same j ne))

  -- task i, at the front, goes to its place among the tasks after it
  moved_back-own : (xs : List ℕ) → AreOthers i xs
      → moved_back (stands_before_due key i (key' i)) i i xs ≡ insert_by key' i xs
  moved_back-own [] o = refl
  moved_back-own (y ∷ ys) o = grind (arith, nat_tests, test-is, before-not, before-total, moved_back-none, moved_back-own ys o.1)

  moved_back-is : (x : ℕ) (xs : List ℕ) → IsOrdered key (x ∷ xs)
      → moved_back (stands_before_due key i (key' i)) i x xs ≡ reinserted key' i (x ∷ xs)
  moved_back-is x [] o = grind (arith, nat_tests)
  moved_back-is x (y ∷ ys) o = go (nat_eq x i) refl (moved_back-is y ys o.1)
    where
      go : (b : Bool) → nat_eq x i ≡ b
          → moved_back (stands_before_due key i (key' i)) i y ys ≡ reinserted key' i (y ∷ ys)
          → moved_back (stands_before_due key i (key' i)) i x (y ∷ ys) ≡ reinserted key' i (x ∷ y ∷ ys)
      go true p ih =
          let e : i ≡ x = grind (arith, nat_tests) in
          let self : nat_eq i i ≡ true = grind (arith, nat_tests) in
          let a : IsAhead key i (y ∷ ys) = subst (λ (j : ℕ). IsAhead key j (y ∷ ys)) (sym e) o.0 in
          let own : reinserted key' i (i ∷ y ∷ ys) ≡ insert_by key' i (y ∷ ys) = rw self refl in
          let test = stands_before_due key i (key' i) in
          subst (λ (m : ℕ). moved_back test i m (y ∷ ys) ≡ reinserted key' i (m ∷ y ∷ ys)) e
          (moved_back-own (y ∷ ys) (others-ahead key i (y ∷ ys) a) ∙ sym own)
      go false p ih = rw p (ap (λ (zs : List ℕ). x ∷ zs) ih)

  -- task i goes to its place among all tasks
  pub moved_back-in_order : (n : ℕ) (old : List ℕ) → i < n → old ≡ in_order key n
      → moved_back (stands_before_due key i (key' i)) i (get_or old 0 0) (drop 1 old) ≡ in_order key' n
  moved_back-in_order n old lt e = grind (arith, length-in_order key n, drop_more, in_order-ordered key n, moved_back-is, reinserted-in_order n lt)

-- the first k numbers are in place, and the one that may go back is next
pub record IsInPlace (test : ℕ → Bool) (i : ℕ) (old order : List ℕ) (k : ℕ) : Type 0 where
  pub long : length order ≡ length old
  pub made : moved_back test i (get_or old 0 0) (drop 1 old)
      ≡ take k order ++ moved_back test i (get_or order k 0) (drop (k + 1) order)

module _ (test : ℕ → Bool) (i : ℕ) (old order : List ℕ) (k : ℕ)
    (lt : k + 1 < length order) (was : IsInPlace test i old order k) where
  abbrev here : ℕ
  here = get_or order k 0

  abbrev next : ℕ
  next = get_or order (k + 1) 0

  abbrev rest : List ℕ
  rest = drop (k + 1 + 1) order

  next_is : moved_back test i (get_or old 0 0) (drop 1 old) ≡ take k order ++ moved_back test i here (next ∷ rest)
  next_is = was.made ∙ ap (λ (ds : List ℕ). take k order ++ moved_back test i here ds) (drop_more order (k + 1) 0 lt)

  pub passing_stays : (nat_eq here i && test next) ≡ false → IsInPlace test i old order (k + 1)
  passing_stays stays =
      grind (arith, next_is, append_assoc (take k order) (here ∷ []) (moved_back test i next rest), take_more order k 0 (omega arith))

  pub passing_moves : here ≡ i → test next ≡ true
      → IsInPlace test i old (slice_set (slice_set order k next) (k + 1) i) (k + 1)
  passing_moves own moves = grind (arith, nat_tests, length-set, take-set, take_more_set, get_or-set_same, drop-set-lt, next_is, append_assoc)

-- a number other than i doesn't go back
pub stays_other : (x i : ℕ) (b : Bool) → x ≢ i → (nat_eq x i && b) ≡ false
stays_other x i b ne = let other : nat_eq x i ≡ false = grind (arith, nat_tests) in rw other refl

-- a vector whose whole slice was lent and written has the written items
pub written_back : (len : ℕ) (old new : List ℕ) → len ≡ length old → length new ≡ length old
    → take len (new ++ drop (length new) old) ≡ new
written_back len old new long same = grind (arith, nat_tests, drop_of_length-le, append-nil, take_all)

-- when the loop reaches the last place, all numbers are in place
pub passing_end : (test : ℕ → Bool) (i : ℕ) (old order : List ℕ) (k : ℕ) → k + 1 ≡ length order
    → IsInPlace test i old order k → order ≡ moved_back test i (get_or old 0 0) (drop 1 old)
passing_end test i old order k last was = grind (arith, nat_tests, drop_of_length-le, take_more, take_all)
