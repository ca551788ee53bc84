-- The order of the tasks: it is strict and total; the list of the tasks in it, and sums over the tasks before one of them.
use Rattle.std.proofs.Common.{◌≡◌, ◌≢◌, ℕ, ◌+◌, Bool, true, false, eqb, ◌||◌, refl, arith, if◌then◌else◌, eq-or-lt_of_le, le_of_suc-le-suc, zero, suc, ◌<◌, List, [], ◌∷◌, ◌++◌, length, get_or, ap, ap₂, ◌∙◌, nat_eq, nat_lt}
use Rattle.std.proofs.lemmas.Bool.Decides.{nat_tests}
use Rattle.std.specs.Prelude.{◌&&◌}
use Rattle.std.specs.List.{AllByRecursion}
use Rattle.std.proofs.lemmas.List.Elements.{All-from_recursion}
use Rattle.grid_fraction.specs.Numbers.{sum_below}
use Rattle.grid_fraction.proofs.Sums.{sum_below-same}
use Rattle.sched_model.specs.Priority.{stands_before, sum_before, insert_by, in_order}

pub before-self : (key : ℕ → ℕ) (i : ℕ) → stands_before key i i ≡ false
before-self key i = grind (arith, nat_tests)

pub before-trans : (key : ℕ → ℕ) (k j i : ℕ) → stands_before key k j ≡ true → stands_before key j i ≡ true → stands_before key k i ≡ true
before-trans key k j i h g = grind (arith, nat_tests)

pub before-not : (key : ℕ → ℕ) (j i : ℕ) → stands_before key j i ≡ true → stands_before key i j ≡ false
before-not key j i h = grind (arith, nat_tests)

pub before-total : (key : ℕ → ℕ) (j i : ℕ) → j ≢ i → stands_before key j i ≡ false → stands_before key i j ≡ true
before-total key j i ne h = grind (arith, nat_tests)

pub split_if : (a b c : Bool) (x : ℕ) → a ≡ (b || c) → (c ≡ true → b ≡ false)
    → (if a then x else 0) ≡ (if b then x else 0) + (if c then x else 0)
split_if a b c x e h = grind (arith, nat_tests)

pub same_not_before : (key : ℕ → ℕ) (k j : ℕ) → eqb k j ≡ true → stands_before key k j ≡ false
same_not_before key k j e = grind (arith, nat_tests)

abbrev pub sum_list : (ℕ → ℕ) → List ℕ → ℕ
sum_list f [] = 0
sum_list f (i ∷ is) = f i + sum_list f is

-- i comes before each number of the list
abbrev pub IsAhead : (ℕ → ℕ) → ℕ → List ℕ → Type 0
IsAhead key i [] = Unit {0}
IsAhead key i (j ∷ js) = (stands_before key i j ≡ true) × IsAhead key i js

abbrev pub IsOrdered : (ℕ → ℕ) → List ℕ → Type 0
IsOrdered key [] = Unit {0}
IsOrdered key (i ∷ js) = IsAhead key i js × IsOrdered key js

abbrev pub AreBelow : ℕ → List ℕ → Type 0
AreBelow n = AllByRecursion (λ j. j < n)

pub sum_list-append : (f : ℕ → ℕ) (xs ys : List ℕ) → sum_list f (xs ++ ys) ≡ sum_list f xs + sum_list f ys
sum_list-append f [] ys = omega arith
sum_list-append f (x ∷ xs) ys = omega (arith, sum_list-append f xs ys)

pub sum_list-snoc : (f : ℕ → ℕ) (xs : List ℕ) (i : ℕ) → sum_list f (xs ++ i ∷ []) ≡ sum_list f xs + f i
sum_list-snoc f xs i = omega (arith, sum_list-append f xs (i ∷ []))

sum_list-insert : (f key : ℕ → ℕ) (i : ℕ) (js : List ℕ) → sum_list f (insert_by key i js) ≡ sum_list f js + f i
sum_list-insert f key i [] = omega arith
sum_list-insert f key i (j ∷ js) = grind (arith, nat_tests, sum_list-insert f key i js)

pub sum_list-in_order : (f key : ℕ → ℕ) (n : ℕ) → sum_list f (in_order key n) ≡ sum_below n f
unfolding in_order
sum_list-in_order f key zero = refl
sum_list-in_order f key (suc n) = sum_list-insert f key n (in_order key n) ∙ ap (λ a. a + f n) (sum_list-in_order f key n)

ahead-trans : (key : ℕ → ℕ) (i j : ℕ) (js : List ℕ) → stands_before key i j ≡ true → IsAhead key j js → IsAhead key i js
ahead-trans key i j [] h a = tt
ahead-trans key i j (k ∷ ks) h a = (before-trans key i j k h a.0, ahead-trans key i j ks h a.1)

ahead-insert : (key : ℕ → ℕ) (i j : ℕ) (js : List ℕ) → stands_before key j i ≡ true → IsAhead key j js → IsAhead key j (insert_by key i js)
ahead-insert key i j [] h a = (h, tt)
ahead-insert key i j (k ∷ ks) h a = grind (arith, nat_tests, ahead-insert key i j ks h a.1)

ordered-insert : (key : ℕ → ℕ) (i : ℕ) (js : List ℕ) → AreBelow i js → IsOrdered key js → IsOrdered key (insert_by key i js)
ordered-insert key i [] b o = (tt, tt)
ordered-insert key i (j ∷ js) b o = grind (arith, nat_tests, ahead-trans, ahead-insert, before-total, ordered-insert key i js b.1 o.1)

below-insert : (key : ℕ → ℕ) (n i : ℕ) (js : List ℕ) → i < n → AreBelow n js → AreBelow n (insert_by key i js)
below-insert key n i [] lt b = (lt, tt)
below-insert key n i (j ∷ js) lt b = grind (arith, nat_tests, below-insert key n i js lt b.1)

below-more : (n : ℕ) (js : List ℕ) → AreBelow n js → AreBelow (suc n) js
below-more n [] b = tt
below-more n (j ∷ js) b = (omega (arith, b.0), below-more n js b.1)

pub below-from : (n : ℕ) (pre post : List ℕ) → AreBelow n (pre ++ post) → AreBelow n post
below-from n [] post b = b
below-from n (j ∷ pre) post b = below-from n pre post b.1

pub below-at : (n : ℕ) (js : List ℕ) (k : ℕ) → AreBelow n js → k < length js → get_or js k 0 < n
below-at n js k b lt = All-from_recursion (λ j. j < n) js b k 0 lt

pub in_order-below : (key : ℕ → ℕ) (n : ℕ) → AreBelow n (in_order key n)
unfolding in_order
in_order-below key zero = tt
in_order-below key (suc n) = below-insert key (suc n) n (in_order key n) (omega arith) (below-more n (in_order key n) (in_order-below key n))

pub in_order-ordered : (key : ℕ → ℕ) (n : ℕ) → IsOrdered key (in_order key n)
unfolding in_order
in_order-ordered key zero = tt
in_order-ordered key (suc n) = ordered-insert key n (in_order key n) (in_order-below key n) (in_order-ordered key n)

pub first_ahead : (key : ℕ → ℕ) (j i : ℕ) (pre post : List ℕ) → IsAhead key j (pre ++ i ∷ post) → stands_before key j i ≡ true
first_ahead key j i [] post a = a.0
first_ahead key j i (k ∷ pre) post a = first_ahead key j i pre post a.1

-- in an ordered list, the sum over the numbers that come before i is the sum over the part before i
none_after : (key f : ℕ → ℕ) (i : ℕ) (js : List ℕ) → IsAhead key i js → sum_list (λ k. if stands_before key k i then f k else 0) js ≡ 0
none_after key f i [] a = refl
none_after key f i (j ∷ js) a = rw (before-not key i j a.0) (omega (arith, none_after key f i js a.1))

ordered-split : (key f : ℕ → ℕ) (i : ℕ) (pre post : List ℕ) → IsOrdered key (pre ++ i ∷ post)
    → sum_list (λ k. if stands_before key k i then f k else 0) (pre ++ i ∷ post) ≡ sum_list f pre
ordered-split key f i [] post o = rw (before-self key i) (omega (arith, none_after key f i post o.0))
ordered-split key f i (j ∷ pre) post o = rw (first_ahead key j i pre post o.0) (omega (arith, ordered-split key f i pre post o.1))

pub sum_before-prefix : (key f : ℕ → ℕ) (n i : ℕ) (pre post : List ℕ) → in_order key n ≡ pre ++ i ∷ post → sum_before n key f i ≡ sum_list f pre
sum_before-prefix key f n i pre post e = grind (arith, nat_tests, in_order-ordered key n, ordered-split key f i pre post, sum_list-in_order)

length-insert : (key : ℕ → ℕ) (i : ℕ) (js : List ℕ) → length (insert_by key i js) ≡ suc (length js)
length-insert key i [] = refl
length-insert key i (j ∷ js) = grind (arith, nat_tests, length-insert key i js)

pub length-in_order : (key : ℕ → ℕ) (n : ℕ) → length (in_order key n) ≡ n
unfolding in_order
length-in_order key zero = refl
length-in_order key (suc n) = length-insert key n (in_order key n) ∙ ap suc (length-in_order key n)

-- i is in the list, between `pre` and `post`
abbrev pub Stands : ℕ → List ℕ → Type 0
Stands i xs = (pre : List ℕ) × ((post : List ℕ) × (xs ≡ pre ++ i ∷ post))

stands-later : (i j : ℕ) (xs : List ℕ) → Stands i xs → Stands i (j ∷ xs)
stands-later i j xs at = (j ∷ at.0, (at.1.0, ap (λ (ys : List ℕ). j ∷ ys) at.1.1))

stands-insert : (key : ℕ → ℕ) (i : ℕ) (js : List ℕ) → Stands i (insert_by key i js)
stands-insert key i [] = ([], ([], refl))
stands-insert key i (j ∷ js) = go (stands_before key i j) (stands-insert key i js)
  where
    go : (b : Bool) → Stands i (insert_by key i js) → Stands i (if b then i ∷ j ∷ js else j ∷ insert_by key i js)
    go true ih = ([], (j ∷ js, refl))
    go false ih = stands-later i j (insert_by key i js) ih

stands-kept : (key : ℕ → ℕ) (k i : ℕ) (js : List ℕ) → Stands k js → Stands k (insert_by key i js)
stands-kept key k i [] at = stands-later k i [] at
stands-kept key k i (j ∷ js) at = go (stands_before key i j) at.0 at.1.0 at.1.1 (λ rest. stands-kept key k i js rest)
  where
    go : (b : Bool) (pre post : List ℕ) → j ∷ js ≡ pre ++ k ∷ post → (Stands k js → Stands k (insert_by key i js))
        → Stands k (if b then i ∷ j ∷ js else j ∷ insert_by key i js)
    go true pre post e ih = (i ∷ pre, (post, ap (λ (ys : List ℕ). i ∷ ys) e))
    go false [] post e ih = let same : j ≡ k = cc in ([], (insert_by key i js, ap (λ (m : ℕ). m ∷ insert_by key i js) same))
    go false (p ∷ pre) post e ih = let rest : js ≡ pre ++ k ∷ post = cc in stands-later k j (insert_by key i js) (ih (pre, (post, rest)))

-- each number below n is in the order
pub stands-in_order : (key : ℕ → ℕ) (n k : ℕ) → k < n → Stands k (in_order key n)
unfolding in_order
stands-in_order key zero k lt = absurd (omega arith)
stands-in_order key (suc n) k lt =
    grind (arith, eq-or-lt_of_le (le_of_suc-le-suc lt), stands-insert key n (in_order key n), stands-kept, stands-in_order key n k)

-- keys that are equal below n give the same order and equal sums
before-same : (key key' : ℕ → ℕ) (j i : ℕ) → key j ≡ key' j → key i ≡ key' i → stands_before key j i ≡ stands_before key' j i
before-same key key' j i ej ei = ap₂ (λ (x y : ℕ). nat_lt x y || (nat_eq x y && nat_lt j i)) ej ei

insert-same : (key key' : ℕ → ℕ) (n i : ℕ) (js : List ℕ) → ((k : ℕ) → k < n → key k ≡ key' k) → i < n → AreBelow n js → insert_by key i js ≡ insert_by key' i js
insert-same key key' n i [] same lt b = refl
insert-same key key' n i (j ∷ js) same lt b = grind (arith, nat_tests, insert-same key key' n i js same lt b.1)

pub in_order-same : (key key' : ℕ → ℕ) (n : ℕ) → ((k : ℕ) → k < n → key k ≡ key' k) → in_order key n ≡ in_order key' n
unfolding in_order
in_order-same key key' zero same = refl
in_order-same key key' (suc n) same = grind (arith, insert-same, below-more, in_order-below, in_order-same key key' n)

pub sum_before-same : (key key' f : ℕ → ℕ) (n i : ℕ) → ((k : ℕ) → k < n → key k ≡ key' k) → i < n → sum_before n key f i ≡ sum_before n key' f i
sum_before-same key key' f n i same lt = grind (arith, nat_tests, sum_below-same, before-same)
