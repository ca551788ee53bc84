-- Sorting pairs of a key and a number gives the numbers in the order of the key.
use Rattle.std.proofs.Common.{◌≡◌, ℕ, zero, suc, ◌+◌, ◌≤◌, true, false, ◌||◌, ◌&&◌, List, [], ◌∷◌, get_or, nat_eq, nat_lt, if◌then◌else◌, refl, arith, ap, ap₂, ◌∙◌, sym, subst, add-one, true≢false}
use Rattle.std.specs.Prelude.{map, sum_by}
use Rattle.std.specs.List.{All}
use Rattle.std.specs.List.Sorted.{IsPermutation, IsSorted}
use Rattle.std.specs.Ordering.{is_lt}
use Rattle.std.proofs.lemmas.Bool.Decides.{nat_tests}
use Rattle.std.proofs.lemmas.List.Elements.{All-tail}
use Rattle.std.proofs.lemmas.List.Sorted.{All-permutation, IsPermutation-map, sum_by-IsPermutation}
use Rattle.std.proofs.lemmas.List.Sums.{sum_by-cons}
use Rattle.dvs_base.proofs.PairOrders.{pair_cmp, is_lt-pair_cmp}
use Rattle.grid_fraction.specs.Numbers.{sum_below, list_below}
use Rattle.sched_model.specs.Priority.{stands_before, in_order}
use Rattle.sched_model.proofs.Orders.{before-not, before-total, sum_list, IsAhead, IsOrdered, in_order-ordered, sum_list-in_order, sum_list-snoc}
use Rattle.grid_fraction.proofs.Tables.{length-list_below, get-table, map-table}

abbrev one : ℕ → ℕ → ℕ
one v j = if nat_eq j v then 1 else 0

-- how often v is in the list
abbrev times : ℕ → List ℕ → ℕ
times v js = sum_list (one v) js

-- no number of the list comes before i
abbrev NoneAhead : (ℕ → ℕ) → ℕ → List ℕ → Type 0
NoneAhead key i [] = Unit {0}
NoneAhead key i (j ∷ js) = (stands_before key j i ≡ false) × NoneAhead key i js

-- no number of the list comes before an earlier one of it
abbrev IsRising : (ℕ → ℕ) → List ℕ → Type 0
IsRising key [] = Unit {0}
IsRising key (i ∷ js) = NoneAhead key i js × IsRising key js

none_of : (key : ℕ → ℕ) (i v : ℕ) (js : List ℕ) → NoneAhead key i js → 1 ≤ times v js → stands_before key v i ≡ false
none_of key i v [] a h = absurd (omega arith)
none_of key i v (j ∷ js) a h = grind (arith, nat_tests, none_of key i v js a.1)

-- two rising lists with the same elements begin with the same number
same_first : (key : ℕ → ℕ) (x y : ℕ) (xs ys : List ℕ) → NoneAhead key x xs → NoneAhead key y ys → ((v : ℕ) → times v (x ∷ xs) ≡ times v (y ∷ ys)) → x ≡ y
same_first key x y xs ys a b h =
    grind (arith, nat_tests, before-total key x y, none_of key x y xs a, none_of key y x ys b)

rising_unique : (key : ℕ → ℕ) (xs ys : List ℕ) → IsRising key xs → IsRising key ys → ((v : ℕ) → times v xs ≡ times v ys) → xs ≡ ys
rising_unique key [] [] a b h = refl
rising_unique key [] (y ∷ ys) a b h =
    let self_y : nat_eq y y ≡ true = grind (arith, nat_tests) in
    let none : 0 ≡ 1 + times y ys = rw self_y at (h y) in
    absurd (omega arith)
rising_unique key (x ∷ xs) [] a b h =
    let self_x : nat_eq x x ≡ true = grind (arith, nat_tests) in
    let none : 1 + times x xs ≡ 0 = rw self_x at (h x) in
    absurd (omega arith)
rising_unique key (x ∷ xs) (y ∷ ys) a b h = grind (arith, same_first, rising_unique key xs ys a.1 b.1)

none_from_ahead : (key : ℕ → ℕ) (i : ℕ) (js : List ℕ) → IsAhead key i js → NoneAhead key i js
none_from_ahead key i [] a = tt
none_from_ahead key i (j ∷ js) a = (before-not key i j a.0, none_from_ahead key i js a.1)

rising_from_ordered : (key : ℕ → ℕ) (js : List ℕ) → IsOrdered key js → IsRising key js
rising_from_ordered key [] o = tt
rising_from_ordered key (i ∷ js) o = (none_from_ahead key i js o.0, rising_from_ordered key js o.1)

none_trans : (key : ℕ → ℕ) (i j : ℕ) (js : List ℕ) → stands_before key j i ≡ false → NoneAhead key j js → NoneAhead key i js
none_trans key i j [] h a = tt
none_trans key i j (k ∷ ks) h a = grind (arith, nat_tests, none_trans key i j ks h a.1)

-- each pair has the key of its number
abbrev HasKeys : (ℕ → ℕ) → List (ℕ × ℕ) → Type 0
HasKeys key ks = All (λ q. q.0 ≡ key q.1) ks

rising_from_sorted : (key : ℕ → ℕ) (k : ℕ × ℕ) (ks : List (ℕ × ℕ)) → HasKeys key (k ∷ ks) → IsSorted pair_cmp (k ∷ ks)
    → NoneAhead key k.1 (map (λ q. q.1) ks) × IsRising key (map (λ q. q.1) ks)
rising_from_sorted key k [] a h = (tt, tt)
rising_from_sorted key k (l ∷ ks) a h =
    let r : NoneAhead key l.1 (map (λ q. q.1) ks) × IsRising key (map (λ q. q.1) ks) =
    rising_from_sorted key l ks (All-tail (λ q. q.0 ≡ key q.1) k (l ∷ ks) a) later in
    ((late, none_trans key k.1 l.1 (map (λ q. q.1) ks) late r.0), r)
  where
    first : is_lt (pair_cmp l k) ≡ false
    first = h 0 k (omega arith) (omega arith)

    late : stands_before key l.1 k.1 ≡ false
    late =
        let of_k : k.0 ≡ key k.1 = a 0 k (omega arith) in
        let of_l : l.0 ≡ key l.1 = a 1 k (omega arith) in
        ap₂ (λ u v. nat_lt u v || (nat_eq u v && nat_lt l.1 k.1)) (sym of_l) (sym of_k) ∙ (sym (is_lt-pair_cmp l k) ∙ first)

    later : IsSorted pair_cmp (l ∷ ks)
    later i d low below =
        let at : is_lt (pair_cmp (get_or (k ∷ l ∷ ks) (suc i + 1) d) (get_or (k ∷ l ∷ ks) (suc i) d)) ≡ false = h (suc i) d (omega arith) (omega arith) in
        let there : is_lt (pair_cmp (get_or (l ∷ ks) (suc i) d) (get_or (l ∷ ks) i d)) ≡ false = rw add-one at at in
        rw add-one there

rising_numbers : (key : ℕ → ℕ) (ks : List (ℕ × ℕ)) → HasKeys key ks → IsSorted pair_cmp ks → IsRising key (map (λ q. q.1) ks)
rising_numbers key [] a h = tt
rising_numbers key (k ∷ ks) a h = rising_from_sorted key k ks a h

sum_list-is : (f : ℕ → ℕ) (js : List ℕ) → sum_list f js ≡ sum_by f js
sum_list-is f [] = refl
sum_list-is f (j ∷ js) = ap (λ s. f j + s) (sum_list-is f js) ∙ sym (sum_by-cons f j js)

sum_list-list_below : (f : ℕ → ℕ) (n : ℕ) → sum_list f (list_below n (λ i. i)) ≡ sum_below n f
sum_list-list_below f zero = refl
sum_list-list_below f (suc n) = sum_list-snoc f (list_below n (λ i. i)) n ∙ ap (λ s. s + f n) (sum_list-list_below f n)

-- the keys of the numbers below n
abbrev keyed : (ℕ → ℕ) → ℕ → List (ℕ × ℕ)
keyed key n = list_below n (λ i. (key i, i))

pub sorted_keys : (key : ℕ → ℕ) (n : ℕ) (ks : List (ℕ × ℕ)) → IsPermutation (keyed key n) ks → IsSorted pair_cmp ks → map (λ q. q.1) ks ≡ in_order key n
sorted_keys key n ks moved sorted =
    rising_unique key (map (λ q. q.1) ks) (in_order key n) (rising_numbers key ks keys sorted)
    (rising_from_ordered key (in_order key n) (in_order-ordered key n)) counts
  where
    pair : ℕ → ℕ × ℕ
    pair i = (key i, i)

    keys : HasKeys key ks
    keys = All-permutation (λ q. q.0 ≡ key q.1) (keyed key n) ks moved
        (λ i d lt. let at : get_or (keyed key n) i d ≡ pair i = get-table n (λ k. (key k, k)) i d (omega (arith, length-list_below n (λ k. pair k))) in
        subst (λ (q : ℕ × ℕ). q.0 ≡ key q.1) (sym at) refl)

    counts : (v : ℕ) → times v (map (λ q. q.1) ks) ≡ times v (in_order key n)
    counts v =
        sum_list-is (one v) (map (λ q. q.1) ks)
        ∙ (sum_by-IsPermutation (one v) (map (λ q. q.1) (keyed key n)) (map (λ q. q.1) ks) (IsPermutation-map (λ q. q.1) (keyed key n) ks moved)
        ∙ (sym (sum_list-is (one v) (map (λ q. q.1) (keyed key n)))
        ∙ (ap (sum_list (one v)) (map-table n (λ i. (key i, i)) (λ q. q.1))
        ∙ (sum_list-list_below (one v) n ∙ sym (sum_list-in_order (one v) key n)))))
