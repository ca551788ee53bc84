-- The least common multiple: it is positive, each number divides it, and it divides every common multiple.
use Rattle.std.proofs.lemmas.Bool.Decides.{nat_tests}
use Prim.Native.Nat.{◌∣◌}
use Rattle.std.proofs.Common.{◌≡◌, ℕ, zero, suc, ◌+◌, ◌*◌, ◌/◌, ◌%◌, ◌<◌, ◌≤◌, true, ◌&&◌, List, [], ◌∷◌, ◌++◌, length, get_or, ◌⊎◌, inl, inr, refl, arith, ap, ◌∙◌, sym, subst, nat_eq, eq-or-lt_of_le, mul_assoc, mul_comm, mul-add, true≢false, mul-pos, eq-eqb, eqb-true, append_assoc, append-nil, take, drop}
use Rattle.std.proofs.Math.Nat.{dvd-mul_right_of_dvd, dvd-mul_left, dvd-mul_right, mul-dvd-mul_left, mul-dvd-mul_right, dvd_of_mul-dvd-mul_right, div-mul_cancel, mod-add-div, dvd-add_iff_left, one-dvd}
use Rattle.std.proofs.lemmas.Bool.{and_parts}
use Rattle.std.proofs.lemmas.Nat.Gcd.{dvd_refl, dvd_trans, dvd_antisymm, le_of_dvd, dvd_of_mod-eq-zero, mod-eq-zero_of_dvd, IsGcd-from_zero, IsGcd-from_mod, same_from_IsGcd}
use Rattle.std.proofs.lemmas.List.{take_more, take-append-drop}
use Rattle.std.proofs.lemmas.List.Folds.{list_all-append}
use Rattle.std.proofs.lemmas.List.Elements.{All-append, All-take, All-drop, All-push, All-head, All-tail, All-cons, All-nil}
use Rattle.std.specs.Int.{IsGcd}
use Rattle.std.specs.List.{All}
use Rattle.grid_fraction.specs.Numbers.{first_from}
use Rattle.grid_fraction.specs.Fraction.{product, divides_all, least_common_multiple}
use Rattle.grid_fraction.proofs.Searches.{first_from-found, first_from-before}

-- g is the greatest common divisor of a and b, and each common divisor of m * a and m * b divides m * g
record IsScaledGcd (a b g : ℕ) : Type 0 where
  gcd : IsGcd a b g
  scaled : (m d : ℕ) → d ∣ m * a → d ∣ m * b → d ∣ m * g

dvd_remainder : (m d a b : ℕ) → d ∣ m * a → d ∣ m * b → d ∣ m * (a % b)
dvd_remainder m d a b p q = (dvd-add_iff_left d (dvd-mul_right_of_dvd d q (a / b))).1 (subst (λ x. d ∣ x) (sym split) p)
  where
    split : m * (a % b) + m * b * (a / b) ≡ m * a
    split = ap (λ x. m * (a % b) + x) (mul_assoc m b (a / b)) ∙ (sym (mul-add m (a % b) (b * (a / b))) ∙ ap (λ x. m * x) (mod-add-div a b))

scaled_gcd : (n a b : ℕ) → b < n → (g : ℕ) × IsScaledGcd a b g
scaled_gcd zero a b lt = absurd (omega arith)
scaled_gcd (suc n) a zero lt = (a, record { gcd = IsGcd-from_zero a zero refl; scaled = λ m d p q. p })
scaled_gcd (suc n) a (suc b) lt =
    let rest : (g : ℕ) × IsScaledGcd (suc b) (a % suc b) g = scaled_gcd n (suc b) (a % suc b) (omega arith) in (
      rest.0,
      record {
        gcd = IsGcd-from_mod a (suc b) rest.0 rest.1.gcd;
        scaled = λ m d p q. rest.1.scaled m d q (dvd_remainder m d a (suc b) p q);
      },
    )

-- any divisor of m * a and m * b divides m times the greatest common divisor of a and b
pub IsGcd-scaled : (a b g m d : ℕ) → IsGcd a b g → d ∣ m * a → d ∣ m * b → d ∣ m * g
IsGcd-scaled a b g m d h p q =
    let made : (k : ℕ) × IsScaledGcd a b k = scaled_gcd (suc b) a b (omega arith) in
    subst (λ k. d ∣ m * k) (same_from_IsGcd a b made.0 g made.1.gcd h) (made.1.scaled m d p q)

-- m is the least common multiple of ns
pub record IsLeastMultiple (ns : List ℕ) (m : ℕ) : Type 0 where
  pub positive : 0 < m
  pub divided : divides_all ns m ≡ true
  pub least : (k : ℕ) → divides_all ns k ≡ true → m ∣ k

divides-test : (n k : ℕ) → n ∣ k → nat_eq (k % n) 0 ≡ true
divides-test n k h = eq-eqb _ _ (mod-eq-zero_of_dvd n h)

divides-from_test : (n k : ℕ) → nat_eq (k % n) 0 ≡ true → n ∣ k
divides-from_test n k h = dvd_of_mod-eq-zero n (eqb-true _ _ h)

-- the numbers that divide m divide every multiple of m
divides_all-dvd : (ns : List ℕ) (m k : ℕ) → divides_all ns m ≡ true → m ∣ k → divides_all ns k ≡ true
divides_all-dvd [] m k h d = refl
divides_all-dvd (n ∷ ns) m k h d = grind (arith, nat_tests, and_parts, divides-from_test, divides-test, dvd_trans, divides_all-dvd ns m k)

-- the numbers of two lists all divide k exactly if those of each list do
pub divides_all-append : (ns ms : List ℕ) (k : ℕ) → divides_all (ns ++ ms) k ≡ (divides_all ns k && divides_all ms k)
divides_all-append ns ms k = list_all-append (λ n. nat_eq (k % n) 0) ns ms

pub divides_all-get_or : (ns : List ℕ) (k i d : ℕ) → divides_all ns k ≡ true → i < length ns → get_or ns i d ∣ k
divides_all-get_or [] k i d h lt = absurd (omega arith)
divides_all-get_or (n ∷ ns) k zero d h lt = divides-from_test n k (and_parts _ _ h).0
divides_all-get_or (n ∷ ns) k (suc i) d h lt = divides_all-get_or ns k i d (and_parts _ _ h).1 (omega arith)

factor-pos : (q x n : ℕ) → q * x ≡ n → 0 < n → 0 < q
factor-pos zero x n e some = absurd (omega arith)
factor-pos (suc q) x n e some = omega arith

pub IsGcd-pos : (a b g : ℕ) → 0 < a → IsGcd a b g → 0 < g
IsGcd-pos a b g some d = factor-pos g (a / g) a (mul_comm g (a / g) ∙ div-mul_cancel g d.0) some

pub IsLeastMultiple-none : IsLeastMultiple [] 1
IsLeastMultiple-none = record { positive = omega arith; divided = refl; least = λ k h. one-dvd k }

-- the least common multiple m of a list, with one number n more, is m * (n / g) for their greatest common divisor g
pub IsLeastMultiple-more : (ns : List ℕ) (m n g : ℕ) → IsLeastMultiple ns m → 0 < n → IsGcd m n g → IsLeastMultiple (ns ++ n ∷ []) (m * (n / g))
IsLeastMultiple-more ns m n g h some d = record { positive = positive; divided = divided; least = least }
  where
    whole : n / g * g ≡ n
    whole = div-mul_cancel g d.1

    steps : 0 < n / g
    steps = factor-pos (n / g) g n whole some

    positive : 0 < m * (n / g)
    positive = mul-pos h.positive steps

    by_n : n ∣ m * (n / g)
    by_n = subst (λ x. n ∣ x) same (dvd-mul_left n (m / g))
      where
        same : m / g * n ≡ m * (n / g)
        same = ap (λ x. m / g * x) (sym whole ∙ mul_comm (n / g) g) ∙ (sym (mul_assoc (m / g) g (n / g)) ∙ ap (λ x. x * (n / g)) (div-mul_cancel g d.0))

    divided : divides_all (ns ++ n ∷ []) (m * (n / g)) ≡ true
    divided = divides_all-append ns (n ∷ []) (m * (n / g))
        ∙ rw (divides_all-dvd ns m (m * (n / g)) h.divided (dvd-mul_right_of_dvd m (dvd_refl m) (n / g)), divides-test n (m * (n / g)) by_n) refl

    least : (k : ℕ) → divides_all (ns ++ n ∷ []) k ≡ true → m * (n / g) ∣ k
    least k all = dvd_of_mul-dvd-mul_right (m * (n / g)) g_pos (subst (λ x. x ∣ k * g) split product_dvd)
      where
        g_pos : 0 < g
        g_pos = IsGcd-pos m n g h.positive d

        split : m * n ≡ m * (n / g) * g
        split = ap (λ x. m * x) (sym whole) ∙ sym (mul_assoc m (n / g) g)

        parts : (divides_all ns k ≡ true) × (divides_all (n ∷ []) k ≡ true)
        parts = and_parts _ _ (sym (divides_all-append ns (n ∷ []) k) ∙ all)

        by_m : m ∣ k
        by_m = h.least k parts.0

        n_dvd : n ∣ k
        n_dvd = divides_all-get_or (n ∷ []) k 0 0 parts.1 (omega arith)

        product_dvd : m * n ∣ k * g
        product_dvd = IsGcd-scaled m n g k (m * n) d (subst (λ x. m * n ∣ x) (mul_comm m k) (mul-dvd-mul_left n m n_dvd)) (mul-dvd-mul_right m by_m n)

pub IsLeastMultiple-one : (n : ℕ) → 0 < n → IsLeastMultiple (n ∷ []) n
IsLeastMultiple-one n some = record {
  positive = some;
  divided = rw (divides-test n n (dvd_refl n)) refl;
  least = λ k h. divides_all-get_or (n ∷ []) k 0 0 h (omega arith);
}

-- a list has only one least common multiple
pub IsLeastMultiple-same : (ns : List ℕ) (m k : ℕ) → IsLeastMultiple ns m → IsLeastMultiple ns k → m ≡ k
IsLeastMultiple-same ns m k p q = dvd_antisymm (p.least k q.divided) (q.least m p.divided)

least_made : (ms ns : List ℕ) (m : ℕ) → IsLeastMultiple ns m → All (λ n. 0 < n) ms → (k : ℕ) × IsLeastMultiple (ns ++ ms) k
least_made [] ns m h all = (m, rw append-nil h)
least_made (n ∷ ms) ns m h all =
    let made : (g : ℕ) × IsScaledGcd m n g = scaled_gcd (suc n) m n (omega arith) in
    let next : (k : ℕ) × IsLeastMultiple ((ns ++ n ∷ []) ++ ms) k = least_made ms (ns ++ n ∷ []) (m * (n / made.0))
    (IsLeastMultiple-more ns m n made.0 h (All-head (λ x. 0 < x) n ms all) made.1.gcd) (All-tail (λ x. 0 < x) n ms all) in
    (next.0, rw append_assoc at next.1)

product-pos : (ns : List ℕ) → All (λ n. 0 < n) ns → 0 < product ns
product-pos [] all = omega arith
product-pos (n ∷ ns) all = mul-pos (All-head (λ x. 0 < x) n ns all) (product-pos ns (All-tail (λ x. 0 < x) n ns all))

product-divided : (ns : List ℕ) → divides_all ns (product ns) ≡ true
product-divided [] = refl
product-divided (n ∷ ns) = grind (arith, nat_tests, divides-test, divides_all-dvd, dvd-mul_left, dvd-mul_right, product-divided ns)

-- the first common multiple from 1 on is the least common multiple
pub least_common_multiple-is : (ns : List ℕ) → All (λ n. 0 < n) ns → IsLeastMultiple ns (least_common_multiple ns)
unfolding least_common_multiple
least_common_multiple-is ns all = subst (λ k. IsLeastMultiple ns k) same made.1
  where
    first : ℕ
    first = first_from (product ns) 1 (divides_all ns)

    made : (k : ℕ) × IsLeastMultiple ns k
    made = least_made ns [] 1 IsLeastMultiple-none all

    found : (divides_all ns first ≡ true) × (1 ≤ first)
    found = first_from-found (product ns) 1 (product ns) (divides_all ns) (product-pos ns all) (omega arith) (product-divided ns)

    same : made.0 ≡ first
    same = go (eq-or-lt_of_le (le_of_dvd found.1 (made.1.least first found.0)))
      where
        go : (made.0 ≡ first) ⊎ (made.0 < first) → made.0 ≡ first
        go (inl e) = e
        go (inr lt) = absurd (true≢false (sym made.1.divided ∙ first_from-before (product ns) 1 made.0 (divides_all ns) made.1.positive lt))

pub least_common_multiple-pos : (ns : List ℕ) → All (λ n. 0 < n) ns → 0 < least_common_multiple ns
least_common_multiple-pos ns all = (least_common_multiple-is ns all).positive

-- the quotient of the least common multiple by a number of the list, times that number, is the least common multiple
pub mul-div-least_common_multiple : (ns : List ℕ) (i d : ℕ) → All (λ n. 0 < n) ns → i < length ns
    → least_common_multiple ns / get_or ns i d * get_or ns i d ≡ least_common_multiple ns
mul-div-least_common_multiple ns i d all lt = grind (arith, nat_tests, div-mul_cancel, divides_all-get_or, least_common_multiple-is)

-- the least common multiple divides every number that each number of the list divides
pub least_common_multiple-dvd : (ns : List ℕ) (k : ℕ) → All (λ n. 0 < n) ns → divides_all ns k ≡ true → least_common_multiple ns ∣ k
least_common_multiple-dvd ns k all h = (least_common_multiple-is ns all).least k h

pub le-least_common_multiple : (ns : List ℕ) (k : ℕ) → All (λ n. 0 < n) ns → 0 < k → divides_all ns k ≡ true → least_common_multiple ns ≤ k
le-least_common_multiple ns k all some h = le_of_dvd some (least_common_multiple-dvd ns k all h)

-- the least common multiple of two numbers is their product over their greatest common divisor
pub least_common_multiple-pair : (a b g : ℕ) → 0 < a → 0 < b → IsGcd a b g → least_common_multiple (a ∷ b ∷ []) ≡ a * (b / g)
least_common_multiple-pair a b g p q d =
    IsLeastMultiple-same (a ∷ b ∷ []) _ _ (least_common_multiple-is (a ∷ b ∷ []) (All-cons (λ x. 0 < x) a (b ∷ []) p
    (All-cons (λ x. 0 < x) b [] q (All-nil (λ x. 0 < x))))) (IsLeastMultiple-more (a ∷ []) a b g (IsLeastMultiple-one a p) q d)

-- the least common multiple of a list and one number more is that of two numbers: the list's and the new one
pub least_common_multiple-more : (ns : List ℕ) (n : ℕ) → All (λ n. 0 < n) ns → 0 < n
    → least_common_multiple (ns ++ n ∷ []) ≡ least_common_multiple (least_common_multiple ns ∷ n ∷ [])
least_common_multiple-more ns n all some =
    let m : ℕ = least_common_multiple ns in
    let is : IsLeastMultiple ns m = least_common_multiple-is ns all in
    let made : (g : ℕ) × IsScaledGcd m n g = scaled_gcd (suc n) m n (omega arith) in
    IsLeastMultiple-same (ns ++ n ∷ []) _ _ (least_common_multiple-is (ns ++ n ∷ []) (All-push (λ x. 0 < x) ns n all some))
    (IsLeastMultiple-more ns m n made.0 is some made.1.gcd)
    ∙ sym (least_common_multiple-pair m n made.0 is.positive some made.1.gcd)

-- the least common multiple grows with the list
pub least_common_multiple-le-append : (ns ms : List ℕ) → All (λ n. 0 < n) ns → All (λ n. 0 < n) ms → least_common_multiple ns ≤ least_common_multiple (ns ++ ms)
least_common_multiple-le-append ns ms p q =
    let is : IsLeastMultiple (ns ++ ms) (least_common_multiple (ns ++ ms)) = least_common_multiple-is (ns ++ ms) (All-append (λ n. 0 < n) ns ms p q) in
    le-least_common_multiple ns (least_common_multiple (ns ++ ms)) p is.positive
    (and_parts _ _ (sym (divides_all-append ns ms (least_common_multiple (ns ++ ms))) ∙ is.divided)).0

pub least_common_multiple-none : least_common_multiple [] ≡ 1
unfolding least_common_multiple
least_common_multiple-none = refl

-- the least common multiple of the first i + 1 numbers is that of two numbers: the first i numbers' and number i
pub least_common_multiple-take_more : (ns : List ℕ) (i d : ℕ) → All (λ n. 0 < n) ns → i < length ns
    → least_common_multiple (take (i + 1) ns) ≡ least_common_multiple (least_common_multiple (take i ns) ∷ get_or ns i d ∷ [])
least_common_multiple-take_more ns i d all lt =
    rw (take_more ns i d lt) (least_common_multiple-more (take i ns) (get_or ns i d) (All-take (λ x. 0 < x) i ns all) (all i d lt))

pub least_common_multiple-take : (ns : List ℕ) (i : ℕ) → All (λ n. 0 < n) ns → least_common_multiple (take i ns) ≤ least_common_multiple ns
least_common_multiple-take ns i all =
    let P : List ℕ → Type 0 = λ l. least_common_multiple (take i ns) ≤ least_common_multiple l in
    subst P (take-append-drop i ns) (least_common_multiple-le-append (take i ns) (drop i ns) (All-take (λ x. 0 < x) i ns all) (All-drop (λ x. 0 < x) i ns all))
