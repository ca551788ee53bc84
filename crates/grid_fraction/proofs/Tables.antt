-- Lists whose elements are a function of their place.
use Rattle.std.proofs.Common.{◌≡◌, ◌≢◌, ℕ, zero, suc, ◌<◌, Bool, true, false, eqb, [], ◌∷◌, ◌++◌, length, length-append, get_or, set, refl, arith, ap, ap₂, ◌∙◌, sym, length-set, get_or-set_same, get_or-set_other}
use Rattle.std.proofs.lemmas.List.{ext_get_or, get_or-append_right, map-append, replicate_more}
use Rattle.std.proofs.Math.ListN.{get_or-append, replicate}
use Rattle.std.proofs.lemmas.Bool.Decides.{nat_tests}
use Rattle.std.specs.Prelude.{map}
use Rattle.std.specs.List.{AllByRecursion}
use Rattle.std.proofs.lemmas.List.Elements.{recursion_from_All}
use Rattle.grid_fraction.specs.Numbers.{list_below}

pub length-list_below : {A : Type 0} (n : ℕ) (f : ℕ → A) → length (list_below n f) ≡ n
length-list_below zero f = refl
length-list_below (suc n) f = omega (arith, length-append (list_below n f) (f n ∷ []), length-list_below n f)

pub same-table : {A : Type 0} (n : ℕ) (x : A) → list_below n (λ i. x) ≡ replicate n x
same-table zero x = refl
same-table (suc n) x = grind (arith, nat_tests, replicate_more, replicate, same-table n x)

pub get-table : {A : Type 0} (n : ℕ) (f : ℕ → A) (i : ℕ) (d : A) → i < n → get_or (list_below n f) i d ≡ f i
get-table {A = A} zero f i d lt = absurd (omega arith)
get-table {A = A} (suc n) f i d lt = grind (arith, nat_tests, length-list_below, get_or-append_right, get_or-append, get-table n f)

pub table-same : {A : Type 0} (n : ℕ) (f g : ℕ → A) → ((k : ℕ) → k < n → f k ≡ g k) → list_below n f ≡ list_below n g
table-same zero f g h = refl
table-same (suc n) f g h = ap₂ (λ xs x. xs ++ x ∷ []) (table-same n f g (λ k l. h k (omega arith))) (h n (omega arith))

-- writing one place of a table gives the table of a function that differs only there
pub set-table : {A : Type 0} (n : ℕ) (f g : ℕ → A) (i : ℕ) (v : A) → i < n → g i ≡ v → ((k : ℕ) → k < n → k ≢ i → g k ≡ f k)
    → set (list_below n f) i v ≡ list_below n g
set-table n f g i v lt here there =
    ext_get_or v (set (list_below n f) i v) (list_below n g)
    (length-set (list_below n f) i v ∙ (length-list_below n f ∙ sym (length-list_below n g)))
    (λ k l. at k (omega (arith, length-set (list_below n f) i v, length-list_below n f)) (eqb k i) refl)
  where
    at : (k : ℕ) → k < n → (b : Bool) → eqb k i ≡ b → get_or (set (list_below n f) i v) k v ≡ get_or (list_below n g) k v
    at k l true e =
        let same : k ≡ i = grind (arith, nat_tests) in
        let in_list : i < length (list_below n f) = omega (arith, length-list_below n f) in
        ap (λ m. get_or (set (list_below n f) i v) m v) same
        ∙ (get_or-set_same (list_below n f) i v v in_list
        ∙ (sym here ∙ (ap g (sym same) ∙ sym (get-table n g k v l))))
    at k l false e =
        let ne : k ≢ i = grind (arith, nat_tests) in
        get_or-set_other (list_below n f) i k v v ne
        ∙ (get-table n f k v l ∙ (sym (there k l ne) ∙ sym (get-table n g k v l)))

pub map-table : {A B : Type 0} (n : ℕ) (f : ℕ → A) (h : A → B) → map h (list_below n f) ≡ list_below n (λ i. h (f i))
map-table zero f h = refl
map-table (suc n) f h = map-append h (list_below n f) (f n ∷ []) ∙ ap (λ xs. xs ++ h (f n) ∷ []) (map-table n f h)

-- what each of the first n values has, each element of their list has
pub each-below : {A : Type 0} (P : A → Type 0) (n : ℕ) (f : ℕ → A) → ((i : ℕ) → i < n → P (f i)) → AllByRecursion P (list_below n f)
each-below P n f h = grind (arith, nat_tests, recursion_from_All, length-list_below, get-table)
