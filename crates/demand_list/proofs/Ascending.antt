-- Rows that ascend: what comes after the last of them, what a search among them finds, and the map that they make.
use Rattle.std.proofs.Common.{◌≡◌, ℕ, ◌-◌, ◌<◌, ◌≤◌, Bool, true, false, List, [], ◌∷◌, ◌++◌, length, take, Some, None, refl, sym, subst, ◌∙◌, arith, suc, zero}
use Rattle.std.specs.Prelude.{nat_lt, nat_eq, ◌&&◌, slice_index_or}
use Rattle.std.specs.List.{AllByRecursion}
use Rattle.std.specs.List.Sorted.{IsNonDecreasingBy}
use Rattle.std.specs.declared.cmp.Ordering.TheVariants as order
use Rattle.std.specs.Ordering.{ordering_index}
use Rattle.std.specs.BTreeMap.{insert_entry}
use Rattle.std.proofs.lemmas.Bool.Decides.{nat_tests}
use Rattle.std.proofs.lemmas.List.{map-append}
use Rattle.dvs_base.proofs.PairOrders.{pair_cmp}
use Rattle.task_model.specs.DemandRows.{DemandRow, named_units}
use Rattle.demand_list.specs.Demands.{rows_of, with_row, precedes}
use Rattle.demand_list.specs.Kept.{AllPrecede, AreAscending}

abbrev Entry : Type 0
Entry = (ℕ × ℕ) × ℕ

abbrev pub row : Entry → DemandRow
row e = record { task = e.0.0; job = e.0.1; units = e.1 }

precedes-through : (q r s : DemandRow) → precedes q r ≡ true → precedes r s ≡ true → precedes q s ≡ true
precedes-through q r s first second = grind (arith, nat_tests)

precedes-back : (r s : DemandRow) → precedes r s ≡ true → precedes s r ≡ false
precedes-back r s before = grind (arith, nat_tests)

other-job : (r s : DemandRow) → precedes r s ≡ true → (nat_eq r.task s.task && nat_eq r.job s.job) ≡ false
other-job r s before = grind (arith, nat_tests)

module _ (r : DemandRow) where
  -- what comes after the last row comes after all
  pub AllPrecede-last : (es : List Entry) (n : ℕ) (d : Entry) → AreAscending (rows_of es) → n ≡ length es - 1
      → precedes (row (slice_index_or es n d)) r ≡ true → AllPrecede r (rows_of es)
  AllPrecede-last [] n d h end last = tt
  AllPrecede-last (e ∷ []) zero d h end last = (last, tt)
  AllPrecede-last (e ∷ []) (suc n) d h end last = absurd (omega arith)
  AllPrecede-last (e ∷ f ∷ es) zero d h end last = absurd (omega arith)
  AllPrecede-last (e ∷ f ∷ es) (suc n) d h end last =
      let rest = AllPrecede-last (f ∷ es) n d h.1 (omega arith) last in (precedes-through (row e) (row f) r h.0.0 rest.0, rest)

  with_row-last : (rows : List DemandRow) → AllPrecede r rows → with_row rows r ≡ rows ++ r ∷ []
  with_row-last [] h = refl
  with_row-last (s ∷ rows) h = rw (precedes-back s r h.0, with_row-last rows h.1) refl

  pub named-last : (rows : List DemandRow) → AllPrecede r rows → named_units rows r.task r.job ≡ None
  named-last [] h = refl
  named-last (s ∷ rows) h = rw (other-job s r h.0, named-last rows h.1) refl

  also-last : (P : DemandRow → Type 0) (rows : List DemandRow) → AllByRecursion P rows → P r → AllByRecursion P (rows ++ r ∷ [])
  also-last P [] h p = (p, tt)
  also-last P (s ∷ rows) h p = (h.0, also-last P rows h.1 p)

  AreAscending-last : (rows : List DemandRow) → AreAscending rows → AllPrecede r rows → AreAscending (rows ++ r ∷ [])
  AreAscending-last [] h p = (tt, tt)
  AreAscending-last (s ∷ rows) h p = (also-last (λ t. precedes s t ≡ true) rows h.0 p.0, AreAscending-last rows h.1 p.1)

  -- the rows with one pushed after them are those with one more, and ascend
  module _ (es : List Entry) (before : AllPrecede r (rows_of es)) where
    abbrev pushed : List Entry
    pushed = es ++ ((r.task, r.job), r.units) ∷ []

    pub rows_of-pushed : rows_of pushed ≡ with_row (rows_of es) r
    rows_of-pushed = map-append row es _ ∙ sym (with_row-last (rows_of es) before)

    pub AreAscending-pushed : AreAscending (rows_of es) → AreAscending (rows_of pushed)
    AreAscending-pushed h = subst AreAscending (sym (map-append row es _)) (AreAscending-last (rows_of es) h before)

each-at : (P : DemandRow → Type 0) (es : List Entry) (i : ℕ) (d : Entry) → AllByRecursion P (rows_of es) → i < length es → P (row (slice_index_or es i d))
each-at P [] i d h lt = absurd (omega arith)
each-at P (e ∷ es) zero d h lt = h.0
each-at P (e ∷ es) (suc i) d h lt = each-at P es i d h.1 (omega arith)

precedes-at : (es : List Entry) (i j : ℕ) (d : Entry) → AreAscending (rows_of es) → i < j → j < length es
    → precedes (row (slice_index_or es i d)) (row (slice_index_or es j d)) ≡ true
precedes-at [] i j d h lt within = absurd (omega arith)
precedes-at (e ∷ es) i zero d h lt within = absurd (omega arith)
precedes-at (e ∷ es) zero (suc j) d h lt within = each-at (λ s. precedes (row e) s ≡ true) es j d h.0 (omega arith)
precedes-at (e ∷ es) (suc i) (suc j) d h lt within = precedes-at es i j d h.1 (omega arith) (omega arith)

-- an equal key is that of the job, a lower one and a higher one are of other jobs, and so is one before an equal key
pub key-Equal : (r : DemandRow) (i k : ℕ) → pair_cmp (r.task, r.job) (i, k) ≡ order.Equal → (nat_eq r.task i && nat_eq r.job k) ≡ true
key-Equal r i k same = grind (arith, nat_tests)

key-Less : (r : DemandRow) (i k : ℕ) → pair_cmp (r.task, r.job) (i, k) ≡ order.Less → (nat_eq r.task i && nat_eq r.job k) ≡ false
key-Less r i k less = grind (arith, nat_tests)

key-Greater : (r : DemandRow) (i k : ℕ) → pair_cmp (r.task, r.job) (i, k) ≡ order.Greater → (nat_eq r.task i && nat_eq r.job k) ≡ false
key-Greater r i k more = grind (arith, nat_tests)

key-before : (r s : DemandRow) (i k : ℕ) → precedes r s ≡ true → (nat_eq s.task i && nat_eq s.job k) ≡ true
    → (nat_eq r.task i && nat_eq r.job k) ≡ false
key-before r s i k before same = grind (arith, nat_tests)

index-rises : (r s : DemandRow) (i k : ℕ) → precedes r s ≡ true
    → ordering_index (pair_cmp (r.task, r.job) (i, k)) ≤ ordering_index (pair_cmp (s.task, s.job) (i, k))
index-rises r s i k before = grind (arith, nat_tests)

cmp-later : (r s : DemandRow) → precedes r s ≡ true → pair_cmp (s.task, s.job) (r.task, r.job) ≡ order.Greater
cmp-later r s before = grind (arith, nat_tests)

module _ (i k : ℕ) where
  -- the units of a row that has the job
  pub named-at : (es : List Entry) (at : ℕ) (d : Entry) → AreAscending (rows_of es) → at < length es
      → (nat_eq (slice_index_or es at d).0.0 i && nat_eq (slice_index_or es at d).0.1 k) ≡ true
      → named_units (rows_of es) i k ≡ Some (slice_index_or es at d).1
  named-at [] at d h lt same = absurd (omega arith)
  named-at (e ∷ es) zero d h lt same = rw same refl
  named-at (e ∷ es) (suc at) d h lt same =
      let before = each-at (λ s. precedes (row e) s ≡ true) es at d h.0 (omega arith) in
      rw (key-before (row e) (row (slice_index_or es at d)) i k before same, named-at es at d h.1 (omega arith) same) refl

  -- no row has the job
  pub named-between : (es : List Entry) (at : ℕ)
      → ((j : ℕ) (d : Entry) → 0 ≤ j → j < at → pair_cmp (slice_index_or es j d).0 (i, k) ≡ order.Less)
      → ((j : ℕ) (d : Entry) → at ≤ j → j < length es → pair_cmp (slice_index_or es j d).0 (i, k) ≡ order.Greater)
      → named_units (rows_of es) i k ≡ None
  named-between [] at low high = refl
  named-between (e ∷ es) zero low high =
      rw (
        key-Greater (row e) i k (high 0 e (omega arith) (omega arith)),
        named-between es 0 (λ j d _ lt. absurd (omega arith))
            (λ j d _ lt. high (suc j) d (omega arith) (omega arith)),
      ) refl
  named-between (e ∷ es) (suc at) low high =
      rw (
        key-Less (row e) i k (low 0 e (omega arith) (omega arith)),
        named-between es at (λ j d _ lt. low (suc j) d (omega arith) (omega arith))
            (λ j d le lt. high (suc j) d (omega arith) (omega arith)),
      ) refl

  -- the comparisons with a job rise along the rows, as a binary search asks
  pub comparisons-rise : (es : List Entry) → AreAscending (rows_of es) → IsNonDecreasingBy (λ e. ordering_index (pair_cmp e.0 (i, k))) es
  comparisons-rise es h a b d le lt = by (nat_lt a b) refl
    where
      by : (less : Bool) → nat_lt a b ≡ less
          → ordering_index (pair_cmp (slice_index_or es a d).0 (i, k)) ≤ ordering_index (pair_cmp (slice_index_or es b d).0 (i, k))
      by true e =
          let before = precedes-at es a b d h (grind (arith, nat_tests)) lt in
          index-rises (row (slice_index_or es a d)) (row (slice_index_or es b d)) i k before
      by false e = let same : a ≡ b = grind (arith, nat_tests) in rw same (omega arith)

-- the map of the first rows, with the next
pub insert_entry-next : (es : List Entry) (i : ℕ) (d : Entry) → AreAscending (rows_of es) → i < length es
    → insert_entry pair_cmp (take i es) (slice_index_or es i d).0 (slice_index_or es i d).1 ≡ take (suc i) es
insert_entry-next [] i d h lt = absurd (omega arith)
insert_entry-next (e ∷ es) zero d h lt = refl
insert_entry-next (e ∷ es) (suc i) d h lt =
    let before = each-at (λ s. precedes (row e) s ≡ true) es i d h.0 (omega arith) in
    rw (cmp-later (row e) (row (slice_index_or es i d)) before, insert_entry-next es i d h.1 (omega arith)) refl
