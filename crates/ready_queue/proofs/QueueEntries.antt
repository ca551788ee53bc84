-- What each call of a queue makes of the entries in its heap.
use Rattle.std.proofs.Common.{◌≡◌, ◌≢◌, ℕ, zero, suc, ◌+◌, ◌^◌, ◌<◌, ◌≤◌, Bool, true, ◌⊎◌, inl, inr, refl, sym, ap, ap₂, subst, ◌∙◌, arith, List, [], ◌∷◌, ◌++◌, length, take, drop, IsPermutation, slice_get, slice_set, IfSome}
use Rattle.std.specs.List.{slice_index_or, AllByRecursion, swap_remove}
use Rattle.std.proofs.lemmas.List.{length_push, get_or_append_left, take_at}
use Rattle.std.proofs.lemmas.List.Sorted.{IsPermutation-sym, IsPermutation-trans, IsPermutation-to_front, IsPermutation-cons, IsPermutation-swap_remove, length_permutation}
use Rattle.ready_queue.specs.declared.entry.Entry.{Entry}
use Rattle.ready_queue.specs.Orders.{OrderLaws}
use Rattle.ready_queue.specs.Entries.{QueueView, IsAbsent, IsOfFirst, AreApart, with_entry, ordered_entries, ComesFirst}
use Rattle.ready_queue.specs.Heaps.{entry_at, IsHeap, IsRising, CanSink, HoldsQueue}
use Rattle.ready_queue.proofs.DistinctTasks.{AreApart-permutation, length-apart}
use Rattle.ready_queue.proofs.EntryOrder.{Has, All-at, All-of, Has-permutation, placed-first, sorted-All, Has-in_order, sorted-permutation}
use Rattle.ready_queue.proofs.HeapSteps.{heap_first}

pub All-permuted : (P : Entry → Type 0) (xs ys : List Entry) → IsPermutation xs ys → AllByRecursion P xs → AllByRecursion P ys
All-permuted P xs ys s a = All-of P ys (λ e h. All-at P xs e a (Has-permutation xs ys e s h))

-- a vector whose items were lent, moved and given back has the moved items
whole : (n : ℕ) (from ws l : List Entry) → n ≡ length from → IsPermutation from ws → take n (ws ++ drop (length ws) l) ≡ ws
whole n from ws l e s = take_at ws (drop (length ws) l) n (length_permutation from ws s ∙ sym e)

module _ (before : Entry → Entry → Bool) where
  length-placed : (e : Entry) (xs : List Entry) → length (with_entry before e xs) ≡ suc (length xs)
  length-placed e [] = refl
  length-placed e (x ∷ xs) = grind (arith, length-placed e xs)

  pub length-in_order : (xs : List Entry) → length (ordered_entries before xs) ≡ length xs
  length-in_order [] = refl
  length-in_order (x ∷ xs) = length-placed x (ordered_entries before xs) ∙ ap suc (length-in_order xs)

  pub absent_held : (task : ℕ) (xs : List Entry) → IsAbsent task (ordered_entries before xs) → IsAbsent task xs
  absent_held task xs a = All-of (λ e. e.task ≢ task) xs (λ e h. All-at (λ z. z.task ≢ task) (ordered_entries before xs) e a (Has-in_order before xs e h))

  pub holds_none : (limit : ℕ) (xs : List Entry) → limit < 2 ^ 32 → xs ≡ [] → HoldsQueue before limit xs
  unfolding IsHeap
  holds_none limit xs low e = grind arith

  -- what `insert` requires of the queue's entries holds of the heap's
  pub asked : (limit : ℕ) (e : Entry) (xs : List Entry) (q : QueueView) → record { limit = limit; entries = ordered_entries before xs } ≡ q
      → e.task < q.limit → IsAbsent e.task q.entries → (e.task < limit) × IsAbsent e.task xs
  asked limit e xs q view lt a = grind (arith, absent_held)

  -- there is room for an entry of a task that is not in the queue
  pub room : (limit : ℕ) (e : Entry) (xs : List Entry) → HoldsQueue before limit xs → e.task < limit → IsAbsent e.task xs → length xs < limit
  room limit e xs h lt a = let n : length (e ∷ xs) ≤ limit = length-apart limit (e ∷ xs) (a, h.apart) (lt, h.below) in omega arith

  pub apart_pushed : (e : Entry) (xs : List Entry) → IsAbsent e.task xs → AreApart xs → AreApart (xs ++ e ∷ [])
  apart_pushed e xs n a = AreApart-permutation (e ∷ xs) (xs ++ e ∷ []) (IsPermutation-sym (xs ++ e ∷ []) (e ∷ xs) (IsPermutation-to_front xs e)) (n, a)

  pub pushed_rises : (e : Entry) (xs : List Entry) (j : ℕ) → j ≡ length xs → IsHeap before xs → IsRising before (xs ++ e ∷ []) j
  unfolding IsHeap
  pushed_rises e xs j is h = grind (arith, length_push xs e, get_or_append_left)

  -- after an entry is pushed and has risen, the heap is a queue with one more entry
  pub holds_more : (limit : ℕ) (e : Entry) (xs ys : List Entry) → HoldsQueue before limit xs → e.task < limit → IsAbsent e.task xs
      → IsPermutation (xs ++ e ∷ []) ys → IsHeap before ys → HoldsQueue before limit ys
  holds_more limit e xs ys h lt n s heap = record {
    heap = heap;
    apart = AreApart-permutation (xs ++ e ∷ []) ys s (apart_pushed e xs n h.apart);
    below = All-permuted (λ z. z.task < limit) (e ∷ xs) ys (front s) (lt, h.below);
    low_limit = h.low_limit;
  }
    where
      front : IsPermutation (xs ++ e ∷ []) ys → IsPermutation (e ∷ xs) ys
      front s = IsPermutation-trans (e ∷ xs) (xs ++ e ∷ []) ys (IsPermutation-sym (xs ++ e ∷ []) (e ∷ xs) (IsPermutation-to_front xs e)) s

  module _ (laws : OrderLaws before) where
    pub entries_more : (limit : ℕ) (e : Entry) (xs ys : List Entry) → HoldsQueue before limit xs → IsAbsent e.task xs
        → IsPermutation (xs ++ e ∷ []) ys → ordered_entries before ys ≡ with_entry before e (ordered_entries before xs)
    entries_more limit e xs ys h n s =
        sym (sorted-permutation before laws (e ∷ xs) ys (n, h.apart)
        (IsPermutation-trans (e ∷ xs) (xs ++ e ∷ []) ys (IsPermutation-sym (xs ++ e ∷ []) (e ∷ xs) (IsPermutation-to_front xs e)) s))

    -- the queue after `insert`
    pub inserted : (limit more n : ℕ) (e : Entry) (xs lent ys l : List Entry) (q : QueueView) → HoldsQueue before limit xs
        → record { limit = limit; entries = ordered_entries before xs } ≡ q → e.task < q.limit → IsAbsent e.task q.entries
        → lent ≡ xs ++ e ∷ [] → n ≡ length lent → IsPermutation lent ys → IsHeap before ys → more ≡ limit
        → HoldsQueue before more (take n (ys ++ drop (length ys) l)) × (ordered_entries before (take n (ys ++ drop (length ys) l)) ≡ with_entry before e
        q.entries)
    inserted limit more n e xs lent ys l q h view lt a put long moved heap room =
        let can = asked limit e xs q view lt a in
        let same = whole n lent ys l long moved in
        let s : IsPermutation (xs ++ e ∷ []) ys = subst (λ (zs : List Entry). IsPermutation zs ys) put moved in (
          subst (λ (m : ℕ). HoldsQueue before m (take n (ys ++ drop (length ys) l))) (sym room)
              (subst (HoldsQueue before limit) (sym same) (holds_more limit e xs ys h can.0 can.1 s heap)),
          ap (ordered_entries before) same ∙ entries_more limit e xs ys h can.1 s ∙ ap (λ (r : QueueView). with_entry before e r.entries) view,
        )

    -- in a heap the entry at the top is the first in order
    pub top_entries : (limit : ℕ) (x : Entry) (xs : List Entry) → HoldsQueue before limit (x ∷ xs)
        → ordered_entries before (x ∷ xs) ≡ x ∷ ordered_entries before xs
    top_entries limit x xs h = placed-first before x (ordered_entries before xs)
        (sorted-All before (λ z. before x z ≡ true) xs (heap_first before laws x xs h.apart h.heap))

    pub first_entry : (limit : ℕ) (xs : List Entry) → HoldsQueue before limit xs → slice_get xs 0 ≡ slice_get (ordered_entries before xs) 0
    first_entry limit [] h = refl
    first_entry limit (x ∷ xs) h = ap (λ (l : List Entry). slice_get l 0) (sym (top_entries limit x xs h))

    comes_first : (limit : ℕ) (x : Entry) (xs : List Entry) → HoldsQueue before limit (x ∷ xs) → ComesFirst before x (ordered_entries before (x ∷ xs))
    comes_first limit x xs h = grind (arith, top_entries limit x xs h, sorted-All, All-of, All-at, heap_first before laws x xs h.apart h.heap)

    pub first_comes : (limit : ℕ) (xs : List Entry) → HoldsQueue before limit xs
        → IfSome (slice_get xs 0) (λ e. ComesFirst before e (ordered_entries before xs))
    first_comes limit [] h = tt
    first_comes limit (x ∷ xs) h = comes_first limit x xs h

    -- the entry at the top is taken out, and the last one is put in its place
    module _ (limit : ℕ) (x : Entry) (xs rest : List Entry) (h : HoldsQueue before limit xs) (some : 0 < length xs)
        (top : x ≡ slice_index_or xs 0 x) (left : rest ≡ swap_remove xs 0 x) where
      parts : IsPermutation xs (x ∷ rest)
      parts = subst (λ (l : List Entry). IsPermutation xs (x ∷ l)) (sym left) (IsPermutation-swap_remove xs 0 x some top)

      pub taken_sinks : ((k : ℕ) → k ≢ 0 → k + 1 < length xs → entry_at rest k ≡ entry_at xs k) → CanSink before rest 0
      unfolding IsHeap
      taken_sinks same = record {
        apart = let a : AreApart (x ∷ rest) = AreApart-permutation xs (x ∷ rest) parts h.apart in a.1;
        sinking = record {
          others = λ p k child in' ne.
              let long : length (x ∷ rest) ≡ length xs = length_permutation xs (x ∷ rest) parts in
              ap₂ before (same p ne (omega (arith, child))) (same k (omega (arith, child)) (omega arith)) ∙ h.heap p k child (omega arith);
          around = record { over = λ p k up child in'. absurd (omega (arith, up)) };
        };
      }

      -- the entry that was put at the top has sunk
      module _ (ys : List Entry) (s : IsPermutation rest ys) where
        with_top : IsPermutation xs (x ∷ ys)
        with_top = IsPermutation-trans xs (x ∷ rest) (x ∷ ys) parts (IsPermutation-cons x rest ys s)

        apart_top : AreApart (x ∷ ys)
        apart_top = AreApart-permutation xs (x ∷ ys) with_top h.apart

        pub holds_less : IsHeap before ys → HoldsQueue before limit ys
        holds_less heap =
            let b : AllByRecursion (λ z. z.task < limit) (x ∷ ys) = All-permuted (λ z. z.task < limit) xs (x ∷ ys) with_top h.below in
            record { heap = heap; apart = apart_top.1; below = b.1; low_limit = h.low_limit }

        first_of : (zs : List Entry) → zs ≡ xs → AllByRecursion (λ z. (z ≡ x) ⊎ (before x z ≡ true)) zs
        first_of [] e = tt
        first_of (a ∷ zs) e =
            let same : a ≡ x = sym (top ∙ ap (λ (l : List Entry). slice_index_or l 0 x) (sym e)) in
            let a' : AreApart (a ∷ zs) = subst AreApart (sym e) h.apart in
            let heap : IsHeap before (a ∷ zs) = subst (IsHeap before) (sym e) h.heap in (
              inl same,
              All-of (λ z. (z ≡ x) ⊎ (before x z ≡ true)) zs
                  (λ z g. inr (ap (λ (y : Entry). before y z) (sym same) ∙ All-at (λ y. before a y ≡ true) zs z (heap_first before laws a zs a' heap) g)),
            )

        first_left : AllByRecursion (λ z. before x z ≡ true) ys
        first_left = All-of (λ z. before x z ≡ true) ys
            (λ z g. go z g (All-at (λ y. (y ≡ x) ⊎ (before x y ≡ true)) xs z (first_of xs refl) (Has-permutation xs (x ∷ ys) z with_top (inr g))))
          where
            go : (z : Entry) → Has ys z → (z ≡ x) ⊎ (before x z ≡ true) → before x z ≡ true
            go z g (inl e) = absurd (All-at (λ y. y.task ≢ x.task) ys z apart_top.0 g (ap (λ (y : Entry). y.task) e))
            go z g (inr t) = t

        pub entries_less : ordered_entries before xs ≡ x ∷ ordered_entries before ys
        entries_less = grind (arith, sorted-permutation before laws xs (x ∷ ys) h.apart with_top, placed-first, sorted-All, first_left)

        pub taken_out : IsAbsent x.task (ordered_entries before ys)
        taken_out = sorted-All before (λ z. z.task ≢ x.task) ys apart_top.0

        pub taken_first : ComesFirst before x (ordered_entries before xs)
        taken_first = grind (arith, entries_less, sorted-All, All-of, All-at, first_left)

        -- the queue after `take_first`
        pub taken : (more n : ℕ) (lent l : List Entry) (q : QueueView) → record { limit = limit; entries = ordered_entries before xs } ≡ q
            → lent ≡ rest → n ≡ length lent → IsHeap before ys → more ≡ limit
            → HoldsQueue before more (take n (ys ++ drop (length ys) l))
            × (q.entries ≡ x ∷ ordered_entries before (take n (ys ++ drop (length ys) l)))
            × ComesFirst before x q.entries
            × IsAbsent x.task (ordered_entries before (take n (ys ++ drop (length ys) l)))
        taken more n lent l q view is long heap room = grind (arith, whole, holds_less, entries_less, taken_first, taken_out)

    -- the entry at the top is replaced by another of its task
    module _ (limit : ℕ) (e : Entry) where
      first_is : (x : Entry) (xs : List Entry) → HoldsQueue before limit (x ∷ xs) → IsOfFirst e.task (ordered_entries before (x ∷ xs)) → x.task ≡ e.task
      first_is x xs h f = subst (IsOfFirst e.task) (top_entries limit x xs h) f

      apart_top_replaced : (x : Entry) (xs : List Entry) → x.task ≡ e.task → AreApart (x ∷ xs) → AreApart (e ∷ xs)
      apart_top_replaced x xs is a = (subst (λ (t : ℕ). IsAbsent t xs) is a.0, a.1)

      below_top : (x y : Entry) (xs : List Entry) (k : ℕ) → k ≢ 0 → entry_at (y ∷ xs) k ≡ entry_at (x ∷ xs) k
      below_top x y xs zero ne = absurd (ne refl)
      below_top x y xs (suc k) ne = refl

      pub replaced_sinks : (xs : List Entry) → HoldsQueue before limit xs → IsOfFirst e.task (ordered_entries before xs) → CanSink before (slice_set xs 0 e) 0
      unfolding IsHeap
      replaced_sinks [] h f = absurd f
      replaced_sinks (x ∷ xs) h f = record {
        apart = apart_top_replaced x xs (first_is x xs h f) h.apart;
        sinking = record {
          others = λ p k child in' ne.
              ap₂ before (below_top x e xs p ne) (below_top x e xs k (omega (arith, child))) ∙ h.heap p k child in';
          around = record { over = λ p k up child in'. absurd (omega (arith, up)) };
        };
      }

      -- the queue after `replace_first`
      held_after : (xs ys : List Entry) → HoldsQueue before limit xs → IsOfFirst e.task (ordered_entries before xs) → IsPermutation (slice_set xs 0 e) ys
          → IsHeap before ys → HoldsQueue before limit ys
      held_after [] ys h f s heap = absurd f
      held_after (x ∷ xs) ys h f s heap =
          let is = first_is x xs h f in
          record {
            heap = heap;
            apart = AreApart-permutation (e ∷ xs) ys s (apart_top_replaced x xs is h.apart);
            below = All-permuted (λ z. z.task < limit) (e ∷ xs) ys s (subst (λ (t : ℕ). t < limit) is h.below.0, h.below.1);
            low_limit = h.low_limit;
          }

      entries_after : (xs ys : List Entry) → HoldsQueue before limit xs → IsOfFirst e.task (ordered_entries before xs) → IsPermutation (slice_set xs 0 e) ys
          → ordered_entries before ys ≡ with_entry before e (drop 1 (ordered_entries before xs))
      entries_after [] ys h f s = absurd f
      entries_after (x ∷ xs) ys h f s =
          grind (arith, sorted-permutation before laws (e ∷ xs) ys (apart_top_replaced x xs (first_is x xs h f) h.apart) s, top_entries limit x xs h)

      absent_after : (xs : List Entry) → HoldsQueue before limit xs → IsOfFirst e.task (ordered_entries before xs)
          → IsAbsent e.task (drop 1 (ordered_entries before xs))
      absent_after [] h f = absurd f
      absent_after (x ∷ xs) h f = grind (arith, top_entries, sorted-All)

      pub replaced : (n : ℕ) (xs ys l : List Entry) (q : QueueView) → HoldsQueue before limit xs
          → record { limit = limit; entries = ordered_entries before xs } ≡ q
          → IsOfFirst e.task q.entries → n ≡ length (slice_set xs 0 e) → IsPermutation (slice_set xs 0 e) ys → IsHeap before ys
          → HoldsQueue before limit (take n (ys ++ drop (length ys) l))
          × (ordered_entries before (take n (ys ++ drop (length ys) l)) ≡ with_entry before e (drop 1 q.entries))
          × IsAbsent e.task (drop 1 q.entries)
      replaced n xs ys l q h view f long s heap = grind (arith, whole, held_after, entries_after, absent_after)
