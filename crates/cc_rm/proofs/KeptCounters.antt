-- What each call makes of the kept counters.
use Rattle.std.proofs.Common.{◌≡◌, ◌≢◌, ℕ, ◌+◌, ◌-◌, ◌*◌, ◌<◌, ◌≤◌, true, false, List, length, length-set, get_or-set_same, get_or-set_other, refl, sym, ◌∙◌, ap, ap₂, arith, if◌then◌else◌, ◌⊎◌, inl, inr, subst}
use Rattle.std.specs.Prelude.{slice_set, slice_index, Option, None, Some, IfSome}
use Rattle.std.proofs.lemmas.Bool.{cases_eq}
use Rattle.std.proofs.lemmas.List.{get_or-map}
use Rattle.grid_fraction.specs.Numbers.{sum_below}
use Rattle.grid_fraction.proofs.Sums.{sum_below-change}
use Rattle.grid_fraction.proofs.Least.{least-same}
use Rattle.sched_model.specs.declared.state.Row.{Row}
use Rattle.sched_model.specs.Plan.{Plan, count, period}
use Rattle.sched_model.specs.Priority.{allotment}
use Rattle.sched_model.specs.StaticDemand.{static_speed}
use Rattle.sched_model.specs.States.{StateView, no_row, row_at, row_wleft, after_run, after_finish, after_mark, IsOfPlan, earliest_in}
use Rattle.governor.specs.Steps.{wleft_at}
use Rattle.cc_rm_laws.specs.Allotments.{base_of, allotted_in, allotment_left_in}
use Rattle.cc_rm.specs.declared.counters.Allotments.{Allotments}
use Rattle.cc_rm.specs.Counters.{AreOf, AreCounters, allotments_after}

-- if one term of a sum falls, the sum falls by as much
sum_below-fall : (n : ℕ) (f g : ℕ → ℕ) (i by : ℕ) → i < n → g i + by ≡ f i → ((k : ℕ) → k ≢ i → g k ≡ f k)
    → sum_below n g ≡ sum_below n f - by
sum_below-fall n f g i by lt own other = omega (arith, own, sum_below-change n f g i lt (λ k l ne. other k ne))

-- right after a mark the base of a task is what its job may still need
pub marked-base : (s : StateView) (i : ℕ) → i < length s.rows → base_of (after_mark s) i ≡ wleft_at s i
marked-base s i h = get_or-map row_wleft s.rows i no_row 0 h

-- the row of task i is replaced by one with the same deadline
module _ (plan : Plan) (s : StateView) (of : IsOfPlan plan s) (i : ℕ)
    (h : i < count plan) (row : Row) (due : row.deadline ≡ (row_at s i).deadline) where
  abbrev written : StateView
  written = record s { rows = slice_set s.rows i row }

  row-same : row_at written i ≡ row
  row-same = get_or-set_same s.rows i row no_row (let r = of.rows in omega arith)

  row-other : (k : ℕ) → k ≢ i → row_at written k ≡ row_at s k
  row-other k ne = get_or-set_other s.rows i k row no_row ne

  first-same : earliest_in plan written ≡ earliest_in plan s
  first-same =
      least-same (count plan) (λ k. (row_at written k).deadline)
      (λ k. (row_at s k).deadline) (λ k lt. at k (cases_eq k i))
    where
      at : (k : ℕ) → (k ≡ i) ⊎ (k ≢ i) → (row_at written k).deadline ≡ (row_at s k).deadline
      at k (inl same) = subst (λ (m : ℕ). (row_at written m).deadline ≡ (row_at s m).deadline) (sym same) (ap (λ (r : Row). r.deadline) row-same ∙ due)
      at k (inr ne) = ap (λ (r : Row). r.deadline) (row-other k ne)

  allotted-same : (k : ℕ) → allotted_in plan written k ≡ allotted_in plan s k
  allotted-same k =
      ap (λ (n : ℕ). allotment (count plan) (period plan) ((n - s.base_at) * static_speed plan) (base_of s) k)
      first-same

  left-other : (k : ℕ) → k ≢ i → allotment_left_in plan written k ≡ allotment_left_in plan s k
  left-other k ne =
      ap₂ (λ (r : Row) (al : ℕ). if r.done then 0 else al - (base_of s k - row_wleft r))
      (row-other k ne) (allotted-same k)

  -- what is left of the allotment of task i, with the new row
  abbrev pub left_with : ℕ
  left_with = if row.done then 0 else allotted_in plan s i - (base_of s i - row_wleft row)

  left-own : allotment_left_in plan written i ≡ left_with
  left-own = ap₂ (λ (r : Row) (al : ℕ). if r.done then 0
      else al - (base_of s i - row_wleft r)) row-same (allotted-same i)

  module _ (rests : List ℕ) (long : length rests ≡ count plan) (rest : ℕ)
      (less : rest ≤ slice_index rests i) (most : row_wleft row ≤ wleft_at s i) where
    in-rests : i < length rests
    in-rests = omega (arith, long)

    are-lowered : (all : Allotments) → AreOf rests all plan s → left_with ≡ rest
        → AreOf (slice_set rests i rest) (record all { left = all.left - (slice_index rests i - rest) }) plan written
    are-lowered all kept is = record {
      rests_are = λ k lt. rest-at k lt (cases_eq k i);
      left_is =
          let fall =
          sum_below-fall (count plan) (allotment_left_in plan s) (allotment_left_in plan written) i
          (slice_index rests i - rest) h (omega (arith, left-own, is, less, kept.rests_are i h)) left-other in
          omega (arith, fall, kept.left_is);
      first_is = kept.first_is ∙ sym first-same;
      within = λ k lt. within-at k lt (cases_eq k i);
    }
      where
        rest-at : (k : ℕ) → k < count plan → (k ≡ i) ⊎ (k ≢ i) → slice_index (slice_set rests i rest) k ≡ allotment_left_in plan written k
        rest-at k lt (inl same) =
            subst (λ (m : ℕ). slice_index (slice_set rests i rest) m ≡ allotment_left_in plan written m) (sym same)
            (get_or-set_same rests i rest 0 in-rests ∙ sym (left-own ∙ is))
        rest-at k lt (inr ne) = get_or-set_other rests i k rest 0 ne ∙ (kept.rests_are k lt ∙ sym (left-other k ne))

        within-at : (k : ℕ) → k < count plan → (k ≡ i) ⊎ (k ≢ i) → wleft_at written k ≤ base_of s k
        within-at k lt (inl same) =
            subst (λ (m : ℕ). wleft_at written m ≤ base_of s m) (sym same) (omega (arith, ap row_wleft row-same, most, kept.within i h))
        within-at k lt (inr ne) = omega (arith, ap row_wleft (row-other k ne), kept.within k lt)

    counts-lowered : (speed : ℕ) (kept : Option Allotments) → AreCounters speed rests kept plan s
        → ((all : Allotments) → AreOf rests all plan s → left_with ≡ rest)
        → AreCounters speed (slice_set rests i rest) (allotments_after (slice_index rests i - rest) kept) plan written
    counts-lowered speed kept counts is = record {
      served = counts.served;
      speed_is = counts.speed_is;
      one_each = length-set rests i rest ∙ long;
      allotted = go kept counts.allotted;
    }
      where
        go : (o : Option Allotments) → IfSome o (λ all. AreOf rests all plan s)
            → IfSome (allotments_after (slice_index rests i - rest) o) (λ all. AreOf (slice_set rests i rest) all plan written)
        go None none = none
        go (Some all) of_all = are-lowered all of_all (is all of_all)

module _ (plan : Plan) (s : StateView) (of : IsOfPlan plan s) (i : ℕ) (h : i < count plan) (speed : ℕ)
    (rests : List ℕ) (kept : Option Allotments) (counts : AreCounters speed rests kept plan s) where
  -- `State::run` of an incomplete job keeps the counters right
  pub counts-ran : (units : ℕ) → (row_at s i).done ≡ false → (row_at s i).used + units ≤ (row_at s i).worst
      → AreCounters speed (slice_set rests i (slice_index rests i - units))
      (allotments_after (slice_index rests i - (slice_index rests i - units)) kept) plan (after_run s i units)
  counts-ran units still room =
      counts-lowered plan s of i h row refl rests counts.one_each (slice_index rests i - units)
      (omega arith) (rw still (omega arith)) speed kept counts is
    where
      row : Row
      row = record (row_at s i) { used = (row_at s i).used + units }

      is : (all : Allotments) → AreOf rests all plan s → left_with plan s of i h row refl ≡ slice_index rests i - units
      is all kept =
          let open_left : allotment_left_in plan s i
          ≡ allotted_in plan s i - (base_of s i - ((row_at s i).worst - (row_at s i).used)) = rw still refl in
          let mine : left_with plan s of i h row refl
          ≡ allotted_in plan s i - (base_of s i - ((row_at s i).worst - ((row_at s i).used + units))) = rw still refl in
          let most : (row_at s i).worst - (row_at s i).used ≤ base_of s i =
          (let w : wleft_at s i ≡ (row_at s i).worst - (row_at s i).used
          = rw still refl in omega (arith, w, kept.within i h)) in
          omega (arith, open_left, mine, most, kept.rests_are i h, room)

  -- `State::finish` of a job keeps the counters right
  pub counts-finished : AreCounters speed (slice_set rests i 0)
      (allotments_after (slice_index rests i - 0) kept) plan (after_finish s i)
  counts-finished =
      counts-lowered plan s of i h (record (row_at s i) { done = true }) refl rests counts.one_each 0
      (omega arith) (omega arith) speed kept counts (λ all kept. refl)
