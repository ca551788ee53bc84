-- The walk from the last task to the first, in a loop, computes the demand.
use Rattle.std.proofs.Common.{◌≡◌, inl, inr, ℕ, ◌+◌, ◌-◌, ◌*◌, ◌<◌, ◌≤◌, min, true, false, List, [], ◌∷◌, ◌++◌, ◌∙◌, ap, arith, append_assoc, ◌^◌, Bool, length, get_or, take, drop, subst}
use Rattle.std.specs.Prelude.{nat_eq, if◌then◌else◌}
use Rattle.std.proofs.lemmas.Bool.{cases_Bool}
use Rattle.std.proofs.lemmas.Bool.Decides.{nat_tests}
use Rattle.std.proofs.Math.ListN.{drop_of_length-le}
use Rattle.std.proofs.lemmas.Nat.{mul-le}
use Rattle.std.proofs.lemmas.List.{append-nil, get_or_read, take_more, drop_more, take_all}
use Rattle.grid_fraction.specs.Numbers.{ceil_div}
use Rattle.grid_fraction.proofs.Ceilings.{ceil-at}
use Rattle.sched_model.specs.Plan.{Plan, hyper, rate, top_speed, count}
use Rattle.sched_model.specs.AheadDemand.{slack, spread_rates, due_first}
use Rattle.sched_model.specs.States.{StateView, IsOfPlan, earliest_in}
use Rattle.sched_model.proofs.Orders.{sum_list, sum_list-snoc, in_order-below, length-in_order, below-at}
use Rattle.governor.specs.Steps.{wleft_at}
use Rattle.look_ahead_laws.specs.Ahead.{deadline_at, edf_order}
use Rattle.sched_model.proofs.PutOffWork.{before_is, spread_within}
use Rattle.sched_model.specs.Tests.{total_rate}
use Rattle.sched_model.specs.Admission.{IsWithinLimits, IsAdmitted}
use Rattle.sched_model.proofs.Limits.{low_hyper, some_task}
use Rattle.governor.specs.ServedSchedulers.{ServesEdf}
use Rattle.governor.proofs.StatesOfDemands.{wleft-most}
use Rattle.look_ahead_laws.proofs.AheadLaws.{rates_fit, total_is}
use Rattle.look_ahead.specs.Walk.{not_put_off, next_spare, next_first}
use Rattle.look_ahead.proofs.MovedTask.{first-in_order}

-- a task whose job needs nothing leaves its rate
pub none_spare : (h own ticks spare : ℕ) → 0 < ticks → next_spare h own 0 ticks spare ≡ spare + own
none_spare h own ticks spare some = grind (arith, nat_tests, ceil-at)

-- what a step of the walk puts off
put_is : (w room : ℕ) → w - (w - room) ≡ min w room
put_is w room = omega arith

module _ (plan : Plan) (s : StateView) where
  abbrev due : ℕ → ℕ
  due = deadline_at s

  abbrev left : ℕ → ℕ
  left = wleft_at s

  abbrev late : ℕ → ℕ
  late = slack plan due

  abbrev soon : ℕ → ℕ → ℕ
  soon i spare = not_put_off (hyper plan) (rate plan i) (left i) (late i) spare

  -- the sums of the walk, with the tasks of xs done and those of l still to come
  pub record Walked (l xs : List ℕ) (spare first : ℕ) : Type 0 where
    pub order : edf_order plan s ≡ l ++ xs
    pub spare_is : spare + (sum_list (rate plan) l + spread_rates plan due left xs) ≡ top_speed plan * hyper plan
    pub first_is : first ≡ due_first plan due left xs

  walked_flat : (l xs : List ℕ) (i spare first : ℕ) → nat_eq (late i) 0 ≡ true
      → Walked (l ++ i ∷ []) xs spare first → Walked l (i ∷ xs) spare (first + left i)
  walked_flat l xs i spare first flat was = grind (arith, nat_tests, append_assoc, sum_list-snoc)

  walked_slope : (l xs : List ℕ) (i spare first : ℕ) → 0 < hyper plan → nat_eq (late i) 0 ≡ false
      → Walked (l ++ i ∷ []) xs spare first
      → Walked l (i ∷ xs) ((spare + rate plan i) - ceil_div ((left i - soon i spare) * hyper plan) (late i))
      (first + soon i spare)
  walked_slope l xs i spare first some slope was = grind (arith, nat_tests, append_assoc, before_is, sum_list, sum_list-snoc, put_is, spread_within)

  pub walked_step : (l xs : List ℕ) (i spare first : ℕ) → 0 < hyper plan → Walked (l ++ i ∷ []) xs spare first
      → Walked l (i ∷ xs) (next_spare (hyper plan) (rate plan i) (left i) (late i) spare)
      (next_first (hyper plan) (rate plan i) (left i) (late i) spare first)
  walked_step l xs i spare first some was =
      elim (cases_Bool (nat_eq (late i) 0)) [
        | inl flat ↦ rw flat (walked_flat l xs i spare first flat was)
        | inr slope ↦ rw slope (walked_slope l xs i spare first some slope was)
      ]

first_by : (b : Bool) (first w room : ℕ) → (if b then first + w else first + (w - room)) ≤ first + w
first_by b first w room = grind arith

-- what the highest speed does in a hyperperiod is at most 2^68
pub most_low : (plan : Plan) → IsWithinLimits plan → top_speed plan * hyper plan ≤ 2 ^ 68
most_low plan lim = grind (arith, mul-le, low_hyper plan lim)

module _ (plan : Plan) (s : StateView) where
  order_long : length (edf_order plan s) ≡ count plan
  order_long = length-in_order (deadline_at s) (count plan)

  -- the order has each task once
  pub tasks_long : (order : List ℕ) → order ≡ edf_order plan s → length order ≡ count plan
  tasks_long order is = ap (λ (xs : List ℕ). length xs) is ∙ order_long

  -- the task at place k of the order
  abbrev pub turn : ℕ → ℕ
  turn k = get_or (edf_order plan s) k 0

  pub turn_below : (k : ℕ) → k < count plan → turn k < count plan
  turn_below k lt =
      below-at (count plan) (edf_order plan s) k (in_order-below (deadline_at s) (count plan)) (rw order_long lt)

  -- a task that was read from the order is the one at its place
  turn_read : (order : List ℕ) → order ≡ edf_order plan s → (k i : ℕ) → k < length order
      → i ≡ get_or order k i → i ≡ turn k
  turn_read order is k i lt read =
      get_or_read order k i lt read 0 ∙ ap (λ (xs : List ℕ). get_or xs k 0) is

  -- the order has a first task
  pub some_first : IsWithinLimits plan → (order : List ℕ) → order ≡ edf_order plan s → 0 < length order
  some_first lim order is = omega (arith, tasks_long order is, some_task plan lim)

  module _ (lim : IsWithinLimits plan) (order : List ℕ) (is : order ≡ edf_order plan s)
      (i : ℕ) (read : i ≡ get_or order 0 i) where
    first_turn : i ≡ turn 0
    first_turn = turn_read order is 0 i (some_first lim order is) read

    pub first_below : i < count plan
    first_below = rw first_turn (turn_below 0 (some_task plan lim))

    pub first_due : deadline_at s i ≡ earliest_in plan s
    first_due = ap (deadline_at s) first_turn ∙ first-in_order (deadline_at s) (count plan) (some_task plan lim)

  -- what a job may still need is at most 2^61
  pub left_low : IsWithinLimits plan → IsOfPlan plan s → (i : ℕ) → i < count plan → wleft_at s i ≤ 2 ^ 61
  left_low lim of i lt = grind (arith, nat_tests, wleft-most)

  pub first_grows : IsWithinLimits plan → IsOfPlan plan s → (i spare first : ℕ) → i < count plan
      → next_first (hyper plan) (rate plan i) (wleft_at s i) (slack plan (deadline_at s) i) spare first ≤ first + 2 ^ 61
  first_grows lim of i spare first lt = grind (arith, nat_tests, first_by, left_low)

  -- the walk has done all tasks but the first k
  abbrev pub Done : ℕ → ℕ → ℕ → Type 0
  Done k spare first = Walked plan s (take k (edf_order plan s)) (drop k (edf_order plan s)) spare first

  pub done_none : (n spare : ℕ) → IsAdmitted plan → ServesEdf plan.scheduler → n ≡ count plan
      → spare ≡ top_speed plan * hyper plan - total_rate plan → Done n spare 0
  done_none n spare adm serves all is = grind (arith, nat_tests, order_long, take_all, drop_of_length-le, append-nil, total_is, rates_fit)

  module _ (k spare first : ℕ) (lt : k < count plan) (was : Done (k + 1) spare first) where
    -- the task at place k is the last one still to come
    in_turn : Walked plan s (take k (edf_order plan s) ++ turn k ∷ []) (drop (k + 1) (edf_order plan s)) spare first
    in_turn = grind (arith, nat_tests, take_more, order_long)

    pub done_next : 0 < hyper plan
        → Done k
        (next_spare (hyper plan) (rate plan (turn k)) (wleft_at s (turn k)) (slack plan (deadline_at s) (turn k)) spare)
        (next_first (hyper plan) (rate plan (turn k)) (wleft_at s (turn k)) (slack plan (deadline_at s) (turn k)) spare
        first)
    done_next some =
        let less : drop k (edf_order plan s) ≡ turn k ∷ drop (k + 1) (edf_order plan s) =
        drop_more (edf_order plan s) k 0 (rw order_long lt) in
        let rest = drop (k + 1) (edf_order plan s) in
        rw less (walked_step plan s (take k (edf_order plan s)) rest (turn k) spare first some in_turn)

    -- the highest speed has room for the rate of the task in turn
    pub has_room : spare + rate plan (turn k) ≤ top_speed plan * hyper plan
    has_room = omega (arith, sum_list-snoc (rate plan) (take k (edf_order plan s)) (turn k), in_turn.spare_is)

  -- the task of a step is the one at place n - 1, read from the order
  module _ (order : List ℕ) (is : order ≡ edf_order plan s) (n i : ℕ)
      (some : 0 < n) (low : n ≤ length order) (read : i ≡ get_or order (n - 1) i) where
    place_low : n - 1 < count plan
    place_low = omega (arith, tasks_long order is)

    step_task : i ≡ turn (n - 1)
    step_task = turn_read order is (n - 1) i (omega arith) read

    pub step_below : i < count plan
    step_below = rw step_task (turn_below (n - 1) place_low)

    module _ (spare first : ℕ) (was : Done n spare first) where
      up : Done (n - 1 + 1) spare first
      up = let e : n ≡ n - 1 + 1 = omega arith in subst (λ (m : ℕ). Done m spare first) e was

      pub step_fits : spare + rate plan i ≤ top_speed plan * hyper plan
      step_fits = rw step_task (has_room (n - 1) spare first place_low up)

      pub step_next : 0 < hyper plan
          → Done (n - 1) (next_spare (hyper plan) (rate plan i) (wleft_at s i) (slack plan (deadline_at s) i) spare)
          (next_first (hyper plan) (rate plan i) (wleft_at s i) (slack plan (deadline_at s) i) spare first)
      step_next positive = rw step_task (done_next (n - 1) spare first place_low up positive)
