-- Handing out the units of a mark in RM order: what is allotted, and what each task gets of what is left there.
use Rattle.std.proofs.Common.{◌≡◌, ℕ, suc, ◌+◌, ◌-◌, ◌<◌, ◌≤◌, min, Bool, true, false, List, [], ◌∷◌, ◌++◌, length, take, drop, sym, ◌∙◌, ap, arith, if◌then◌else◌, drop-cons, ◌≢◌, length-set, get_or-set_same, get_or-set_other, refl, subst, ◌⊎◌, inl, inr}
use Rattle.std.specs.Prelude.{slice_index, slice_set}
use Rattle.std.proofs.lemmas.List.{take-append-drop, take_more, take_all, get_or_at, length-append}
use Rattle.std.proofs.lemmas.Bool.{cases_eq}
use Rattle.grid_fraction.specs.Numbers.{sum_below}
use Rattle.sched_model.specs.Plan.{Plan, count, period}
use Rattle.sched_model.specs.Priority.{in_order, sum_before}
use Rattle.sched_model.specs.States.{StateView, row_at, after_mark, IsOfPlan}
use Rattle.sched_model.proofs.Orders.{sum_list, sum_list-snoc, below-at, in_order-below, length-in_order, sum_list-in_order, sum_before-prefix, stands-in_order}
use Rattle.cc_rm_laws.specs.Allotments.{base_of, allotted_units, allotted_in, had_since_mark, allotment_left_in}
use Rattle.governor.specs.Steps.{wleft_at}
use Rattle.governor.proofs.StatesOfDemands.{done_none}
use Rattle.cc_rm_laws.proofs.AllotmentLefts.{left-marked}
use Rattle.cc_rm.specs.Counters.{AreRests}
use Rattle.cc_rm.proofs.KeptCounters.{marked-base}

-- the tasks in RM order
abbrev pub order : Plan → List ℕ
order p = in_order (period p) (count p)

pub ranked-below : (p : Plan) (k : ℕ) → k < count p → slice_index (order p) k < count p
ranked-below p k h =
    below-at (count p) (order p) k (in_order-below (period p) (count p))
    (omega (arith, length-in_order (period p) (count p)))

-- what a task gets is the smaller of its need and what the tasks before it leave
share_of : (units before need : ℕ) → min units (before + need) - min units before ≡ min (units - before) need
share_of units before need = omega arith

-- the k-th task in RM order gets what the tasks before it leave, up to its base
ranked-allotted : (p : Plan) (v : StateView) (k : ℕ) → k < count p
    → allotted_in p v (slice_index (order p) k)
    ≡ min (allotted_units p v - sum_list (base_of v) (take k (order p))) (base_of v (slice_index (order p) k))
ranked-allotted p v k h =
    let i = slice_index (order p) k in
    let long : k < length (order p) = omega (arith, length-in_order (period p) (count p)) in
    let parts : order p ≡ take k (order p) ++ i ∷ drop (suc k) (order p) =
    sym (take-append-drop k (order p)) ∙ ap (λ (js : List ℕ). take k (order p) ++ js) (drop-cons (order p) k 0 long) in
    let before : sum_before (count p) (period p) (base_of v) i ≡ sum_list (base_of v) (take k (order p)) =
    sum_before-prefix (period p) (base_of v) (count p) i (take k (order p)) (drop (suc k) (order p)) parts in
    share_of (allotted_units p v) (sum_before (count p) (period p) (base_of v) i) (base_of v i)
    ∙ ap (λ (b : ℕ). min (allotted_units p v - b) (base_of v i)) before

-- after k tasks in RM order, `rest` units are not allotted, and `sum` is what is left of the k allotments
pub record IsWalked (p : Plan) (v : StateView) (units k rest sum : ℕ) : Type 0 where
  pub rest_is : rest ≡ units - sum_list (base_of v) (take k (order p))
  pub sum_is : sum ≡ sum_list (allotment_left_in p v) (take k (order p))
  pub within : sum + rest ≤ units

left_most : (done : Bool) (al had : ℕ) → (if done then 0 else al - had) ≤ al
left_most true al had = omega arith
left_most false al had = omega arith

module _ (p : Plan) (v : StateView) (units k rest sum given left : ℕ) (all : units ≡ allotted_units p v)
    (h : k < count p) (walked : IsWalked p v units k rest sum)
    (given_is : given ≡ min rest (base_of v (slice_index (order p) k)))
    (left_is : left ≡ (if (row_at v (slice_index (order p) k)).done then 0
    else given - had_since_mark v (slice_index (order p) k))) where
  abbrev i : ℕ
  i = slice_index (order p) k

  -- what the walk leaves of the k-th task's units is what is left of its allotment
  pub ranked-left : left ≡ allotment_left_in p v i
  ranked-left =
      let same : given ≡ allotted_in p v i = omega (arith, given_is, all, walked.rest_is, ranked-allotted p v k h) in
      left_is ∙ ap (λ (al : ℕ). if (row_at v i).done then 0 else al - had_since_mark v i) same

  pub walked-next : IsWalked p v units (k + 1) (rest - given) (sum + left)
  walked-next =
      let most = left_most (row_at v i).done given (had_since_mark v i) in
      let next : take (k + 1) (order p) ≡ take k (order p) ++ i ∷ [] =
      take_more (order p) k 0 (omega (arith, length-in_order (period p) (count p))) in
      let bases = ap (sum_list (base_of v)) next ∙ sum_list-snoc (base_of v) (take k (order p)) i in
      let lefts = ap (sum_list (allotment_left_in p v)) next
      ∙ sum_list-snoc (allotment_left_in p v) (take k (order p)) i in
      record {
        rest_is = omega (arith, given_is, walked.rest_is, bases);
        sum_is = omega (arith, walked.sum_is, lefts, ranked-left);
        within = omega (arith, walked.within, given_is, left_is, most);
      }

pub walked-end : (p : Plan) (v : StateView) (units rest sum : ℕ) → IsWalked p v units (count p) rest sum
    → sum ≡ sum_below (count p) (allotment_left_in p v)
walked-end p v units rest sum walked =
    let all : take (count p) (order p) ≡ order p =
    take_all (count p) (order p) (omega (arith, length-in_order (period p) (count p))) in
    walked.sum_is ∙ (ap (sum_list (allotment_left_in p v)) all
    ∙ sum_list-in_order (allotment_left_in p v) (period p) (count p))

module _ (plan : Plan) (s : StateView) (units : ℕ) where
  abbrev marked : StateView
  marked = after_mark s

  abbrev place : ℕ → ℕ
  place k = slice_index (order plan) k

  -- after k tasks in RM order what is left of their allotments is written
  pub record IsHanded (k rest sum : ℕ) (rests : List ℕ) : Type 0 where
    pub walked : IsWalked plan marked units k rest sum
    pub one_each : length rests ≡ count plan
    pub rests_are : (m : ℕ) → m < k → slice_index rests (place m) ≡ allotment_left_in plan marked (place m)

  pub handed-next : IsOfPlan plan s → (k rest sum given : ℕ) (rests : List ℕ)
      → units ≡ allotted_units plan marked → k < count plan
      → IsHanded k rest sum rests → given ≡ min rest (wleft_at s (place k))
      → IsHanded (k + 1) (rest - given) (sum + given) (slice_set rests (place k) given)
  handed-next of k rest sum given rests all h handed is = record {
    walked = walked-next plan marked units k rest sum given given all h handed.walked given_is left_is;
    one_each = length-set rests (place k) given ∙ handed.one_each;
    rests_are = λ m lt. at m lt (cases_eq (place m) (place k));
  }
    where
      below : place k < count plan
      below = ranked-below plan k h

      base : base_of marked (place k) ≡ wleft_at s (place k)
      base = marked-base s (place k) (omega (arith, of.rows, below))

      given_is : given ≡ min rest (base_of marked (place k))
      given_is = is ∙ ap (min rest) (sym base)

      left_is : given ≡ (if (row_at s (place k)).done then 0 else given - had_since_mark marked (place k))
      left_is =
          sym (left-marked (row_at s (place k)).done given (base_of marked (place k))
          (wleft_at s (place k)) base (omega (arith, given_is)) (done_none (row_at s (place k))))

      mine : given ≡ allotment_left_in plan marked (place k)
      mine = ranked-left plan marked units k rest sum given given all h handed.walked given_is left_is

      at : (m : ℕ) → m < k + 1 → (place m ≡ place k) ⊎ (place m ≢ place k)
          → slice_index (slice_set rests (place k) given) (place m) ≡ allotment_left_in plan marked (place m)
      at m lt (inl same) =
          subst (λ (j : ℕ). slice_index (slice_set rests (place k) given) j ≡ allotment_left_in plan marked j) (sym same)
          (get_or-set_same rests (place k) given 0 (omega (arith, handed.one_each, below)) ∙ mine)
      at m lt (inr ne) =
          let other : m ≢ k = λ q. ne (ap place q) in
          get_or-set_other rests (place k) (place m) given 0 ne ∙ handed.rests_are m (omega (arith, other))

  -- a task that needs nothing gets nothing
  pub handed-none : IsOfPlan plan s → (k rest sum : ℕ) (rests : List ℕ)
      → units ≡ allotted_units plan marked → k < count plan
      → IsHanded k rest sum rests → wleft_at s (place k) ≡ 0
      → IsHanded (k + 1) rest sum (slice_set rests (place k) 0)
  handed-none of k rest sum rests all h handed none =
      let next = handed-next of k rest sum 0 rests all h handed (omega (arith, none)) in
      let less : rest - 0 ≡ rest = omega arith in
      let more : sum + 0 ≡ sum = omega arith in
      subst (λ (n : ℕ). IsHanded (k + 1) n sum (slice_set rests (place k) 0)) less
      (subst (λ (n : ℕ). IsHanded (k + 1) (rest - 0) n (slice_set rests (place k) 0)) more next)

  pub handed-end : (rest sum : ℕ) (rests : List ℕ) → IsHanded (count plan) rest sum rests → AreRests rests plan marked
  handed-end rest sum rests handed i h =
      let there = stands-in_order (period plan) (count plan) i h in
      let m = length there.0 in
      let here : place m ≡ i = ap (λ (js : List ℕ). slice_index js m) there.1.1
      ∙ get_or_at there.0 i there.1.0 0 m refl in
      let long : m < count plan =
      omega (
        arith,
        ap length there.1.1,
        length-append there.0 (i ∷ there.1.0),
        length-in_order (period plan) (count plan),
      ) in
      sym (ap (slice_index rests) here) ∙ (handed.rests_are m long ∙ ap (allotment_left_in plan marked) here)
