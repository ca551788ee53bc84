-- The equations over all tasks at once have a solution; each gives the demand and keeps the rates within the speed.
use Rattle.std.proofs.Common.{◌≡◌, ℕ, ◌+◌, ◌-◌, ◌*◌, ◌<◌, ◌≤◌, true, false, eqb, List, [], ◌∷◌, ◌++◌, refl, sym, ◌∙◌, ap, subst, arith, append_assoc, true≢false, nat_eq, if◌then◌else◌, ne_eqb}
use Rattle.std.proofs.lemmas.Bool.Decides.{nat_tests}
use Rattle.grid_fraction.specs.Numbers.{sum_below, ceil_div}
use Rattle.sched_model.specs.Plan.{Plan, count, hyper, rate, top_speed}
use Rattle.sched_model.specs.Priority.{stands_before}
use Rattle.sched_model.specs.AheadDemand.{slack, put_off, spread_rate, spread_rates, due_first}
use Rattle.sched_model.specs.Admission.{IsAdmitted}
use Rattle.sched_model.specs.States.{StateView}
use Rattle.sched_model.proofs.Orders.{before-self, sum_list, sum_list-in_order, IsOrdered, in_order-ordered, AreBelow, in_order-below, below-from, stands-in_order, first_ahead}
use Rattle.governor.specs.Steps.{wleft_at}
use Rattle.governor.specs.ServedSchedulers.{ServesEdf}
use Rattle.look_ahead_laws.specs.Ahead.{deadline_at, edf_order, ahead_demand}
use Rattle.look_ahead_laws.specs.SpreadEquations.{rates_before, rates_after, IsSpreadIn, HasSpread, IsDemandOfSpread, RatesFit}
use Rattle.sched_model.proofs.PutOffWork.{sum_after-suffix}
use Rattle.look_ahead_laws.proofs.AheadLaws.{each_rate}

module _ (plan : Plan) (s : StateView) where
  abbrev due : ℕ → ℕ
  due = deadline_at s

  abbrev left : ℕ → ℕ
  left = wleft_at s

  after_is : (f : ℕ → ℕ) (l xs : List ℕ) (i : ℕ) → edf_order plan s ≡ l ++ i ∷ xs
      → rates_after plan s f i ≡ sum_list f xs
  after_is f l xs i e = sum_after-suffix due f (count plan) i l xs e

  back_below : (l xs : List ℕ) → edf_order plan s ≡ l ++ xs → AreBelow (count plan) xs
  back_below l xs e = below-from (count plan) l xs (subst (AreBelow (count plan)) e (in_order-below due (count plan)))

  module _ (y v : ℕ → ℕ) (spread : IsSpreadIn plan s y v) where
    -- if the sum of the rates after a task is the definition's, the units that it puts off are the definition's
    put_same : (i after : ℕ) → i < count plan → rates_after plan s v i ≡ after → y i ≡ put_off plan due left after i
    put_same i after lt e = spread.put i lt ∙ ap (λ (a : ℕ). put_off plan due left a i) e

    rate_same : (i after : ℕ) → i < count plan → rates_after plan s v i ≡ after
        → v i ≡ spread_rate plan due left after i
    rate_same i after lt e = grind arith

    whole_rates : (l xs : List ℕ) → edf_order plan s ≡ l ++ xs → sum_list v xs ≡ spread_rates plan due left xs
    whole_rates l [] e = refl
    whole_rates l (i ∷ xs) e = grind (arith, back_below, after_is, whole_rates (l ++ i ∷ []) xs (e ∙ sym (append_assoc l (i ∷ []) xs)))

    whole_first : (l xs : List ℕ) → edf_order plan s ≡ l ++ xs
        → sum_list (λ i. left i - y i) xs ≡ due_first plan due left xs
    whole_first l [] e = refl
    whole_first l (i ∷ xs) e = grind (arith, append_assoc, back_below, after_is, whole_rates, whole_first (l ++ i ∷ []) xs)

    -- the demand's numerator is the sum of the units that are not put off
    whole_demand : (ahead_demand plan s).num ≡ sum_below (count plan) (λ i. left i - y i)
    whole_demand = sym (whole_first [] (edf_order plan s) refl) ∙ sum_list-in_order (λ i. left i - y i) due (count plan)

    -- the rate of each task, with those of the tasks after it and before it, is within the highest speed
    whole_rate : IsAdmitted plan → ServesEdf plan.scheduler → (i : ℕ) → i < count plan
        → v i + rates_after plan s v i + rates_before plan s i ≤ top_speed plan * hyper plan
    whole_rate adm serves i lt = grind (arith, stands-in_order due (count plan) i lt, each_rate, whole_rates, after_is)

  pub is_demand : IsDemandOfSpread plan s
  is_demand y v spread = whole_demand y v spread

  pub rates_are_within : IsAdmitted plan → ServesEdf plan.scheduler → RatesFit plan s
  rates_are_within adm serves y v spread = whole_rate y v spread adm serves

  -- a solution: the rate of each task at its place in the order
  abbrev rate_in : List ℕ → ℕ → ℕ
  rate_in [] i = 0
  rate_in (j ∷ later) i = if eqb j i then spread_rate plan due left (spread_rates plan due left later) j else rate_in later i

  abbrev put_in : List ℕ → ℕ → ℕ
  put_in [] i = 0
  put_in (j ∷ later) i = if eqb j i then put_off plan due left (spread_rates plan due left later) j else put_in later i

  self_eq : (i : ℕ) → eqb i i ≡ true
  self_eq i = grind (arith, nat_tests)

  before_ne : (j i : ℕ) → stands_before due j i ≡ true → eqb j i ≡ false
  before_ne j i h = ne_eqb j i (λ same. true≢false (sym (subst (λ (m : ℕ). stands_before due m i ≡ true) same h) ∙ before-self due i))

  rate_at_split : (l xs : List ℕ) (i : ℕ) → IsOrdered due (l ++ i ∷ xs)
      → rate_in (l ++ i ∷ xs) i ≡ spread_rate plan due left (spread_rates plan due left xs) i
  rate_at_split [] xs i o = rw (self_eq i) refl
  rate_at_split (j ∷ l) xs i o = rw (before_ne j i (first_ahead due j i l xs o.0)) (rate_at_split l xs i o.1)

  put_at_split : (l xs : List ℕ) (i : ℕ) → IsOrdered due (l ++ i ∷ xs)
      → put_in (l ++ i ∷ xs) i ≡ put_off plan due left (spread_rates plan due left xs) i
  put_at_split [] xs i o = rw (self_eq i) refl
  put_at_split (j ∷ l) xs i o = rw (before_ne j i (first_ahead due j i l xs o.0)) (put_at_split l xs i o.1)

  split_order : (l xs : List ℕ) → edf_order plan s ≡ l ++ xs → IsOrdered due (l ++ xs)
  split_order l xs e = subst (IsOrdered due) e (in_order-ordered due (count plan))

  rate_here : (l xs : List ℕ) (i : ℕ) → edf_order plan s ≡ l ++ i ∷ xs
      → rate_in (edf_order plan s) i ≡ spread_rate plan due left (spread_rates plan due left xs) i
  rate_here l xs i e = ap (λ (ys : List ℕ). rate_in ys i) e ∙ rate_at_split l xs i (split_order l (i ∷ xs) e)

  put_here : (l xs : List ℕ) (i : ℕ) → edf_order plan s ≡ l ++ i ∷ xs
      → put_in (edf_order plan s) i ≡ put_off plan due left (spread_rates plan due left xs) i
  put_here l xs i e = ap (λ (ys : List ℕ). put_in ys i) e ∙ put_at_split l xs i (split_order l (i ∷ xs) e)

  sum_here : (l xs : List ℕ) → edf_order plan s ≡ l ++ xs
      → sum_list (rate_in (edf_order plan s)) xs ≡ spread_rates plan due left xs
  sum_here l [] e = refl
  sum_here l (i ∷ xs) e = grind (arith, rate_here, sum_here (l ++ i ∷ []) xs (e ∙ sym (append_assoc l (i ∷ []) xs)))

  found_spread : IsSpreadIn plan s (put_in (edf_order plan s)) (rate_in (edf_order plan s))
  found_spread = record {
    put = λ i lt.
        let at = stands-in_order due (count plan) i lt in
        let later =
        after_is (rate_in (edf_order plan s)) at.0 at.1.0 i at.1.1 ∙ sum_here (at.0 ++ i ∷ []) at.1.0 (at.1.1 ∙ sym (append_assoc at.0 (i ∷ []) at.1.0)) in
        put_here at.0 at.1.0 i at.1.1 ∙ ap (λ (a : ℕ). put_off plan due left a i) (sym later);
    needs = λ i lt.
        let at = stands-in_order due (count plan) i lt in
        let late = slack plan due i in
        rate_here at.0 at.1.0 i at.1.1
        ∙ ap (λ (m : ℕ). if nat_eq late 0 then rate plan i else ceil_div (m * hyper plan) late)
        (sym (put_here at.0 at.1.0 i at.1.1));
  }

  pub has_spread : HasSpread plan s
  has_spread = (put_in (edf_order plan s), (rate_in (edf_order plan s), found_spread))
