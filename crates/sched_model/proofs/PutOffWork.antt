-- What is put off fits into the time after the earliest deadline: its rates suffice, and the highest speed has room.
use Rattle.std.proofs.Common.{◌≡◌, ℕ, ◌≤◌, true, List, [], ◌∷◌, ◌++◌, refl, arith, if◌then◌else◌, ◌∙◌, sym, subst, zero, suc, ◌+◌, ◌-◌, ◌*◌, ◌<◌, min, Bool, false, append_assoc, ◌/◌, nat_eq, nat_le, mul-zero}
use Rattle.std.proofs.lemmas.Bool.Decides.{nat_tests}
use Rattle.std.proofs.lemmas.Bool.{eqb-false}
use Rattle.sched_model.specs.Priority.{stands_before, in_order, sum_before}
use Rattle.sched_model.proofs.Orders.{before-self, before-not, sum_list, IsAhead, IsOrdered, first_ahead, sum_list-in_order, in_order-ordered, AreBelow, sum_before-prefix, sum_list-snoc}
use Rattle.sched_model.specs.AheadDemand.{sum_after, first_due, slack, put_off, spread_rate, spread_rates, due_first}
use Rattle.grid_fraction.proofs.Least.{least-below}
use Rattle.sched_model.specs.Plan.{Plan, count, hyper, rate, top_speed}

-- a task has a key at least that of each task before it
pub key_rises : (key : ℕ → ℕ) (i j : ℕ) → stands_before key i j ≡ true → key i ≤ key j
key_rises key i j h = grind (arith, nat_tests)

-- in an ordered list, the sum over the numbers that come after i is the sum over the part after i
all_after : (key f : ℕ → ℕ) (i : ℕ) (js : List ℕ) → IsAhead key i js
    → sum_list (λ k. if stands_before key i k then f k else 0) js ≡ sum_list f js
all_after key f i [] a = refl
all_after key f i (j ∷ js) a = rw a.0 (omega (arith, all_after key f i js a.1))

ordered-rest : (key f : ℕ → ℕ) (i : ℕ) (pre post : List ℕ) → IsOrdered key (pre ++ i ∷ post)
    → sum_list (λ k. if stands_before key i k then f k else 0) (pre ++ i ∷ post) ≡ sum_list f post
ordered-rest key f i [] post o = rw (before-self key i) (omega (arith, all_after key f i post o.0))
ordered-rest key f i (j ∷ pre) post o =
    rw (before-not key j i (first_ahead key j i pre post o.0)) (omega (arith, ordered-rest key f i pre post o.1))

pub sum_after-suffix : (key f : ℕ → ℕ) (n i : ℕ) (pre post : List ℕ) → in_order key n ≡ pre ++ i ∷ post
    → sum_after n key f i ≡ sum_list f post
sum_after-suffix key f n i pre post e =
    grind (arith, sum_list-in_order, ordered-rest key f i pre post (subst (IsOrdered key) e (in_order-ordered key n)))

-- ONE TASK, over plain numbers: y is put off, and v is its rate

-- y units, at most g * l / h rounded down, need over l ticks a rate of at most g, rounded up
pub spread_within : (g l h y : ℕ) → 0 < h → 0 < l → y ≤ g * l / h → (y * h + (l - 1)) / l ≤ g
spread_within g l h y ph pl le = grind arith

-- the rate of y units over l ticks, rounded up, suffices for them
spread_enough : (l h y : ℕ) → 0 < l → h * y ≤ (y * h + (l - 1)) / l * l
spread_enough l h y pl = grind arith

some_slack : (l : ℕ) → nat_eq l 0 ≡ false → 0 < l
some_slack l h = omega (arith, eqb-false l 0 h)

-- with the rate of one more task the rates are still within the highest speed
step_within : (b : Bool) (u w l h pre after most : ℕ) → 0 < h → (b ≡ false → 0 < l) → pre + u + after ≤ most
    → pre + (if b then u else ((if b then 0 else min w ((most - pre - after) * l / h)) * h + (l - 1)) / l) + after ≤ most
step_within true u w l h pre after most ph pl fits = fits
step_within false u w l h pre after most ph pl fits = grind (arith, spread_within)

-- a task puts off no more than it needs
put_most : (b : Bool) (w g : ℕ) → (if b then 0 else min w g) ≤ w
put_most true w g = omega arith
put_most false w g = omega arith

-- the rate of a task suffices for what it puts off
put_fits : (b : Bool) (u w g l h : ℕ) → (b ≡ false → 0 < l)
    → h * (if b then 0 else min w g) ≤ (if b then u else ((if b then 0 else min w g) * h + (l - 1)) / l) * l
put_fits true u w g l h pl = omega (arith, mul-zero h)
put_fits false u w g l h pl = spread_enough l h (min w g) (pl refl)

-- the work of one task due by d is run before the earliest deadline or done by its rates after it
term_pays : (h a end d w y u v : ℕ) → a ≤ end → y ≤ w → h * y ≤ v * (end - a)
    → (if nat_le end d then h * w + u * (d - end) else 0) ≤ h * (w - y) + (v * min (d - a) (end - a) + u * ((d - a) - (end - a)))
term_pays h a end d w y u v la le fits = grind arith

-- one tick more adds a task's rate then in force to what it has worked off
work_row : (v u l x : ℕ)
    → v * min (suc x) l + u * (suc x - l) ≡ (v * min x l + u * (x - l)) + (if nat_le l x then u else v)
work_row v u l x = grind arith

-- THE TASKS IN ORDER

module _ (plan : Plan) (due left : ℕ → ℕ) where
  -- the sum of the rates in force x ticks after the earliest deadline
  abbrev past_rate : ℕ → List ℕ → ℕ
  past_rate x [] = 0
  past_rate x (i ∷ later) =
      (if nat_le (slack plan due i) x then rate plan i else spread_rate plan due left (spread_rates plan due left later) i) + past_rate x later

  -- the work that the tasks of a list do in x ticks after the earliest deadline
  abbrev work : ℕ → List ℕ → ℕ
  work x [] = 0
  work x (i ∷ later) =
      (spread_rate plan due left (spread_rates plan due left later) i * min x (slack plan due i) + rate plan i * (x - slack plan due i)) + work x later

  -- the work of task i that is due by d, with its rate from its deadline on
  abbrev pub due_work : ℕ → ℕ → ℕ
  due_work d i = if nat_le (due i) d then hyper plan * left i + rate plan i * (d - due i) else 0

  work_zero : (xs : List ℕ) → work 0 xs ≡ 0
  work_zero [] = refl
  work_zero (i ∷ xs) = grind (arith, mul-zero, work_zero xs)

  work_more : (x : ℕ) (xs : List ℕ) → work (suc x) xs ≡ work x xs + past_rate x xs
  work_more x [] = refl
  work_more x (i ∷ xs) =
      omega (arith, work_more x xs, work_row (spread_rate plan due left (spread_rates plan due left xs) i) (rate plan i) (slack plan due i) x)

  -- if the slack of task i is above x, all tasks after it have their spread rates at x
  all_spread : (x i : ℕ) (xs : List ℕ) → x < slack plan due i → IsAhead due i xs
      → past_rate x xs ≡ spread_rates plan due left xs
  all_spread x i [] lt ahead = refl
  all_spread x i (j ∷ js) lt ahead = grind (arith, all_spread x i js lt ahead.1)

  -- the work due by d is run before the earliest deadline or worked off after it
  pub all_paid : (d : ℕ) (xs : List ℕ) → AreBelow (count plan) xs
      → sum_list (due_work d) xs ≤ hyper plan * due_first plan due left xs + work (d - first_due plan due) xs
  all_paid d [] below = omega arith
  all_paid d (i ∷ xs) below =
      let b = nat_eq (slack plan due i) 0 in
      let after = spread_rates plan due left xs in
      let g = ((top_speed plan * hyper plan) - sum_before (count plan) due (rate plan) i - after) * slack plan due i / hyper plan in
      let late = slack plan due i in
      let fits = put_fits b (rate plan i) (left i) g late (hyper plan) (some_slack late) in
      let one =
      term_pays (hyper plan) (first_due plan due) (due i) d (left i) (put_off plan due left after i) (rate plan i)
      (spread_rate plan due left after i) (least-below (count plan) due i below.0) (put_most b (left i) g) fits in
      omega (arith, one, all_paid d xs below.1)

  pub before_is : (l xs : List ℕ) (i : ℕ) → in_order due (count plan) ≡ l ++ i ∷ xs
      → sum_before (count plan) due (rate plan) i ≡ sum_list (rate plan) l
  before_is l xs i e = sum_before-prefix due (rate plan) (count plan) i l xs e

  -- the rates of the first tasks and the spread rates of the others fit together at the highest speed
  pub rate_within : (l xs : List ℕ) → in_order due (count plan) ≡ l ++ xs → 0 < hyper plan
      → sum_list (rate plan) l + sum_list (rate plan) xs ≤ top_speed plan * hyper plan
      → sum_list (rate plan) l + spread_rates plan due left xs ≤ top_speed plan * hyper plan
  rate_within l [] e ph fits = fits
  rate_within l (i ∷ xs) e ph fits =
      grind (arith, sum_list-snoc, before_is, step_within, rate_within (l ++ i ∷ []) xs (e ∙ sym (append_assoc l (i ∷ []) xs)) ph)

  past_within : (x : ℕ) (l xs : List ℕ) → in_order due (count plan) ≡ l ++ xs → IsOrdered due xs → 0 < hyper plan
      → sum_list (rate plan) l + sum_list (rate plan) xs ≤ top_speed plan * hyper plan
      → sum_list (rate plan) l + past_rate x xs ≤ top_speed plan * hyper plan
  past_within x l [] e order ph fits = fits
  past_within x l (i ∷ xs) e order ph fits =
      grind (arith, all_spread, rate_within, sum_list-snoc, past_within x (l ++ i ∷ []) xs (e ∙ sym (append_assoc l (i ∷ []) xs)) order.1 ph)

  pub work_within : (x : ℕ) → 0 < hyper plan
      → sum_list (rate plan) (in_order due (count plan)) ≤ top_speed plan * hyper plan
      → work x (in_order due (count plan)) ≤ top_speed plan * hyper plan * x
  work_within zero ph fits = omega (arith, work_zero (in_order due (count plan)))
  work_within (suc x) ph fits =
      let past = past_within x [] (in_order due (count plan)) refl (in_order-ordered due (count plan)) ph (omega (arith, fits)) in
      omega (arith, work_more x (in_order due (count plan)), work_within x ph fits, past)
