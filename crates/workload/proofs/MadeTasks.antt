-- Drawn tasks are within the limits and have distinct names, the highest speed does their work, and drawn rows are in order,
-- each for a job of its own.
use Rattle.std.proofs.Common.{◌≡◌, ℕ, suc, ◌+◌, ◌*◌, arith, ap, add-one, ◌%◌, ◌<◌, ◌≤◌, ◌^◌, true, List, [], ◌∷◌, ◌++◌, length, drop, refl, ◌∙◌, nat_le, mod-lt, ◌/◌, false, ◌&&◌, ◌||◌, None, sym, nat_eq, nat_lt, zero, ◌-◌, subst, add-mul, mul-add, one-mul, rules, mul_assoc, mul_comm}
use Rattle.std.specs.List.{list_all, AllByRecursion, All}
use Rattle.std.specs.Fmt.{decimal}
use Rattle.std.proofs.lemmas.Bool.Decides.{nat_tests}
use Rattle.std.proofs.lemmas.Fmt.{decimal_by_steps, decimal_injective, length-decimal-le}
use Rattle.std.proofs.lemmas.List.Folds.{list_all-append}
use Rattle.std.proofs.Math.Nat.{mod-add-div, mul-div-le, mul-le-mul_left, mul-le-mul_right, le_of_mul-le-mul_left, div-lt_iff_lt-mul}
use Rattle.std.specs.Prelude.{slice_index}
use Rattle.std.proofs.lemmas.Nat.{le-div}
use Rattle.std.proofs.lemmas.List.Elements.{All-from_get_or, All-from_recursion}
use Rattle.dvs_base.specs.declared.limits.TheConstants.{MOST_TASKS, NAME_BYTES}
use Rattle.dvs_base.specs.Text.{is_name, is_name_byte}
use Rattle.grid_fraction.specs.Numbers.{list_below, sum_below, ceil_div}
use Rattle.grid_fraction.proofs.Sums.{list_below-more}
use Rattle.task_model.specs.declared.task.Task.{Task}
use Rattle.task_model.specs.DemandRows.{DemandRow, named_units}
use Rattle.demand_list.specs.Demands.{precedes, with_row}
use Rattle.grid_fraction.proofs.Tables.{each-below, length-list_below, get-table, map-table}
use Rattle.dvs_base.specs.declared.kind.Scheduler.{Scheduler}
use Rattle.dvs_base.specs.declared.kind.Scheduler.TheVariants.{Edf}
use Rattle.grid_fraction.specs.Fraction.{divides_all, least_common_multiple}
use Rattle.grid_fraction.proofs.Multiples.{divides_all-append, le-least_common_multiple}
use Rattle.task_model.specs.Tasks.{hyper_of, no_task, task_at, IsTask, IsTaskSet}
use Rattle.freq_table.specs.Tables.{Table}
use Rattle.sched_model.specs.Plan.{Plan, plan_of, period, offset, rate, hyper}
use Rattle.sched_model.specs.Jobs.{released_jobs}
use Rattle.sched_model.specs.Tests.{IsEdfFeasible}
use Rattle.workload.specs.Draws.{next_state, draw_of, state_after, draw}
use Rattle.workload.specs.Workload.{task_by, made_task, made_name, made_row, periods, share_of, made_tasks, made_machine}

pub one-draw : (x n : ℕ) → state_after x (n + 1) ≡ next_state (state_after x n)
one-draw x n = ap (state_after x) (add-one n)

pub two-draws : (x n : ℕ) → state_after x (2 * (n + 1)) ≡ next_state (next_state (state_after x (2 * n)))
two-draws x n = let e : 2 * (n + 1) ≡ suc (suc (2 * n)) = omega arith in ap (state_after x) e

-- a drawn task, by the state before its two draws
pub made_task-drawn : (x n i : ℕ) → made_task x n i
    ≡ task_by n i (draw_of (next_state (state_after x (2 * i)))) (draw_of (next_state (next_state (state_after x (2 * i)))))
made_task-drawn x n i = ap (λ k. task_by n i (draw x (2 * i)) (draw x k)) (add-one (2 * i))

digit-byte : (n : ℕ) → n < 10 → is_name_byte (48 + n) ≡ true
digit-byte n lt =
    let low : nat_le 48 (48 + n) ≡ true = grind (arith, nat_tests) in
    let high : nat_le (48 + n) 57 ≡ true = grind (arith, nat_tests) in
    rw (low, high) refl

digits-named : (n : ℕ) → n < 2 ^ 64 → list_all is_name_byte (decimal n) ≡ true
digits-named = decimal_by_steps (λ n ds. list_all is_name_byte ds ≡ true) one more
  where
    one : (n : ℕ) → n < 10 → list_all is_name_byte ((48 + n) ∷ []) ≡ true
    one n lt = rw (digit-byte n lt) refl

    more : (n : ℕ) (ds : List ℕ) → 10 ≤ n → list_all is_name_byte ds ≡ true → list_all is_name_byte (ds ++ (48 + n % 10) ∷ []) ≡ true
    more n ds le h = list_all-append is_name_byte ds ((48 + n % 10) ∷ []) ∙ rw (h, digit-byte (n % 10) (mod-lt n (omega arith))) refl

pub length-decimal : (i : ℕ) → i < MOST_TASKS → length (decimal (i + 1)) ≤ 2
length-decimal i lt = length-decimal-le 2 (i + 1) (omega arith) (omega arith) (omega arith)

pub made_name-is : (i : ℕ) → i < MOST_TASKS → is_name (made_name i) ≡ true
made_name-is i lt =
    let short = length-decimal i lt in
    let some : nat_le 1 (length (made_name i)) ≡ true = grind (arith, nat_tests) in
    let few : nat_le (length (made_name i)) NAME_BYTES ≡ true = grind (arith, nat_tests) in
    rw (some, few, digits-named (i + 1) (omega arith)) refl

pub made_name-same : (i j : ℕ) → i < MOST_TASKS → j < MOST_TASKS → made_name i ≡ made_name j → i ≡ j
made_name-same i j li lj e =
    let same : i + 1 ≡ j + 1 = decimal_injective (i + 1) (j + 1) (omega arith) (omega arith) (ap (drop 1) e) in
    omega (arith, same)

-- rows for other jobs give no units for this one
others-name_none : (i k : ℕ) (rows : List DemandRow)
    → AllByRecursion (λ (s : DemandRow). (nat_eq s.task i && nat_eq s.job k) ≡ false) rows → named_units rows i k ≡ None
others-name_none i k [] each = refl
others-name_none i k (s ∷ rows) each = rw each.0 (others-name_none i k rows each.1)

-- a row that comes before none of the rows is added at the end
with_row-last : (r : DemandRow) (rows : List DemandRow) → AllByRecursion (λ (s : DemandRow). precedes r s ≡ false) rows → with_row rows r ≡ rows ++ r ∷ []
with_row-last r [] each = refl
with_row-last r (s ∷ rows) each = rw each.0 (ap (λ rest. s ∷ rest) (with_row-last r rows each.1))

-- two numbers differ in their quotient or their remainder by 4
apart : (s r : ℕ) → s < r → (nat_eq (s / 4) (r / 4) && nat_eq (s % 4 + 1) (r % 4 + 1)) ≡ false
apart s r lt = grind (arith, nat_tests, lt, mod-add-div s 4, mod-add-div r 4)

in-order : (s r : ℕ) → s < r → (nat_lt (r / 4) (s / 4) || nat_eq (r / 4) (s / 4) && nat_lt (r % 4 + 1) (s % 4 + 1)) ≡ false
in-order s r lt =
    let low : r % 4 < 4 = mod-lt r (omega arith) in
    grind (arith, nat_tests, lt, low, mod-add-div s 4, mod-add-div r 4)

module _ (tasks : List Task) (x : ℕ) where
  -- the job of row r has no row before it
  pub made_row-free : (r : ℕ) → named_units (list_below r (made_row tasks x)) (r / 4) (r % 4 + 1) ≡ None
  made_row-free r = others-name_none (r / 4) (r % 4 + 1) (list_below r (made_row tasks x)) (each-below _ r (made_row tasks x) (λ s lt. apart s r lt))

  -- row r is added at the end of those before it
  pub made_row-last : (r : ℕ) → with_row (list_below r (made_row tasks x)) (made_row tasks x r) ≡ list_below (r + 1) (made_row tasks x)
  made_row-last r =
      with_row-last (made_row tasks x r) (list_below r (made_row tasks x)) (each-below _ r (made_row tasks x) (λ s lt. in-order s r lt))
      ∙ sym (list_below-more r (made_row tasks x))

-- the properties of the eight periods: they are 20 to 250 and divide 1000
pub record IsPeriod (n : ℕ) : Type 0 where
  pub low : 20 ≤ n
  pub high : n ≤ 250
  pub divides : nat_eq (1000 % n) 0 ≡ true

is_period : (k : ℕ) → IsPeriod (slice_index periods (k % 8))
is_period k = All-from_recursion IsPeriod periods all (k % 8) 0 (mod-lt k (omega arith))
  where
    all : AllByRecursion IsPeriod periods
    all = search rules

-- if n times each of m terms is at most a bound, n times their sum is at most m times the bound
share-sum : (n m bound : ℕ) (f : ℕ → ℕ) → ((i : ℕ) → i < m → n * f i ≤ bound) → n * sum_below m f ≤ m * bound
share-sum n zero bound f each = omega arith
share-sum n (suc m) bound f each =
    let before : n * sum_below m f ≤ m * bound = share-sum n m bound f (λ i lt. each i (omega arith)) in
    let last : n * f m ≤ bound = each m (omega arith) in
    omega (arith, before, last, mul-add n (sum_below m f) (f m), add-one m, ap (λ k. k * bound) (add-one m), add-mul m 1 bound, one-mul bound)

-- a task's share is at least one unit
pub share-some : (n period : ℕ) → 1 ≤ n → n ≤ MOST_TASKS → 20 ≤ period → 1 ≤ share_of n period
share-some n period some few low = le-div 1 (1000 * period) n some (omega arith)

within-share : (n period second : ℕ) → 1 ≤ n → n ≤ MOST_TASKS → 20 ≤ period → n * (1 + second % share_of n period) ≤ 1000 * period
within-share n period second some few low =
    let rest : second % share_of n period < share_of n period = mod-lt second (share-some n period some few low) in
    let whole : n * share_of n period ≤ 1000 * period = mul-div-le (1000 * period) n in
    let part : n * (1 + second % share_of n period) ≤ n * share_of n period = mul-le-mul_left n (omega (arith, rest)) in
    omega (arith, whole, part)

-- if n * worst is at most 1000 * period, n times the work of `all` ticks is at most 1000 * all
within-rate : (n worst period all : ℕ) → n * worst ≤ 1000 * period → n * (worst * (all / period)) ≤ 1000 * all
within-rate n worst period all fits =
    let q : ℕ = all / period in
    let work : n * worst * q ≤ 1000 * period * q = mul-le-mul_right q fits in
    let ticks : period * q ≤ all = mul-div-le all period in
    omega (arith, work, ticks, mul_assoc n worst q, mul_assoc 1000 period q)

module _ (x n : ℕ) (some : 1 ≤ n) (few : n ≤ MOST_TASKS) where
  abbrev tasks : List Task
  tasks = made_tasks x n

  long : length tasks ≡ n
  long = length-list_below n (made_task x n)

  task-is : (i : ℕ) → i < n → task_at tasks i ≡ made_task x n i
  task-is i lt = get-table n (made_task x n) i no_task lt

  pub period-is : (i : ℕ) → IsPeriod ((made_task x n i).period)
  period-is i = is_period (draw x (2 * i))

  pub worst-fits : (i : ℕ) → n * (made_task x n i).worst ≤ 1000 * (made_task x n i).period
  worst-fits i = within-share n ((made_task x n i).period) (draw x (2 * i + 1)) some few (period-is i).low

  worst-low : (i : ℕ) → (made_task x n i).worst ≤ 250000
  worst-low i =
      let most : 1 * (made_task x n i).worst ≤ n * (made_task x n i).worst = mul-le-mul_right ((made_task x n i).worst) some in
      omega (arith, most, worst-fits i, (period-is i).high)

  made_task-is : (i : ℕ) → i < n → IsTask (made_task x n i)
  made_task-is i lt = record {
    name = made_name-is i (omega (arith, lt, few));
    some_period = omega (arith, (period-is i).low);
    low_period = omega (arith, (period-is i).high);
    some_worst = omega arith;
    low_worst = omega (arith, worst-low i);
    low_offset = omega arith;
  }

  -- each drawn period divides 1000
  all-divide : (m : ℕ) → divides_all (list_below m (λ i. (made_task x n i).period)) 1000 ≡ true
  all-divide zero = refl
  all-divide (suc m) =
      divides_all-append (list_below m (λ i. (made_task x n i).period)) ((made_task x n m).period ∷ []) 1000
      ∙ rw (all-divide m, (period-is m).divides) refl

  some-periods : All (λ k. 0 < k) (list_below n (λ i. (made_task x n i).period))
  some-periods =
      let f : ℕ → ℕ = λ i. (made_task x n i).period in
      All-from_get_or (λ k. 0 < k) (list_below n f) 0
      (λ i lt. subst (λ k. 0 < k) (sym (get-table n f i 0 (omega (arith, lt, length-list_below n f)))) (omega (arith, (period-is i).low)))

  low-hyper : hyper_of tasks ≤ 1000
  low-hyper =
      subst (λ ns. least_common_multiple ns ≤ 1000) (sym (map-table n (made_task x n) (λ (t : Task). t.period)))
      (le-least_common_multiple (list_below n (λ i. (made_task x n i).period)) 1000 some-periods (omega arith) (all-divide n))

  pub made_tasks-are : IsTaskSet tasks
  made_tasks-are = record {
    some = omega (arith, long, some);
    few = omega (arith, long, few);
    each = λ i lt. subst IsTask (sym (task-is i (omega (arith, lt, long)))) (made_task-is i (omega (arith, lt, long)));
    distinct = λ i j lt lj same.
        let li : i < n = omega (arith, lt, lj, long) in
        let here : j < n = omega (arith, lj, long) in
        let names = ap (λ (t : Task). t.name) (sym (task-is i li)) ∙ (same ∙ ap (λ (t : Task). t.name) (task-is j here)) in
        absurd (omega (arith, lt, made_name-same i j (omega (arith, li, few)) (omega (arith, here, few)) names));
    hyper = omega (arith, low-hyper);
  }

  pub made_tasks-feasible : IsEdfFeasible (plan_of tasks made_machine Edf)
  made_tasks-feasible =
      let p : Plan = plan_of tasks made_machine Edf in
      let sum : n * sum_below n (rate p) ≤ n * (1000 * hyper p) = share-sum n n (1000 * hyper p) (rate p) (λ i lt. each i lt) in
      subst (λ m. sum_below m (rate p) ≤ 1000 * hyper p) (sym long) (le_of_mul-le-mul_left sum some)
    where
      each : (i : ℕ) → i < n → n * rate (plan_of tasks made_machine Edf) i ≤ 1000 * hyper_of tasks
      each i lt =
          subst (λ (t : Task). n * ((t.worst + 0) * (hyper_of tasks / t.period)) ≤ 1000 * hyper_of tasks) (sym (task-is i lt))
          (within-rate n ((made_task x n i).worst + 0) ((made_task x n i).period) (hyper_of tasks) (omega (arith, worst-fits i)))

  -- the released jobs are few: of each task at most one more than one for every 20 ticks
  pub few-released : (machine : Table) (scheduler : Scheduler) (ticks : ℕ)
      → released_jobs (plan_of tasks machine scheduler) ticks ≤ n * (ticks / 20 + 1)
  few-released machine scheduler ticks =
      let p : Plan = plan_of tasks machine scheduler in
      let f : ℕ → ℕ = λ i. ceil_div (ticks - offset p i) (period p i) in
      let all : 1 * sum_below n f ≤ n * (ticks / 20 + 1) = share-sum 1 n (ticks / 20 + 1) f (λ i lt. omega (arith, each i lt)) in
      subst (λ m. sum_below m f ≤ n * (ticks / 20 + 1)) (sym long) (omega (arith, all))
    where
      most : (d a : ℕ) → 20 ≤ d → a ≤ ticks → ceil_div a d ≤ ticks / 20 + 1
      most d a low le =
          let pos : 0 < d = omega (arith, low) in
          let more : 20 * (ticks / 20 + 1) ≤ d * (ticks / 20 + 1) = mul-le-mul_right (ticks / 20 + 1) low in
          let below : a + (d - 1) < (ticks / 20 + 1 + 1) * d =
          omega (arith, le, pos, more, add-mul (ticks / 20 + 1) 1 d, one-mul d, mul_comm d (ticks / 20 + 1)) in
          let lt : ceil_div a d < ticks / 20 + 1 + 1 = (div-lt_iff_lt-mul pos).1 below in
          omega (arith, lt)

      each : (i : ℕ) → i < n → ceil_div (ticks - offset (plan_of tasks machine scheduler) i) (period (plan_of tasks machine scheduler) i) ≤ ticks / 20 + 1
      each i lt =
          subst (λ (t : Task). ceil_div (ticks - t.offset) t.period ≤ ticks / 20 + 1) (sym (task-is i lt))
          (most ((made_task x n i).period) (ticks - 0) (period-is i).low (omega arith))
