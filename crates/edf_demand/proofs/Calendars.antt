-- The next deadlines of the tasks in a queue: with one more entry, with the first entry put later, and with those of a tick
-- taken one after the other.
use Rattle.std.proofs.Common.{◌≡◌, inl, ℕ, ◌+◌, ◌*◌, ◌<◌, ◌≤◌, arith, ◌≢◌, Bool, true, false, nat_eq, refl, sym, ap, subst, ◌∙◌, if◌then◌else◌, List, [], ◌∷◌, Some, None, slice_get, ◌⊎◌, ◌^◌}
use Rattle.dvs_base.specs.declared.limits.TheConstants.{MOST_TASKS}
use Rattle.std.proofs.Math.Nat.{mul-le-mul_right}
use Rattle.std.proofs.lemmas.Bool.{cases_lt, eq-eqb, eqb-true, eqb-false}
use Rattle.std.specs.List.{AllByRecursion}
use Rattle.std.proofs.lemmas.Bool.Decides.{nat_tests}
use Rattle.edf_demand_laws.specs.ProcessorDemand.{jobs_due}
use Rattle.edf_demand_laws.proofs.JobsDue.{jobs_due-above, jobs_due-below, jobs_due-most}
use Rattle.grid_fraction.specs.Numbers.{least_below, sum_below, sum_where}
use Rattle.grid_fraction.proofs.Least.{least-below, least-above}
use Rattle.sched_model.specs.Plan.{Plan, count, period, worst}
use Rattle.ready_queue.specs.declared.entry.Entry.{Entry}
use Rattle.ready_queue.specs.Orders.{due_before}
use Rattle.ready_queue.specs.Entries.{QueueView, IsAbsent, with_entry, ComesFirst}
use Rattle.ready_queue.proofs.EntryOrder.{placed-All}
use Rattle.grid_fraction.proofs.Sums.{sum_below-limit, sum_below-same, sum_below-add, sum_below-own, sum_below-zero, sum_where-le}
use Rattle.sched_model.specs.Admission.{IsWithinLimits}
use Rattle.sched_model.proofs.Limits.{some_task, every_period, low_worst}
use Rattle.edf_demand.specs.Walk.{due_of, IsCalendar, TakesFirst, Moved}

module _ (every within : ℕ) (some : 0 < every) where
  abbrev count_by : ℕ → ℕ
  count_by t = jobs_due every within t

  pub products : (a b : ℕ) → a * every < b * every → a < b
  products a b lt = grind (arith, nat_tests, cases_lt, mul-le-mul_right)

  -- the next absolute deadline after tick t is later than t
  pub next-later : (t : ℕ) → t < within + count_by t * every
  next-later t = grind (arith, nat_tests, cases_lt, jobs_due-above)

  -- at the next absolute deadline one more job is due
  pub due-now : (t now : ℕ) → within + count_by t * every ≡ now → count_by now ≡ count_by t + 1
  due-now t now e =
      let m = count_by t in
      let up : m < count_by now = jobs_due-above every within now m some (omega arith) in
      let down : count_by now ≤ m + 1 =
      jobs_due-most every within now (m + 1) (λ r le. products r (m + 1) (omega arith)) in
      omega (arith, up, down)

  -- before the next absolute deadline no more jobs are due
  pub due-later : (t now : ℕ) → t ≤ now → now < within + count_by t * every → count_by now ≡ count_by t
  due-later t now from lt = grind (arith, nat_tests, jobs_due-above, jobs_due-below, jobs_due-most, products)

-- an entry of a task that wasn't in the list adds only that task's deadline
pub due_of-placed : (before : Entry → Entry → Bool) (e : Entry) (xs : List Entry) (i : ℕ) → IsAbsent e.task xs
    → due_of (with_entry before e xs) i ≡ (if nat_eq i e.task then e.due else due_of xs i)
due_of-placed before e [] i a = refl
due_of-placed before e (x ∷ xs) i a = grind (arith, nat_tests, due_of-placed before e xs i a.1, a.0)

due-order : (e x : Entry) → due_before e x ≡ true → e.due ≤ x.due
due-order e x b = grind (arith, nat_tests)

-- if an entry comes before all others of a list, its deadline is at most theirs
others-later : (e : Entry) (xs : List Entry) (i : ℕ)
    → AllByRecursion (λ x. x.task ≢ e.task → due_before e x ≡ true) xs → i ≢ e.task → 1 ≤ due_of xs i
    → e.due ≤ due_of xs i
others-later e [] i a ne some = absurd (omega arith)
others-later e (x ∷ xs) i a ne some = grind (arith, nat_tests, others-later e xs i a.1 ne, a.0, due-order e x)

pub front : (xs : List Entry) (e : Entry) → Some e ≡ slice_get xs 0 → (rest : List Entry) × (xs ≡ e ∷ rest)
front [] e is = absurd (cc)
front (x ∷ xs) e is = (xs, cc)

pub no-front : (q : QueueView) → IsCalendar q → q.entries ≡ [] → ⊥
no-front q c is = grind (arith, nat_tests)

pub none-front : (xs : List Entry) → None ≡ slice_get xs 0 → xs ≡ []
none-front [] is = refl
none-front (x ∷ xs) is = absurd (cc)

-- the first entry of a queue
module _ (q : QueueView) (c : IsCalendar q) (e : Entry) (rest : List Entry) (is : q.entries ≡ e ∷ rest)
    (first : ComesFirst due_before e q.entries) where
  due-was : (i : ℕ) → due_of q.entries i ≡ (if nat_eq i e.task then e.due else due_of rest i)
  due-was i = ap (λ (xs : List Entry). due_of xs i) is

  pub first-due : due_of q.entries e.task ≡ e.due
  first-due =
      due-was e.task ∙ ap (λ (b : Bool). if b then e.due else due_of rest e.task) (eq-eqb e.task e.task refl)

  pub first-below : e.task < q.limit
  first-below = grind (arith, nat_tests)

  first-least : (i : ℕ) → i < q.limit → e.due ≤ due_of q.entries i
  first-least i lt = go (nat_eq i e.task) refl
    where
      go : (b : Bool) → nat_eq i e.task ≡ b → e.due ≤ due_of q.entries i
      go true same =
          let here : due_of q.entries i ≡ due_of q.entries e.task = ap (due_of q.entries) (eqb-true i e.task same) in
          omega (arith, here, first-due)
      go false other =
          let there : due_of q.entries i ≡ due_of rest i =
          due-was i ∙ ap (λ (b : Bool). if b then e.due else due_of rest i) other in
          let all : AllByRecursion (λ x. x.task ≢ e.task → due_before e x ≡ true) (e ∷ rest) =
          subst (AllByRecursion (λ x. x.task ≢ e.task → due_before e x ≡ true)) is first.others in
          let later = others-later e rest i all.1 (eqb-false i e.task other) (omega (arith, c.each i lt, there)) in
          omega (arith, later, there)

  -- the first entry is due at the earliest of the next deadlines
  pub first-earliest : e.due ≡ least_below q.limit (due_of q.entries)
  first-earliest =
      let low = least-below q.limit (due_of q.entries) e.task first-below in
      let high = least-above q.limit (due_of q.entries) e.due c.some first-least in
      omega (arith, low, high, first-due)

  -- the first entry's task is put back with its next deadline a period later
  module _ (every : ℕ) (after : QueueView) (out : IsAbsent e.task rest) (kept : after.limit ≡ q.limit)
      (put : after.entries ≡ with_entry due_before (record { task = e.task; due = e.due + every; period = every }) rest) where
    due-put : (i : ℕ) → due_of after.entries i ≡ (if nat_eq i e.task then e.due + every else due_of rest i)
    due-put i = grind (arith, nat_tests, due_of-placed)

    later : (i : ℕ) → due_of after.entries i
        ≡ (if nat_eq i e.task then due_of q.entries e.task + every else due_of q.entries i)
    later i = grind (arith, nat_tests, due-put i, due-was i, first-due)

    pub put-calendar : IsCalendar after
    put-calendar = record {
      some = omega (arith, kept, c.some);
      below =
          let all : AllByRecursion (λ x. x.task < q.limit) (e ∷ rest) =
          subst (AllByRecursion (λ x. x.task < q.limit)) is c.below in
          subst (AllByRecursion (λ x. x.task < after.limit)) (sym put)
          (subst (λ (n : ℕ). AllByRecursion (λ x. x.task < n)
          (with_entry due_before (record { task = e.task; due = e.due + every; period = every }) rest)) (sym kept)
          (placed-All due_before (λ x. x.task < q.limit) (record { task = e.task; due = e.due + every; period = every })
          rest all.0 all.1));
      each = λ i lt. go i (omega (arith, lt, kept)) (nat_eq i e.task) (later i);
    }
      where
        go : (i : ℕ) → i < q.limit → (b : Bool)
            → due_of after.entries i ≡ (if b then due_of q.entries e.task + every else due_of q.entries i)
            → 1 ≤ due_of after.entries i
        go i lt true is = omega (arith, is, c.each e.task first-below)
        go i lt false is = omega (arith, is, c.each i lt)

    pub takes-first : (p : Plan) (work : ℕ) → q.limit ≡ count p → every ≡ period p e.task → work ≡ worst p e.task
        → TakesFirst p (due_of q.entries) (due_of after.entries) work
    takes-first p work long every_is work_is = grind (arith, nat_tests, first-below, first-due, first-earliest, later)

-- a task with a number above those in the list is not in it
pub next-absent : (m : ℕ) (xs : List Entry) → AllByRecursion (λ e. e.task < m) xs → IsAbsent m xs
next-absent m [] a = tt
next-absent m (x ∷ xs) a = (λ same. omega (arith, a.0, same), next-absent m xs a.1)

pub raised : (m n : ℕ) (xs : List Entry) → m ≤ n → AllByRecursion (λ e. e.task < m) xs
    → AllByRecursion (λ e. e.task < n) xs
raised m n [] le a = tt
raised m n (x ∷ xs) le a = (omega (arith, a.0), raised m n xs le a.1)

module _ (m due every : ℕ) (f : ℕ → ℕ) (xs ys : List Entry) (below : AllByRecursion (λ e. e.task < m) xs)
    (put : ys ≡ with_entry due_before (record { task = m; due = due; period = every }) xs) where
  pub more-below : AllByRecursion (λ e. e.task < m + 1) ys
  more-below =
      subst (AllByRecursion (λ e. e.task < m + 1)) (sym put)
      (placed-All due_before (λ e. e.task < m + 1) (record { task = m; due = due; period = every }) xs (omega arith)
      (raised m (m + 1) xs (omega arith) below))

  pub more-due : due ≡ f m → ((i : ℕ) → i < m → due_of xs i ≡ f i) → (i : ℕ) → i < m + 1 → due_of ys i ≡ f i
  more-due here before i lt = grind (arith, nat_tests, due_of-placed, next-absent)

-- a queue with an entry for each task is a calendar
pub all-in : (m n : ℕ) (f : ℕ → ℕ) (q : QueueView) → 1 ≤ n → n ≤ m → m ≤ n → q.limit ≡ n
    → AllByRecursion (λ e. e.task < m) q.entries → ((i : ℕ) → i < m → due_of q.entries i ≡ f i)
    → ((i : ℕ) → i < n → 1 ≤ f i) → IsCalendar q
all-in m n f q one from to long below due some = grind (arith, nat_tests, raised)

-- the work of the tasks whose next deadline is `now`
abbrev pub due_at : Plan → (ℕ → ℕ) → ℕ → ℕ
due_at p next now = sum_where (count p) (λ i. nat_eq (next i) now) (worst p)

-- some of the tasks that were due at `now` have their next deadline a period later, and `work` is their work
pub record Taken (p : Plan) (old next : ℕ → ℕ) (now work : ℕ) : Type 0 where
  pub past : (i : ℕ) → i < count p → now ≤ next i
  pub each : (i : ℕ) → i < count p → (next i ≡ old i) ⊎ ((old i ≡ now) × (next i ≡ now + period p i))
  pub work_is : work + due_at p next now ≡ due_at p old now

pub taken-start : (p : Plan) (next : ℕ → ℕ) (now : ℕ) → now ≡ least_below (count p) next → Taken p next next now 0
taken-start p next now is = record {
  past = λ i lt. omega (arith, is, least-below (count p) next i lt);
  each = λ i lt. inl refl;
  work_is = omega arith;
}

not-due : (a now : ℕ) → now < a → nat_eq a now ≡ false
not-due a now later = grind (arith, nat_tests)

module _ (p : Plan) (lim : IsWithinLimits p) where
  -- the work that is due at one tick is at most 64 * 2^61
  pub low-due : (next : ℕ → ℕ) (now : ℕ) → due_at p next now ≤ MOST_TASKS * 2 ^ 61
  low-due next now =
      omega (
        arith,
        sum_where-le (count p) (λ i. nat_eq (next i) now) (worst p),
        sum_below-limit (count p) (2 ^ 61) (worst p) (low_worst p lim),
        lim.tasks.few,
      )

  module _ (old next after : ℕ → ℕ) (now work more : ℕ) (t : Taken p old next now work)
      (first : TakesFirst p next after more) (is : least_below (count p) next ≡ now) where
    task-due : next first.task ≡ now
    task-due = first.first ∙ is

    task-worst : 1 ≤ worst p first.task
    task-worst = omega (arith, (lim.tasks.each first.task first.below).some_worst)

    fewer : due_at p next now ≡ due_at p after now + worst p first.task
    fewer =
        let n = count p in
        let rest : ℕ → ℕ = λ i. if nat_eq (after i) now then worst p i else 0 in
        let own : ℕ → ℕ = λ i. if nat_eq i first.task then worst p i else 0 in
        let each : due_at p next now ≡ sum_below n (λ i. rest i + own i) =
        sum_below-same n (λ i. if nat_eq (next i) now then worst p i else 0) (λ i. rest i + own i)
        (λ i lt. grind (arith, nat_tests, first.later i, task-due, every_period p lim first.task)) in
        omega (arith, each, sum_below-add n rest own, sum_below-own n first.task (worst p) first.below)

    -- taking a job leaves less work due at the tick
    pub falls : due_at p after now < due_at p next now
    falls = omega (arith, fewer, task-worst)

    pub taken-on : Taken p old after now (work + more)
    taken-on = grind (arith, nat_tests, eqb-true, fewer, task-due)

  -- if the earliest of the next deadlines is another tick, all jobs due at `now` are taken
  module _ (old next : ℕ → ℕ) (now work : ℕ) (t : Taken p old next now work)
      (other : least_below (count p) next ≢ now) where
    all-later : (i : ℕ) → i < count p → now < next i
    all-later i lt =
        let low = least-above (count p) next now (some_task p lim) t.past in
        let high = least-below (count p) next i lt in
        omega (arith, low, high, other)

    pub taken-work : work ≡ due_at p old now
    taken-work = grind (arith, nat_tests, all-later, not-due, sum_below-zero)

    pub taken-moved : Moved p old now next
    taken-moved i lt = grind (arith, nat_tests, all-later, eq-eqb, not-due)
