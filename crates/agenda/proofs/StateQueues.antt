-- What a ready queue and a calendar say about the state that they represent, and how they follow its changes.
use Rattle.std.proofs.Common.{◌≡◌, ◌≢◌, ℕ, ◌+◌, ◌<◌, ◌≤◌, Bool, true, false, not, nat_eq, nat_lt, ◌⊎◌, inl, inr, refl, sym, ap, subst, ◌∙◌, arith, if◌then◌else◌, List, [], ◌∷◌, length, true≢false, Option, Some, None, MatchOption, IfSome, drop, slice_get, set, get_or-set_same, get_or-set_other}
use Rattle.std.specs.Prelude.{Contains}
use Rattle.std.proofs.lemmas.Bool.{cases_eq, not-true, true_from_ne_false, false_from_ne_true}
use Rattle.std.proofs.lemmas.Bool.Decides.{nat_tests}
use Rattle.dvs_base.specs.declared.kind.Scheduler.{Scheduler}
use Rattle.dvs_base.specs.declared.kind.Scheduler.TheVariants.{Edf, Rm}
use Rattle.grid_fraction.specs.Numbers.{any_below}
use Rattle.grid_fraction.proofs.Least.{least-below, least-above, least-found}
use Rattle.grid_fraction.proofs.Searches.{any_below-none, any_below-found}
use Rattle.grid_fraction.proofs.Sums.{sum_below-change}
use Rattle.sched_model.specs.declared.state.Row.{Row}
use Rattle.sched_model.specs.Plan.{Plan, count, period, offset}
use Rattle.sched_model.specs.Priority.{stands_before}
use Rattle.sched_model.specs.States.{StateView, row_at, no_row, opening, after_run, after_finish, key_in, earliest_in}
use Rattle.grid_fraction.proofs.Tables.{get-table}
use Rattle.sched_model.proofs.Orders.{before-self, before-not, before-total}
use Rattle.ready_queue.specs.declared.entry.Entry.{Entry}
use Rattle.ready_queue.specs.Orders.{due_before}
use Rattle.ready_queue.specs.Entries.{QueueView, IsAbsent, IsOfFirst, with_entry, ComesFirst}
use Rattle.ready_queue.proofs.EntryOrder.{All-at, Has-contains}
use Rattle.agenda.specs.declared.agenda.Agenda.{Agenda}
use Rattle.agenda.specs.Stands.{Stands}
use Rattle.agenda.specs.Agenda.{before_of, task_entry, HoldsTasks, is_open, HoldsReady, HoldsCalendar, ReadyView, StandFor, IsFirstUndone, IsFirstDue, NonePast, next_job_row, with_next_job, due_left}
use Rattle.agenda.proofs.Tasks.{without, without-apart, IsHeld, held, absent, holds-keep, holds-drop, holds-without, holds-add}

-- the entries of two tasks are ordered as the tasks are
entries-before : (sch : Scheduler) (p : Plan) (s : StateView) (i k : ℕ) → before_of sch (task_entry p s i) (task_entry p s k)
    ≡ stands_before (key_in sch p s) i k
entries-before Edf p s i k = refl
entries-before Rm p s i k = refl

module _ (p : Plan) (s : StateView) where
  -- the first entry of a ready queue is that of the first task with an incomplete job
  pub first-undone : (xs : List Entry) (x : Entry) → HoldsReady p s xs → ComesFirst (before_of p.scheduler) x xs → IsFirstUndone p s (count p) x.task
  first-undone xs x h f = record {
    below = own.0;
    open_job = not-true (row_at s x.task).done own.1;
    first = λ k lt b. true_from_ne_false (row_at s k).done (λ e. true≢false (sym b ∙ behind k lt e (cases_eq k x.task)));
  }
    where
      own : IsHeld p s (is_open s) x
      own = held p s (is_open s) xs h x (Has-contains xs x f.among)

      behind : (k : ℕ) → k < count p → (row_at s k).done ≡ false → (k ≡ x.task) ⊎ (k ≢ x.task) → stands_before (key_in p.scheduler p s) k x.task ≡ false
      behind k lt e (inl same) = ap (λ (j : ℕ). stands_before (key_in p.scheduler p s) j x.task) same ∙ before-self (key_in p.scheduler p s) x.task
      behind k lt e (inr ne) = before-not (key_in p.scheduler p s) x.task k (sym (entries-before p.scheduler p s x.task k)
          ∙ ap (λ (z : Entry). before_of p.scheduler z (task_entry p s k)) (sym own.2)
          ∙ All-at (λ z. z.task ≢ x.task → before_of p.scheduler x z ≡ true) xs (task_entry p s k) f.others
          (Has-contains xs (task_entry p s k) (h.all k lt (ap not e))) ne)

  -- there is only one first task with an incomplete job
  pub first-undone-own : (xs : List Entry) (x : Entry) (i : ℕ) → HoldsReady p s xs → ComesFirst (before_of p.scheduler) x xs
      → IsFirstUndone p s (count p) i → x.task ≡ i
  first-undone-own xs x i h f o = grind (arith, nat_tests, before-total, cases_eq, false_from_ne_true, first-undone)

  module _ (xs : List Entry) (x : Entry) (h : HoldsCalendar p s xs) (f : ComesFirst due_before x xs) where
    next-own : IsHeld p s (λ i. true) x
    next-own = held p s (λ i. true) xs h x (Has-contains xs x f.among)

    next-due : x.due ≡ (row_at s x.task).deadline
    next-due = ap (λ (z : Entry). z.due) next-own.2

    next-before : (k : ℕ) → k < count p → k ≢ x.task → due_before x (task_entry p s k) ≡ true
    next-before k lt ne = All-at (λ z. z.task ≢ x.task → due_before x z ≡ true) xs (task_entry p s k) f.others
        (Has-contains xs (task_entry p s k) (h.all k lt refl)) ne

    next-least : (k : ℕ) → k < count p → x.due ≤ (row_at s k).deadline
    next-least k lt = grind (arith, nat_tests, cases_eq k x.task, next-due, next-before k lt)

    -- the first entry of a calendar has the next release
    pub next-release : x.due ≡ earliest_in p s
    next-release =
        let low : earliest_in p s ≤ (row_at s x.task).deadline = least-below (count p) (λ i. (row_at s i).deadline) x.task next-own.0 in
        let high : x.due ≤ earliest_in p s = least-above (count p) (λ i. (row_at s i).deadline) x.due (omega (arith, next-own.0)) next-least in
        omega (arith, low, high, next-due)

    -- of the tasks with the next release, the first entry of a calendar is that of the first
    earlier : (k : ℕ) → k < count p → k ≢ x.task → x.due ≡ (row_at s k).deadline → x.task < k
    earlier k lt ne same = let b = next-before k lt ne in grind (arith, nat_tests, b)

    -- if a task is released now, the first entry of a calendar is that of the first such task
    pub first-due : x.due ≡ s.now → IsFirstDue p s x.task
    first-due e = record {
      below = next-own.0;
      due = sym next-due ∙ e;
      first = λ k lt same. absurd (omega (arith, lt, e, same, earlier k (omega (arith, lt, next-own.0)) (omega (arith, lt)) (e ∙ sym same)));
    }

    -- there is only one first task that is released now
    pub first-due-own : (i : ℕ) → NonePast p s → IsFirstDue p s i → x.task ≡ i
    first-due-own i past d = go (cases_eq i x.task)
      where
        go : (i ≡ x.task) ⊎ (i ≢ x.task) → x.task ≡ i
        go (inl e) = sym e
        go (inr ne) =
            let now : x.due ≡ s.now = omega (arith, next-least i d.below, d.due, next-due, past x.task next-own.0) in
            absurd (d.first x.task (earlier i d.below ne (now ∙ sym d.due)) (sym next-due ∙ now))

    pub none-due : NonePast p s → x.due ≢ s.now → (k : ℕ) → k < count p → (row_at s k).deadline ≢ s.now
    none-due past ne k lt is = omega (arith, next-least k lt, is, past x.task next-own.0, next-due, ne)

-- the state with another row of task i
abbrev pub with_row : StateView → ℕ → Row → StateView
with_row s i r = record s { rows = set s.rows i r }

pub row-here : (s : StateView) (i : ℕ) (r : Row) → i < length s.rows → row_at (with_row s i r) i ≡ r
row-here s i r lt = get_or-set_same s.rows i r no_row lt

row-there : (s : StateView) (i : ℕ) (r : Row) (k : ℕ) → k ≢ i → row_at (with_row s i r) k ≡ row_at s k
row-there s i r k ne = get_or-set_other s.rows i k r no_row ne

-- what holds of the new row, and of the rows of the other tasks, holds of each row
pub by-row : (s : StateView) (i : ℕ) (r : Row) → i < length s.rows → (P : ℕ → Row → Type 0) → P i r → ((k : ℕ) → k ≢ i → P k (row_at s k))
    → (k : ℕ) → P k (row_at (with_row s i r) k)
by-row s i r lt P here there k = grind (arith, nat_tests, cases_eq, row-here, row-there)

module _ (p : Plan) (s : StateView) (i : ℕ) (r : Row) (lt : i < length s.rows) where
  -- the entries of other tasks stay right
  others-kept : (test test' : ℕ → Bool) (xs : List Entry) → ((k : ℕ) → without i test k ≡ without i test' k) → HoldsTasks p s (without i test) xs
      → HoldsTasks p (with_row s i r) (without i test') xs
  others-kept test test' xs same h = holds-keep p s (without i test) (with_row s i r) (without i test') xs (λ k lt. same k)
      (λ k lt t. ap (λ (q : Row). record { task = k; due = q.deadline; period = period p k }) (sym (row-there s i r k (without-apart i test k t)))) h

  -- if the row of task i keeps its deadline, all entries stay right
  entries-kept : (test : ℕ → Bool) (xs : List Entry) → r.deadline ≡ (row_at s i).deadline → HoldsTasks p s test xs
      → HoldsTasks p (with_row s i r) test xs
  entries-kept test xs same h = holds-keep p s test (with_row s i r) test xs (λ k lk. refl)
      (λ k lk t. by-row s i r lt (λ k q. task_entry p s k ≡ record { task = k; due = q.deadline; period = period p k })
      (ap (λ (d : ℕ). record { task = i; due = d; period = period p i }) (sym same)) (λ k ne. refl) k) h

  -- the tasks with incomplete jobs, without task i, stay the same
  ready-others : (xs : List Entry) → HoldsTasks p s (without i (is_open s)) xs → HoldsTasks p (with_row s i r) (without i (is_open (with_row s i r))) xs
  ready-others xs = others-kept (is_open s) (is_open (with_row s i r)) xs
      (by-row s i r lt (λ k q. without i (is_open s) k ≡ (if nat_eq k i then false else not q.done)) (grind (arith, nat_tests)) (λ k ne. refl))

  -- if the job of task i is now complete, a ready queue without its entry is right
  ready-closed : (xs : List Entry) → r.done ≡ true → HoldsTasks p s (without i (is_open s)) xs → HoldsReady p (with_row s i r) xs
  ready-closed xs done h =
      holds-keep p (with_row s i r) (without i (is_open (with_row s i r))) (with_row s i r) (is_open (with_row s i r)) xs
      (λ k lk. by-row s i r lt (λ k q. (if nat_eq k i then false else not q.done) ≡ not q.done) (grind (arith, nat_tests, done))
      (λ k ne. grind (arith, nat_tests, ne)) k) (λ k lk t. refl) (ready-others xs h)

  -- if the job of task i is now incomplete, a ready queue with its entry is right
  ready-opened : (xs : List Entry) → i < count p → r.done ≡ false → HoldsTasks p s (without i (is_open s)) xs
      → HoldsReady p (with_row s i r) (with_entry (before_of p.scheduler) (task_entry p (with_row s i r) i) xs)
  ready-opened xs lp unfinished h =
      holds-add p (with_row s i r) (is_open (with_row s i r)) (before_of p.scheduler) i xs lp
      (ap (λ (q : Row). not q.done) (row-here s i r lt) ∙ ap not unfinished) (ready-others xs h)

module _ (p : Plan) (s : StateView) (ready : ReadyView) (calendar : QueueView) (h : StandFor p s ready calendar) where
  -- with other entries that are right for another state, the queues represent that state
  stand-with : {after : StateView} {jobs releases : List Entry} → HoldsReady p after jobs → HoldsCalendar p after releases
      → StandFor p after (record ready { entries = jobs }) (record calendar { entries = releases })
  stand-with jobs releases = grind (arith, nat_tests)

  -- `State::run` changes neither the ready queue nor the calendar
  pub stand-run : (i units : ℕ) → i < length s.rows → StandFor p (after_run s i units) ready calendar
  stand-run i units lt =
      stand-with (holds-keep p s' (is_open s) s' (is_open s') ready.entries
      (λ k lk. by-row s i r lt (λ k q. is_open s k ≡ not q.done) refl (λ k ne. refl) k) (λ k lk t. refl)
      (entries-kept p s i r lt (is_open s) ready.entries refl h.ready_jobs)) (entries-kept p s i r lt (λ k. true) calendar.entries refl h.releases)
    where
      r : Row
      r = record (row_at s i) { used = (row_at s i).used + units }

      s' : StateView
      s' = after_run s i units

  -- after `State::finish` of the first ready job, the ready queue without it is right
  pub stand-finish : (x : Entry) (rest : List Entry) (i : ℕ) → ready.entries ≡ x ∷ rest → IsAbsent x.task rest → x.task ≡ i → i < length s.rows
      → StandFor p (after_finish s i) (record ready { entries = rest }) calendar
  stand-finish x rest i is apart own lt =
      stand-with (ready-closed p s i r lt rest refl (subst (λ (j : ℕ). HoldsTasks p s (without j (is_open s)) rest) own
      (holds-drop p s (is_open s) x rest apart (subst (HoldsReady p s) is h.ready_jobs))))
      (entries-kept p s i r lt (λ k. true) calendar.entries refl h.releases)
    where
      r : Row
      r = record (row_at s i) { done = true }

-- an agenda represents each state with the same rows: `State::advance` and `State::mark` change none
pub stands-rows : (p : Plan) (s after : StateView) (a : Agenda) → after.rows ≡ s.rows → Stands p s a → Stands p after a
stands-rows p s after a same h =
    let q = h.queues in
    subst (λ (rows : List Row). Stands p (record after { rows = rows }) a) (sym same) (record {
      queues = record {
        scheduler = q.scheduler;
        ready_limit = q.ready_limit;
        ready_jobs = record { each = q.ready_jobs.each; all = q.ready_jobs.all };
        calendar_limit = q.calendar_limit;
        releases = record { each = q.releases.each; all = q.releases.all };
      };
      left = h.left;
    })

-- the first entry of a calendar is that of the first task that is due, and `rest` are the others
pub record TakesDue (p : Plan) (s : StateView) (i : ℕ) (xs rest : List Entry) : Type 0 where
  pub entry : Entry
  pub is : xs ≡ entry ∷ rest
  pub out : IsAbsent entry.task rest
  pub own : entry.task ≡ i

pub takes-due : (p : Plan) (s : StateView) (i : ℕ) (xs : List Entry) → IsOfFirst i xs → IsAbsent i (drop 1 xs) → TakesDue p s i xs (drop 1 xs)
takes-due p s i [] f o = absurd f
takes-due p s i (x ∷ xs) f o = record { entry = x; is = refl; out = subst (λ (t : ℕ). IsAbsent t xs) (sym f) o; own = f }

-- the first entry of a calendar is that of the first task that is due
pub first-is-due : (p : Plan) (s : StateView) (i : ℕ) (xs : List Entry) (r : Option Entry) → HoldsCalendar p s xs → NonePast p s → IsFirstDue p s i
    → r ≡ slice_get xs 0 → IfSome r (λ e. ComesFirst due_before e xs) → IsOfFirst i xs
first-is-due p s i [] r h past d e f = absurd (Has-contains [] (task_entry p s i) (h.all i d.below refl))
first-is-due p s i (x ∷ xs) r h past d e f =
    first-due-own p s (x ∷ xs) x h (subst (λ (o : Option Entry). IfSome o (λ z. ComesFirst due_before z (x ∷ xs))) e f) i past d

-- the first entry of a ready queue is that of the first task with an incomplete job, and it can be taken out
pub takes-undone : (p : Plan) (s : StateView) (i : ℕ) (xs rest : List Entry) (r : Option Entry) (sch : Scheduler) → sch ≡ p.scheduler
    → HoldsReady p s xs → IsFirstUndone p s (count p) i
    → MatchOption r ((xs ≡ []) × (rest ≡ [])) (λ e. xs ≡ e ∷ rest) → IfSome r (λ e. ComesFirst (before_of sch) e xs) → IfSome r (λ e. IsAbsent e.task rest)
    → TakesDue p s i xs rest
takes-undone p s i xs rest None sch same h u m f o =
    absurd (Has-contains [] (task_entry p s i) (subst (λ (l : List Entry). Contains l (task_entry p s i)) m.0 (h.all i u.below (ap not u.open_job))))
takes-undone p s i xs rest (Some x) sch same h u m f o =
    record { entry = x; is = m; out = o; own = first-undone-own p s xs x i h (subst (λ (c : Scheduler). ComesFirst (before_of c) x xs) same f) u }

-- a list of entries without a first one is empty
pub no-first : (xs : List Entry) → slice_get xs 0 ≡ None → xs ≡ []
no-first [] e = refl
no-first (x ∷ xs) e = absurd (cc)

module _ (p : Plan) (s : StateView) (ready : ReadyView) (calendar : QueueView) (h : StandFor p s ready calendar) where
  -- a calendar of at least one task has a first entry
  pub calendar-some : 0 < count p → calendar.entries ≢ []
  calendar-some lt e = Has-contains [] (task_entry p s 0) (subst (λ (l : List Entry). Contains l (task_entry p s 0)) e (h.releases.all 0 lt refl))

  -- after a completion the new ready queue and the calendar represent the new state
  pub after-finish : (i : ℕ) (ready' : ReadyView) (r : Option Entry) → IsFirstUndone p s (count p) i → length s.rows ≡ count p
      → ready' ≡ record ready { entries = ready'.entries }
      → MatchOption r ((ready.entries ≡ []) × (ready'.entries ≡ [])) (λ e. ready.entries ≡ e ∷ ready'.entries)
      → IfSome r (λ e. ComesFirst (before_of ready.scheduler) e ready.entries) → IfSome r (λ e. IsAbsent e.task ready'.entries)
      → StandFor p (after_finish s i) ready' calendar
  after-finish i ready' r u long same m f o =
      let t : TakesDue p s i ready.entries ready'.entries =
      takes-undone p s i ready.entries ready'.entries r ready.scheduler h.scheduler h.ready_jobs u m f o in
      subst (λ (q : ReadyView). StandFor p (after_finish s i) q calendar) (sym same)
      (stand-finish p s ready calendar h t.entry ready'.entries i t.is t.out t.own (omega (arith, u.below, long)))

  -- after a release the new ready queue and the new calendar represent the new state
  module _ (i : ℕ) (d : IsFirstDue p s i) (lt : i < length s.rows) (done : (row_at s i).done ≡ true)
      (first : IsOfFirst i calendar.entries) (out : IsAbsent i (drop 1 calendar.entries)) (next : Entry) (calendar' : QueueView)
      (limit : calendar'.limit ≡ calendar.limit) (entries : calendar'.entries ≡ with_entry due_before next (drop 1 calendar.entries)) where
    -- the new calendar has the new entry of the task in place of its first
    renewed : (b : Bool) → next ≡ task_entry p (with_next_job p s i b) i → HoldsCalendar p (with_next_job p s i b) calendar'.entries
    renewed b is =
        let t = takes-due p s i calendar.entries first out in
        subst (HoldsCalendar p (with_next_job p s i b)) (sym (entries ∙ ap (λ (x : Entry). with_entry due_before x (drop 1 calendar.entries)) is))
        (holds-add p (with_next_job p s i b) (λ k. true) due_before i (drop 1 calendar.entries) d.below refl
        (others-kept p s i (next_job_row (period p i) b (row_at s i)) lt (λ k. true) (λ k. true) (drop 1 calendar.entries) (λ k. refl)
        (subst (λ (j : ℕ). HoldsTasks p s (without j (λ k. true)) (drop 1 calendar.entries)) t.own
        (holds-drop p s (λ k. true) t.entry (drop 1 calendar.entries) t.out (subst (HoldsCalendar p s) t.is h.releases)))))

    ready-absent : HoldsTasks p s (without i (is_open s)) ready.entries
    ready-absent = holds-without p s (is_open s) i ready.entries (absent p s (is_open s) i ready.entries h.ready_jobs (ap not done)) h.ready_jobs

    -- the job that is released needs some units: the ready queue has its entry too
    pub after-open : (ready' : ReadyView) → next ≡ task_entry p (with_next_job p s i false) i
        → ready' ≡ record ready { entries = with_entry (before_of ready.scheduler) next ready.entries }
        → StandFor p (with_next_job p s i false) ready' calendar'
    after-open ready' is put = grind (arith, nat_tests, ready-absent, ready-opened, renewed)

    -- the job that is released needs no units: the ready queue stays
    pub after-closed : next ≡ task_entry p (with_next_job p s i true) i → StandFor p (with_next_job p s i true) ready calendar'
    after-closed is = record {
      scheduler = h.scheduler;
      ready_limit = h.ready_limit;
      ready_jobs = ready-closed p s i (next_job_row (period p i) true (row_at s i)) lt ready.entries refl ready-absent;
      calendar_limit = limit ∙ h.calendar_limit;
      releases = renewed true is;
    }

-- the entry that `renew` puts in is that of the task after its release
pub opened-entry : (p : Plan) (s : StateView) (i : ℕ) (done : Bool) (per due : ℕ) → i < length s.rows → per ≡ period p i → due ≡ (row_at s i).deadline
    → record { task = i; due = due + per; period = per } ≡ task_entry p (with_next_job p s i done) i
opened-entry p s i done per due lt is same = grind (arith, nat_tests, row-here)

pub more-held : (p : Plan) (s : StateView) (m : ℕ) (e : Entry) (xs ys : List Entry) → m < count p → HoldsTasks p s (λ i. nat_lt i m) xs → e ≡ task_entry p s m
    → ys ≡ with_entry due_before e xs → HoldsTasks p s (λ i. nat_lt i (m + 1)) ys
more-held p s m e xs ys lt h is put =
    subst (HoldsTasks p s (λ i. nat_lt i (m + 1))) (sym (put ∙ ap (λ (z : Entry). with_entry due_before z xs) is))
    (holds-add p s (λ i. nat_lt i (m + 1)) due_before m xs lt (grind (arith, nat_tests))
    (holds-keep p s (λ i. nat_lt i m) s (without m (λ i. nat_lt i (m + 1))) xs (λ k lk. grind (arith, nat_tests)) (λ k lk t. refl) h))

pub all-held : (p : Plan) (s : StateView) (n : ℕ) (xs : List Entry) → count p ≤ n → HoldsTasks p s (λ i. nat_lt i n) xs → HoldsCalendar p s xs
all-held p s n xs le h = holds-keep p s (λ i. nat_lt i n) s (λ i. true) xs (λ k lt. grind (arith, nat_tests)) (λ k lt t. refl) h

-- the opening state has no incomplete job, and an empty ready queue
pub opening-ready : (p : Plan) (xs : List Entry) → xs ≡ [] → HoldsReady p (opening p) xs
opening-ready p xs e = grind (arith, nat_tests, get-table)

pub opening-entry : (p : Plan) (m first per : ℕ) → m < count p → first ≡ offset p m → per ≡ period p m
    → record { task = m; due = first; period = per } ≡ task_entry p (opening p) m
opening-entry p m first per lt begins is = grind (arith, nat_tests, get-table)

-- each release leaves fewer tasks that are still to be released now
pub due-falls : (p : Plan) (s : StateView) (i : ℕ) (done : Bool) → i < length s.rows → 0 < period p i → IsFirstDue p s i
    → due_left p (with_next_job p s i done) < due_left p s
due-falls p s i done lt some d =
    let now : nat_eq (row_at s i).deadline s.now ≡ true = grind (arith, nat_tests, d.due) in
    let past : nat_eq (row_at s' i).deadline s.now ≡ false = ap (λ (r : Row). nat_eq r.deadline s.now) (row-here s i r lt) ∙ later in
    omega (
      arith,
      rw (now, past) at (sum_below-change (count p) (left_of s) (left_of s') i d.below
          (λ k lk ne. ap (λ (r : Row). if nat_eq r.deadline s.now then 1 else 0) (row-there s i r k ne))),
    )
  where
    r : Row
    r = next_job_row (period p i) done (row_at s i)

    s' : StateView
    s' = with_next_job p s i done

    left_of : StateView → ℕ → ℕ
    left_of v k = if nat_eq (row_at v k).deadline s.now then 1 else 0

    later : nat_eq ((row_at s i).deadline + period p i) s.now ≡ false
    later = let is : (row_at s i).deadline ≡ s.now = d.due in grind (arith, nat_tests)

-- the next release is now exactly if some task is to be released now
pub release-now : (p : Plan) (s : StateView) → 0 < count p → NonePast p s
    → nat_eq (earliest_in p s) s.now ≡ any_below (count p) (λ i. nat_eq (row_at s i).deadline s.now)
release-now p s some past = go (nat_eq (earliest_in p s) s.now) refl
  where
    test : ℕ → Bool
    test i = nat_eq (row_at s i).deadline s.now

    none : nat_eq (earliest_in p s) s.now ≡ false → (i : ℕ) → i < count p → test i ≡ false
    none e i lt =
        let low : s.now ≤ earliest_in p s = least-above (count p) (λ i. (row_at s i).deadline) s.now some past in
        let le : earliest_in p s ≤ (row_at s i).deadline = least-below (count p) (λ j. (row_at s j).deadline) i lt in
        grind (arith, nat_tests)

    go : (b : Bool) → nat_eq (earliest_in p s) s.now ≡ b → nat_eq (earliest_in p s) s.now ≡ any_below (count p) test
    go false e = e ∙ sym (any_below-none (count p) test (none e))
    go true e =
        let f = least-found (count p) (λ i. (row_at s i).deadline) some in
        e ∙ sym (any_below-found (count p) test f.0 f.1 (ap (λ d. nat_eq d s.now) f.2 ∙ e))
