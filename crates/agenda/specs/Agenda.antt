-- What the ready queue and the calendar of a state contain.
use Rattle.std.specs.Prelude.{◌≡◌, ℕ, ◌<◌, ◌≤◌, ◌≢◌, Bool, true, false, not, nat_eq, if◌then◌else◌, List, Contains, slice_set}
use Rattle.std.specs.List.{AllByRecursion}
use Rattle.dvs_base.specs.declared.kind.Scheduler.{Scheduler}
use Rattle.dvs_base.specs.declared.kind.Scheduler.TheVariants.{Edf, Rm}
use Rattle.grid_fraction.specs.Numbers.{sum_below}
use Rattle.sched_model.specs.declared.state.Row.{Row}
use Rattle.sched_model.specs.Plan.{Plan, count, period}
use Rattle.sched_model.specs.Priority.{stands_before}
use Rattle.sched_model.specs.States.{StateView, row_at, key_in, released_row}
use Rattle.ready_queue.specs.declared.entry.Entry.{Entry}
use Rattle.ready_queue.specs.Orders.{due_before, period_before}
use Rattle.ready_queue.specs.Entries.{QueueView}

-- the order of a scheduler's ready queue: by the deadline under EDF, by the period under RM
abbrev pub before_of : Scheduler → Entry → Entry → Bool
before_of Edf = due_before
before_of Rm = period_before

-- the entry of a task: the deadline of its latest job, which is its next release, and its period
abbrev pub task_entry : Plan → StateView → ℕ → Entry
task_entry p s i = record { task = i; due = (row_at s i).deadline; period = period p i }

-- the entries are those of exactly the tasks that pass the test
pub record HoldsTasks (p : Plan) (s : StateView) (test : ℕ → Bool) (entries : List Entry) : Type 0 where
  pub each : AllByRecursion (λ e. (e.task < count p) × (test e.task ≡ true) × (e ≡ task_entry p s e.task)) entries
  pub all : (i : ℕ) → i < count p → test i ≡ true → Contains entries (task_entry p s i)

-- whether the latest job of a task is incomplete
abbrev pub is_open : StateView → ℕ → Bool
is_open s i = not (row_at s i).done

-- a ready queue has exactly the incomplete latest jobs, each with its deadline and its task's period
abbrev pub HoldsReady : Plan → StateView → List Entry → Type 0
HoldsReady p s entries = HoldsTasks p s (is_open s) entries

-- a calendar has each task with its next release, which is the deadline of its latest job
abbrev pub HoldsCalendar : Plan → StateView → List Entry → Type 0
HoldsCalendar p s entries = HoldsTasks p s (λ i. true) entries

-- a ready queue: the scheduler whose order it has, its limit, and its entries in order
pub record ReadyView : Type 0 where
  pub scheduler : Scheduler
  pub limit : ℕ
  pub entries : List Entry

-- a ready queue and a calendar represent a state of a plan
pub record StandFor (p : Plan) (s : StateView) (ready : ReadyView) (calendar : QueueView) : Type 0 where
  pub scheduler : ready.scheduler ≡ p.scheduler
  pub ready_limit : ready.limit ≡ count p
  pub ready_jobs : HoldsReady p s ready.entries
  pub calendar_limit : calendar.limit ≡ count p
  pub releases : HoldsCalendar p s calendar.entries

-- task i is the first of the first n tasks in the scheduler's order whose job is incomplete
pub record IsFirstUndone (p : Plan) (s : StateView) (n i : ℕ) : Type 0 where
  pub below : i < n
  pub open_job : (row_at s i).done ≡ false
  pub first : (k : ℕ) → k < n → stands_before (key_in p.scheduler p s) k i ≡ true → (row_at s k).done ≡ true

-- task i is the first in file order that is to be released now
pub record IsFirstDue (p : Plan) (s : StateView) (i : ℕ) : Type 0 where
  pub below : i < count p
  pub due : (row_at s i).deadline ≡ s.now
  pub first : (k : ℕ) → k < i → (row_at s k).deadline ≢ s.now

-- no task's next release is in the past
abbrev pub NonePast : Plan → StateView → Type 0
NonePast p s = (i : ℕ) → i < count p → s.now ≤ (row_at s i).deadline

-- a row after the release of its next job, which is complete at once if `done`
abbrev pub next_job_row : ℕ → Bool → Row → Row
next_job_row period done row = record (released_row period row) { done = done }

-- the state after the release of the next job of task i, which is complete at once if `done`
abbrev pub with_next_job : Plan → StateView → ℕ → Bool → StateView
with_next_job p s i done = record s { rows = slice_set s.rows i (next_job_row (period p i) done (row_at s i)) }

-- the number of tasks that are still to be released now
abbrev pub due_left : Plan → StateView → ℕ
due_left p s = sum_below (count p) (λ i. if nat_eq (row_at s i).deadline s.now then 1 else 0)
