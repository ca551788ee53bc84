-- The walk from absolute deadline to absolute deadline.
use Rattle.std.specs.Prelude.{◌≡◌, ℕ, ◌+◌, ◌*◌, ◌<◌, ◌≤◌, List, [], ◌∷◌, length, nat_eq, if◌then◌else◌}
use Rattle.std.specs.List.{AllByRecursion}
use Rattle.grid_fraction.specs.Numbers.{least_below}
use Rattle.task_model.specs.declared.task.Task.{Task}
use Rattle.sched_model.specs.Plan.{Plan, count, period, worst}
use Rattle.ready_queue.specs.declared.entry.Entry.{Entry}
use Rattle.ready_queue.specs.Entries.{QueueView}
use Rattle.edf_demand_laws.specs.ProcessorDemand.{jobs_due}

-- the first absolute deadline of task i after tick t
abbrev pub next_deadline : Plan → (ℕ → ℕ) → ℕ → ℕ → ℕ
next_deadline p relative t i = relative i + jobs_due (period p i) (relative i) t * period p i

-- the tick at which the entry of task i is due; 0 if it has no entry
abbrev pub due_of : List Entry → ℕ → ℕ
due_of [] i = 0
due_of (e ∷ entries) i = if nat_eq i e.task then e.due else due_of entries i

-- the queue has an entry for each task below its limit, at least one, with its next absolute deadline from 1 on
pub record IsCalendar (q : QueueView) : Type 0 where
  pub some : 1 ≤ q.limit
  pub below : AllByRecursion (λ e. e.task < q.limit) q.entries
  pub each : (i : ℕ) → i < q.limit → 1 ≤ due_of q.entries i

-- the queue has an entry for each of these tasks, at least one, with its next absolute deadline from 1 on
pub record IsQueueOf (tasks : List Task) (q : QueueView) : Type 0 where
  pub one_each : q.limit ≡ length tasks
  pub calendar : IsCalendar q

-- a job with the earliest deadline is taken: its task's next deadline is a period later, and `work` is its work
pub record TakesFirst (p : Plan) (next after : ℕ → ℕ) (work : ℕ) : Type 0 where
  pub task : ℕ
  pub below : task < count p
  pub first : next task ≡ least_below (count p) next
  pub later : (i : ℕ) → after i ≡ (if nat_eq i task then next task + period p task else next i)
  pub work_is : work ≡ worst p task

-- the jobs due at `now` are taken: the next deadline of each of their tasks is a period later
abbrev pub Moved : Plan → (ℕ → ℕ) → ℕ → (ℕ → ℕ) → Type 0
Moved p next now after =
    (i : ℕ) → i < count p → after i ≡ (if nat_eq (next i) now then now + period p i else next i)
