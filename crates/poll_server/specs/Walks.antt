-- The walks over a server's jobs, over the notes of its run, and over its requests.
use Rattle.std.specs.Prelude.{◌≡◌, ℕ, ◌+◌, ◌<◌, ◌≤◌, List, length, Option, Some, None}
use Rattle.std.specs.Option.{option_or}
use Rattle.std.specs.List.{slice_index_or}
use Rattle.dvs_base.specs.declared.note.Note.{Note}
use Rattle.dvs_base.specs.declared.note.Pos.{Pos}
use Rattle.dvs_base.specs.declared.limits.TheConstants.{MOST_JOBS}
use Rattle.request_list.specs.Requests.{AreRequests}
use Rattle.sched_model.specs.Plan.{count}
use Rattle.sched_model.specs.Admission.{IsAdmitted}
use Rattle.demand_list.specs.Demands.{DemandsView, HasWorstsOf}
use Rattle.task_model.specs.DemandRows.{DemandRow, named_units}
use Rattle.poll_server.specs.declared.taking.Waiting.{Waiting}
use Rattle.poll_server.specs.declared.ends.Ends.{Ends}
use Rattle.poll_server.specs.declared.outcomes.Reached.{Reached}
use Rattle.poll_server.specs.ServerJobs.{ServerView, request_count, arrival, asked_below, job_release, taken_units, taken_up_to}
use Rattle.poll_server.specs.Outcomes.{done_position, done_at}

-- the requests passed have arrived by tick t, and their units are counted
pub record HasPassed (s : ServerView) (t : ℕ) (w : Waiting) : Type 0 where
  pub within : w.next ≤ request_count s
  pub counted : w.arrived ≡ asked_below s w.next
  pub early : (m : ℕ) → m < w.next → arrival s m ≤ t

-- what is counted after the first k jobs: the requests passed arrived by the next job's release; the k jobs' units
pub record StandsAfter (s : ServerView) (k : ℕ) (w : Waiting) : Type 0 where
  pub passed : HasPassed s (job_release s (k + 1)) w
  pub counted : w.taken ≡ taken_up_to s k

-- the rows are those of the server's first n jobs, with the units that each takes
pub record AreTaken (s : ServerView) (n : ℕ) (rows : List DemandRow) : Type 0 where
  pub taken_by : (k : ℕ) → 1 ≤ k → k ≤ n → named_units rows s.task k ≡ Some (taken_units s k)
  pub no_later : (k : ℕ) → n < k → named_units rows s.task k ≡ None
  pub no_other : (i k : ℕ) → i < count s.plan → (i ≡ s.task → ⊥) → named_units rows i k ≡ None

-- a server of a task of an admitted plan, with requests and n jobs within the limits
pub record IsServer (s : ServerView) (n : ℕ) : Type 0 where
  pub plan : IsAdmitted s.plan
  pub task : s.task < count s.plan
  pub requests : AreRequests s.requests
  pub few : n ≤ MOST_JOBS

-- a server whose first n jobs take the units that the demand list has
pub record IsServable (s : ServerView) (n : ℕ) (d : DemandsView) : Type 0 where
  pub server : IsServer s n
  pub list : HasWorstsOf s.plan.tasks d
  pub rows : AreTaken s n d.rows

-- the end of a job in a list of ends, by the job's place from 0
abbrev pub end_at : List (Option Pos) → ℕ → Option Pos
end_at ends place = slice_index_or ends place None

-- the ends after one more note: the first end of a job stays
pub record Hears (a : Ends) (note : Note) (b : Ends) : Type 0 where
  pub task : b.task ≡ a.task
  pub long : length b.ends.items ≡ length a.ends.items
  pub told : (k : ℕ) → k < length a.ends.items
      → end_at b.ends.items k ≡ option_or (end_at a.ends.items k) (done_position note a.task (k + 1))

-- the ends of the first n jobs are those in the notes, and no later job is done in the notes
pub record AreEnds (s : ServerView) (notes : List Note) (n : ℕ) (ends : List (Option Pos)) : Type 0 where
  pub long : length ends ≡ n
  pub told : (k : ℕ) → k < n → end_at ends k ≡ done_at notes s.task (k + 1)
  pub no_later : (k : ℕ) → n < k → done_at notes s.task k ≡ None

-- the walk over the first m requests is at a job of the first n: the jobs before it take less than the requests ask for
pub record HasReached (s : ServerView) (n m : ℕ) (r : Reached) : Type 0 where
  pub within : r.job ≤ n
  pub stands : StandsAfter s r.job r.waiting
  pub asked_for : r.asked ≡ asked_below s m
  pub first : (j : ℕ) → j < r.job → taken_up_to s j < asked_below s m
