-- Which job of the server a request belongs to, and the outcome of a request in a run.
use Rattle.std.specs.Prelude.{◌≡◌, ℕ, ◌<◌, ◌≤◌, ◌&&◌, nat_eq, List, [], ◌∷◌, Option, Some, None, if◌then◌else◌}
use Rattle.std.specs.List.{slice_index_or}
use Rattle.std.specs.Option.{option_or}
use Rattle.dvs_base.specs.declared.note.Note.{Note}
use Rattle.dvs_base.specs.declared.note.Note.TheVariants.{Done}
use Rattle.dvs_base.specs.declared.note.Pos.{Pos}
use Rattle.dvs_base.specs.declared.note.Totals.{Totals}
use Rattle.poll_server.specs.declared.served.Outcome.{Outcome}
use Rattle.poll_server.specs.declared.served.Outcome.TheVariants.{Served, Pending}
use Rattle.poll_server.specs.ServerJobs.{ServerView, asked_with, taken_up_to}

-- Request m belongs to job k: the first one such that it and the jobs before it take at least the units up to and
-- including the request.
pub record BelongsTo (s : ServerView) (m k : ℕ) : Type 0 where
  pub reached : asked_with s m ≤ taken_up_to s k
  pub first : (j : ℕ) → j < k → taken_up_to s j < asked_with s m

-- the position of a note that job k of task i is done; none for another note
abbrev pub done_position : Note → ℕ → ℕ → Option Pos
done_position (Done at_end j l used) i k = if nat_eq i j && nat_eq k l then Some at_end else None
done_position _ i k = None

-- the position of the first of these notes that job k of task i is done
abbrev pub done_at : List Note → ℕ → ℕ → Option Pos
done_at [] i k = None
done_at (note ∷ notes) i k = option_or (done_position note i k) (done_at notes i k)

-- Whether this is the outcome of request m by these notes: served by its job, at the position where the notes have
-- that job as done, and pending if they don't.
abbrev pub IsOutcome : ServerView → List Note → ℕ → Outcome → Type 0
IsOutcome s notes m (Served job at_end) = BelongsTo s m job × (done_at notes s.task job ≡ Some at_end)
IsOutcome s notes m Pending = (k : ℕ) → BelongsTo s m k → done_at notes s.task k ≡ None

-- the outcomes of all requests, and the totals of the run
pub record ServedView : Type 0 where
  pub outcomes : List Outcome
  pub totals : Totals

-- the outcome of request m in a list of outcomes
abbrev pub outcome_at : List Outcome → ℕ → Outcome
outcome_at outcomes m = slice_index_or outcomes m Pending
