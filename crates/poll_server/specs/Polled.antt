-- The run of a plan in which the server's jobs take what waits for them, and the outcomes of the requests in it.
use Rattle.std.specs.Prelude.{◌≡◌, ℕ, ◌<◌, List, length}
use Rattle.dvs_base.specs.declared.note.Note.{Note}
use Rattle.sched_model.specs.Totals.{totals_of}
use Rattle.governor.specs.Meanings.{OwnDemand}
use Rattle.governor.specs.Schedule.{ask_of}
use Rattle.replay_laws.specs.OwnList.{notes_by}
use Rattle.poll_server.specs.ServerJobs.{ServerView, request_count, polled_demand}
use Rattle.poll_server.specs.Outcomes.{ServedView, IsOutcome, outcome_at}

-- the notes of the governor's schedule of `ticks` ticks, in which the server's jobs need what they take
abbrev pub polled_notes : OwnDemand → ServerView → ℕ → List Note
polled_notes demand s ticks = notes_by s.plan (ask_of demand s.plan) (polled_demand s) ticks

-- each request has its outcome by these notes, and the totals are those of the notes
pub record IsPolled (s : ServerView) (notes : List Note) (r : ServedView) : Type 0 where
  pub all : length r.outcomes ≡ request_count s
  pub outcomes : (m : ℕ) → m < request_count s → IsOutcome s notes m (outcome_at r.outcomes m)
  pub totals : r.totals ≡ totals_of notes
