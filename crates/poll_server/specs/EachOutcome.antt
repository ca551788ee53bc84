-- The outcomes of all requests, as a function of the notes.
use Rattle.std.specs.Prelude.{ℕ, nat_le, List, Option, Some, None}
use Rattle.dvs_base.specs.declared.note.Note.{Note}
use Rattle.dvs_base.specs.declared.note.Pos.{Pos}
use Rattle.grid_fraction.specs.Numbers.{first_from, list_below}
use Rattle.sched_model.specs.Totals.{totals_of}
use Rattle.governor.specs.Meanings.{OwnDemand}
use Rattle.poll_server.specs.declared.served.Outcome.{Outcome}
use Rattle.poll_server.specs.declared.served.Outcome.TheVariants.{Served, Pending}
use Rattle.poll_server.specs.ServerJobs.{ServerView, request_count, asked_with, taken_up_to}
use Rattle.poll_server.specs.Outcomes.{ServedView, done_at}
use Rattle.poll_server.specs.Bound.{latest_job}
use Rattle.poll_server.specs.Polled.{polled_notes}

-- the job that request m belongs to: the first, up to its latest job, by which the units up to the request are taken
abbrev pub job_of : ServerView → ℕ → ℕ
job_of s m = first_from (latest_job s m) 1 (λ k. nat_le (asked_with s m) (taken_up_to s k))

-- a request is served if its job is done, and pending if its job isn't done
abbrev pub outcome_by : ℕ → Option Pos → Outcome
outcome_by job (Some at_end) = Served job at_end
outcome_by job None = Pending

-- the outcome of request m by these notes
abbrev pub outcome_of : ServerView → List Note → ℕ → Outcome
outcome_of s notes m = outcome_by (job_of s m) (done_at notes s.task (job_of s m))

-- the outcomes of all requests by these notes
abbrev pub outcomes_of : ServerView → List Note → List Outcome
outcomes_of s notes = list_below (request_count s) (outcome_of s notes)

-- the outcomes of all requests by these notes, and the totals of the notes
abbrev pub served_by : ServerView → List Note → ServedView
served_by s notes = record { outcomes = outcomes_of s notes; totals = totals_of notes }

-- what `poll` returns: the outcomes and the totals by the notes of the governor's schedule
abbrev pub served_of : OwnDemand → ServerView → ℕ → ServedView
served_of demand s ticks = served_by s (polled_notes demand s ticks)
