-- How many decisions a run has, compared with its releases and completions, and how many notes, compared with its jobs.
use Rattle.std.specs.Prelude.{ℕ, ◌≡◌, ◌+◌, ◌*◌, ◌≤◌, List, length}
use Rattle.dvs_base.specs.declared.note.Totals.{Totals}
use Rattle.sched_model.specs.Plan.{Plan}
use Rattle.sched_model.specs.Jobs.{released_jobs, JobDemands}
use Rattle.sched_model.specs.Ticks.{PublishedDemand, Tick}
use Rattle.sched_model.specs.Schedule.{IsScheduleBy}
use Rattle.sched_model.specs.Notes.{notes_of}
use Rattle.sched_model.specs.Totals.{totals_of}

-- at most one more decision than releases and completions together, such as at tick 0 without a release; no more
-- completions than releases; and so at most one more decision than two for each release
pub record AreFew (t : Totals) : Type 0 where
  pub decisions : t.decisions ≤ t.released + t.finished + 1
  pub completions : t.finished ≤ t.released
  pub two_each : t.decisions ≤ 2 * t.released + 1

-- every schedule of the plan has few decisions, for any demands, with 0 for job 0, and any published demand
abbrev pub HasFewDecisions : Plan → Type 0
HasFewDecisions p =
    (dem : JobDemands) → ((i : ℕ) → dem i 0 ≡ 0) → (ask : PublishedDemand) (ticks : List Tick)
    → IsScheduleBy p dem ask ticks → AreFew (totals_of (notes_of p dem ask ticks))

-- Every schedule of the plan has at most seven notes for each job that is released within it: its release, its
-- completion, a decision after each of them, and three segments. It has at most three more: a decision and a segment
-- at tick 0, and the last note. This holds for any published demand; job 0 needs nothing.
abbrev pub HasFewNotes : Plan → Type 0
HasFewNotes p =
    (dem : JobDemands) → ((i : ℕ) → dem i 0 ≡ 0) → (ask : PublishedDemand) (ticks : List Tick)
    → IsScheduleBy p dem ask ticks → length (notes_of p dem ask ticks) ≤ 7 * released_jobs p (length ticks) + 3
