-- The notes of a run.
use Rattle.std.specs.Prelude.{ℕ, List}
use Rattle.dvs_base.specs.declared.note.Note.{Note}
use Rattle.dvs_base.specs.declared.kind.GovernorKind.{GovernorKind}
use Rattle.sched_model.specs.Plan.{Plan}
use Rattle.sched_model.specs.Jobs.{JobDemands}
use Rattle.sched_model.specs.Schedule.{schedule}
use Rattle.sched_model.specs.Demand.{published}
use Rattle.sched_model.specs.Notes.{notes_of}

-- the notes of the run of a plan under a governor
abbrev pub run_notes : Plan → GovernorKind → JobDemands → ℕ → List Note
run_notes p g dem ticks = notes_of p dem (published p g dem) (schedule p g dem ticks)
