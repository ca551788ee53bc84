-- The ticks of a governor's schedule, as functions of their number.
use Rattle.std.specs.Prelude.{ℕ, ◌+◌, ◌*◌, Bool, slice_set, false, Option, None, Some, List, length}
use Rattle.dvs_base.specs.declared.note.Note.{Note}
use Rattle.freq_table.specs.declared.limits.TheConstants.{TOP_SPEED}
use Rattle.sched_model.specs.Plan.{Plan}
use Rattle.sched_model.specs.Jobs.{JobDemands, latest}
use Rattle.sched_model.specs.Ticks.{Tick, exec}
use Rattle.sched_model.specs.Schedule.{next_tick}
use Rattle.sched_model.specs.Notes.{Span, tick_units, notes_before_end}
use Rattle.sched_model.specs.States.{row_at, StateView}
use Rattle.governor.specs.Meanings.{OwnDemand}
use Rattle.governor.specs.Schedule.{ask_of, course}
use Rattle.event_kernel.specs.Segment.{open_span, span_with}

-- the state after units of a task's latest job, which is done then or not
abbrev pub after_service : StateView → ℕ → ℕ → Bool → StateView
after_service s i units ends = record s { rows = slice_set s.rows i (record (row_at s i) { used = (row_at s i).used + units; done = ends }) }

-- the state after units of a task's latest job, which is still not done; `None`: the state itself
abbrev pub gives : StateView → Option ℕ → ℕ → StateView
gives s None units = s
gives s (Some i) units = after_service s i units false

-- the units that the latest job of a task has had
abbrev pub had_at : Plan → List Tick → ℕ → ℕ
had_at p past i = exec p past i (latest p i (length past))

-- the most units of t ticks
abbrev pub most_units : ℕ → ℕ
most_units t = TOP_SPEED * t

-- the span that tick t of a governor's schedule belongs to, with its units before that tick
abbrev pub span_at : OwnDemand → Plan → JobDemands → ℕ → Span
span_at demand p dem t = open_span p dem (ask_of demand p dem) (course demand p dem t)

-- tick t of a governor's schedule
abbrev pub tick_at : OwnDemand → Plan → JobDemands → ℕ → Tick
tick_at demand p dem t = next_tick p dem (ask_of demand p dem) (course demand p dem t)

-- the span that tick t of a governor's schedule belongs to, with the units of that tick
abbrev pub whole_span : OwnDemand → Plan → JobDemands → ℕ → Span
whole_span demand p dem t = span_with (span_at demand p dem t) (tick_units p (course demand p dem t) (tick_at demand p dem t))

-- the notes of a governor's schedule before tick t
abbrev pub notes_before : OwnDemand → Plan → JobDemands → ℕ → List Note
notes_before demand p dem t = notes_before_end p dem (ask_of demand p dem) (course demand p dem t)
