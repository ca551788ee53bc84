-- The open segment, and the notes of a span up to it.
use Rattle.std.specs.Prelude.{◌+◌, List, ◌++◌, [], ◌∷◌, ℕ, if◌then◌else◌, length, ◌≡◌, ◌⊎◌, ◌<◌, Bool, ◌&&◌, not, nat_lt, ◌^◌, true, Option, None, Some}
use Rattle.dvs_base.specs.declared.note.Note.{Note}
use Rattle.dvs_base.specs.declared.note.Note.TheVariants.{Speed, Run, Idle, Done}
use Rattle.dvs_base.specs.declared.note.Pos.{Pos}
use Rattle.dvs_base.specs.Widths.{u64_end}
use Rattle.sched_model.specs.declared.holder.Holder.{Holder}
use Rattle.sched_model.specs.declared.holder.Holder.TheVariants.{Nobody, Held}
use Rattle.sched_model.specs.Plan.{Plan, point, count}
use Rattle.sched_model.specs.Jobs.{JobDemands}
use Rattle.sched_model.specs.Ticks.{PublishedDemand, Tick}
use Rattle.sched_model.specs.Decision.{is_decision}
use Rattle.sched_model.specs.Schedule.{entry_in_force}
use Rattle.sched_model.specs.Notes.{Span, spans_of, Piece, all_release_notes, pieces_notes, pieces_of, run_energy, idle_energy, position_of, same_holder}
use Rattle.sched_model.specs.States.{row_at, StateView}
use Rattle.agenda.specs.Agenda.{IsFirstUndone}
use Rattle.event_kernel.specs.declared.in_force.InForce.{InForce}
use Rattle.event_kernel.specs.declared.segment.Segment.{Segment}
use Rattle.event_kernel.specs.declared.span_trace.SpanTrace.{SpanTrace}
use Rattle.event_kernel.specs.SpanNotes.{kept_notes}

-- a span with more units
abbrev pub span_with : Span → List Holder → Span
span_with s us = record { past = s.past; entry = s.entry; units = s.units ++ us }

-- the latest span, which is first in the list
abbrev pub first_span : List Span → Span
first_span [] = record { past = []; entry = 0; units = [] }
first_span (s ∷ spans) = s

-- the span that the tick after `past` belongs to, with its units before that tick
abbrev pub open_span : Plan → JobDemands → PublishedDemand → List Tick → Span
open_span p dem ask past =
    if is_decision p dem past
    then record { past = past; entry = entry_in_force p dem ask past; units = [] }
    else first_span (spans_of p dem past)

-- the notes of a span with these segments
abbrev pub notes_with : Plan → JobDemands → PublishedDemand → Span → List Piece → List Note
notes_with p dem ask s pieces =
    all_release_notes p dem (length s.past)
    ++ Speed (length s.past) ((point p s.entry).speed) ((ask s.past).num) ((ask s.past).den)
    ∷ pieces_notes p dem s 0 pieces

-- the segments of the units are `done` and the open segment; without units there is no segment
abbrev pub IsOpen : Segment → List Piece → List Holder → Type 0
IsOpen seg done us =
    ((us ≡ []) × (done ≡ []) × (seg.units ≡ 0))
    ⊎ ((0 < seg.units) × (pieces_of us ≡ done ++ record { holder = seg.holder; units = seg.units } ∷ []))

-- the notes of a holder's segment from the span's unit `q` on, with the completion that the holder's row shows
abbrev pub holder_notes : Plan → StateView → (ℕ → Pos) → ℕ → ℕ → ℕ → Holder → List Note
holder_notes p s at_unit e q units Nobody = Idle (at_unit q) (at_unit (q + units)) units (idle_energy p e units) ∷ []
holder_notes p s at_unit e q units (Held i k) =
    Run (at_unit q) (at_unit (q + units)) i k units (run_energy p e units)
    ∷ (if (row_at s i).done then Done (at_unit (q + units)) i k (row_at s i).used ∷ [] else [])

-- the entry e in force from tick t on
abbrev pub force_at : Plan → ℕ → ℕ → InForce
force_at p t e = record { from = t; index = e; speed = (point p e).speed }

-- the entry in force in a span
abbrev pub force_of : Plan → Span → InForce
force_of p s = force_at p (length s.past) s.entry

-- the notes of the open segment
abbrev pub written_notes : Plan → StateView → InForce → SpanTrace → List Note
written_notes p s force trace =
    holder_notes p s (position_of force.from force.speed) force.index trace.segment.start trace.segment.units trace.segment.holder

-- the trace after these notes are added
abbrev pub with_notes : SpanTrace → List Note → SpanTrace
with_notes trace notes = record trace { notes = kept_notes (trace.notes ++ notes) }

-- the trace after the notes of its segment are added: the holder's next segment is open, without units
abbrev pub after_segment : Plan → StateView → InForce → SpanTrace → SpanTrace
after_segment p s force trace = record {
  segment = record { holder = trace.segment.holder; start = trace.segment.start + trace.segment.units; units = 0 };
  notes = kept_notes (trace.notes ++ written_notes p s force trace);
}

-- whether a unit of the holder h ends the open segment
abbrev pub is_turn : SpanTrace → Holder → Bool
is_turn trace h = nat_lt 0 trace.segment.units && not (same_holder trace.segment.holder h)

-- the trace with n more units in its segment, and the holder h
abbrev pub with_units : Holder → ℕ → SpanTrace → SpanTrace
with_units h n trace = record { segment = record { holder = h; start = trace.segment.start; units = trace.segment.units + n }; notes = trace.notes }

-- the trace after n units of the holder h: if another holder's segment is open, its notes are added first
abbrev pub after_units : Plan → StateView → InForce → Holder → ℕ → SpanTrace → SpanTrace
after_units p s force h n trace = with_units h n (if is_turn trace h then after_segment p s force trace else trace)

-- the trace after n units in which nobody runs, if there are any
abbrev pub after_idle : Plan → StateView → InForce → ℕ → SpanTrace → SpanTrace
after_idle p s force n trace = if nat_lt 0 n then after_units p s force Nobody n trace else trace

-- the trace at the end of a span: the notes of the open segment are added
abbrev pub ended_trace : Plan → StateView → InForce → SpanTrace → SpanTrace
ended_trace p s force trace = if nat_lt 0 trace.segment.units then after_segment p s force trace else trace

-- the holder is nobody, or a job of one of the first n tasks
abbrev pub HeldIn : ℕ → Holder → Type 0
HeldIn n Nobody = Unit {0}
HeldIn n (Held i k) = i < n

-- the open segment's entry and task exist, the entry has a speed, and the segment's position fits into its number
pub record CanAdd (p : Plan) (s : StateView) (force : InForce) (trace : SpanTrace) : Type 0 where
  pub entry : force.index < length p.machine.points
  pub some_speed : 0 < force.speed
  pub place : force.from + trace.segment.start + trace.segment.units < 2 ^ 63
  pub task : HeldIn (length s.rows) trace.segment.holder

-- units can be entered: the notes of the open segment can be added first, and its units with the new ones are few enough
pub record CanEnter (p : Plan) (s : StateView) (force : InForce) (units : ℕ) (trace : SpanTrace) : Type 0 where
  pub can : CanAdd p s force trace
  pub fits : trace.segment.units + units < u64_end

-- a trace with these notes, and no segment yet
abbrev pub new_trace : List Note → SpanTrace
new_trace notes = record { segment = record { holder = Nobody; start = 0; units = 0 }; notes = notes }

-- the row is the first that is not done; `None`: every row is done
abbrev pub IsFirst : Plan → StateView → Option ℕ → Type 0
IsFirst p s None = (k : ℕ) → k < count p → (row_at s k).done ≡ true
IsFirst p s (Some i) = IsFirstUndone p s (count p) i

-- the holder that is the latest job of a task; `None`: nobody
abbrev pub holder_at : StateView → Option ℕ → Holder
holder_at s None = Nobody
holder_at s (Some i) = Held i (row_at s i).job
