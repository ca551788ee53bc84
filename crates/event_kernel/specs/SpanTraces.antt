-- What the trace holds in a tick of a span.
use Rattle.std.specs.Prelude.{ℕ, ◌≡◌, ◌<◌, List, ◌+◌, ◌≤◌, length, count_by}
use Rattle.sched_model.specs.Plan.{Plan, count}
use Rattle.sched_model.specs.Jobs.{JobDemands, latest}
use Rattle.sched_model.specs.declared.holder.Holder.{Holder}
use Rattle.sched_model.specs.declared.holder.Holder.TheVariants.{Nobody, Held}
use Rattle.sched_model.specs.Ticks.{PublishedDemand, exec}
use Rattle.sched_model.specs.Notes.{same_holder, Span, Piece}
use Rattle.event_kernel.specs.declared.span_trace.SpanTrace.{SpanTrace}
use Rattle.event_kernel.specs.Segment.{notes_with, IsOpen}
use Rattle.event_kernel.specs.SpanNotes.{kept_notes}

-- the holder is nobody, or the latest job of a task
abbrev pub HeldNow : Plan → ℕ → Holder → Type 0
HeldNow p t Nobody = Unit {0}
HeldNow p t (Held i k) = (i < count p) × (k ≡ latest p i t)

-- The trace holds the open segment of a span's units, and the notes of the span before it. `used` is the units that the
-- latest job of each task has had, and `most` bounds the units so far.
pub record HoldsSpan (p : Plan) (dem : JobDemands) (ask : PublishedDemand) (t : ℕ) (s : Span) (used : ℕ → ℕ) (most : ℕ) (trace : SpanTrace) : Type 0 where
  pub done : List Piece
  pub segments : IsOpen trace.segment done s.units
  pub place : trace.segment.start + trace.segment.units ≡ length s.units
  pub taken : HeldNow p t trace.segment.holder
  pub had : (i : ℕ) → i < count p → exec p s.past i (latest p i t) + count_by (same_holder (Held i (latest p i t))) s.units ≡ used i
  pub few : length s.units ≤ most
  pub notes : trace.notes ≡ kept_notes (notes_with p dem ask s done)
