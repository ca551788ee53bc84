-- What the contracts of a run say: its setting, and how far the run is.
use Rattle.std.specs.Prelude.{◌≡◌, ℕ, ◌+◌, ◌*◌, ◌<◌, ◌≤◌, Bool, true, List, ◌++◌, Option, Some, min}
use Rattle.grid_fraction.specs.Numbers.{any_below}
use Rattle.dvs_base.specs.declared.note.Note.{Note}
use Rattle.dvs_base.specs.declared.limits.TheConstants.{MOST_TICKS}
use Rattle.sched_model.specs.Plan.{Plan, count}
use Rattle.sched_model.specs.Jobs.{JobDemands, latest}
use Rattle.sched_model.specs.Ticks.{exec, IsMet}
use Rattle.sched_model.specs.Decision.{is_decision, completes_in}
use Rattle.sched_model.specs.Schedule.{entry_in_force}
use Rattle.sched_model.specs.States.{row_at, prior_state, state_of, StateView, earliest_in}
use Rattle.governor.specs.Meanings.{OwnDemand}
use Rattle.governor.specs.Schedule.{ask_of, course}
use Rattle.event_kernel.specs.declared.progress.Setting.{Setting}
use Rattle.event_kernel.specs.declared.in_force.InForce.{InForce}
use Rattle.event_kernel.specs.declared.span_trace.SpanTrace.{SpanTrace}
use Rattle.event_kernel.specs.Runs.{demands_of}
use Rattle.event_kernel.specs.Segment.{force_of}
use Rattle.event_kernel.specs.Tickwork.{had_at, span_at, tick_at, whole_span, notes_before, most_units}
use Rattle.event_kernel.specs.SpanTraces.{HoldsSpan}

module _ (set : Setting) where
  abbrev p : Plan
  p = set.plan.now

  abbrev dem : JobDemands
  dem = demands_of set.plan.now set.demands.now

  -- the tick of the next event that is known ahead: the next release, or the end of the run
  abbrev pub next_event : StateView → ℕ
  next_event s = min set.ticks (earliest_in p s)

  -- The n ticks after a state are quiet: the run doesn't end in them, no job is released in them or at their end, and
  -- the first job is not completed in them.
  pub record AreQuiet (force : InForce) (s : StateView) (first : Option ℕ) (n : ℕ) : Type 0 where
    pub before_end : s.now + n < set.ticks
    pub no_release : (k : ℕ) → k < count p → s.now + n < (row_at s k).deadline
    pub not_done : (i : ℕ) → first ≡ Some i → (row_at s i).used + n * force.speed < dem i (row_at s i).job

  module _ (demand : OwnDemand) where
    -- the state at the tick t of a governor's schedule, after its releases
    abbrev pub state_at : ℕ → StateView
    state_at t = state_of p dem (course demand p dem t)

    -- these notes are those from one tick to another
    abbrev pub AddsNotes : ℕ → ℕ → List Note → Type 0
    AddsNotes from to notes = notes_before demand p dem to ≡ notes_before demand p dem from ++ notes

    -- every deadline before the tick t is met
    abbrev pub IsMetBy : ℕ → Type 0
    IsMetBy t = IsMet p dem (course demand p dem t)

    -- the state is at the boundary of its tick, before the releases, and every due row is done
    pub record IsAtBoundary (s : StateView) : Type 0 where
      pub early : s.now < MOST_TICKS
      pub state : s ≡ prior_state p dem (course demand p dem s.now)
      pub due_done : (i : ℕ) → i < count p → (row_at s i).deadline ≡ s.now → (row_at s i).done ≡ true

    -- the state is between two spans: a decision comes next, or the end of the run
    pub record IsBetween (s : StateView) : Type 0 where
      pub state : s ≡ prior_state p dem (course demand p dem s.now)
      pub decision : s.now < set.ticks → is_decision p dem (course demand p dem s.now) ≡ true

    -- the state is in a span, at tick t, after the releases and the decision; the trace holds the span up to there
    pub record IsInSpan (force : InForce) (t : ℕ) (s : StateView) (trace : SpanTrace) : Type 0 where
      pub before_end : t < set.ticks
      pub later : force.from ≤ t
      pub state : s ≡ state_of p dem (course demand p dem t)
      pub began : (span_at demand p dem t).past ≡ course demand p dem force.from
      pub force_is : force ≡ force_of p (span_at demand p dem t)
      pub in_force : force.index ≡ entry_in_force p dem (ask_of demand p dem) (course demand p dem t)
      pub writing : HoldsSpan p dem (ask_of demand p dem) t (span_at demand p dem t) (had_at p (course demand p dem t)) (most_units t) trace

    -- the state is after the units of tick t, the trace holds them, and `completed` says whether a job completed in it
    pub record HasWorked (t : ℕ) (s : StateView) (trace : SpanTrace) (completed : Bool) : Type 0 where
      pub state : s ≡ prior_state p dem (course demand p dem (t + 1))
      pub writing : HoldsSpan p dem (ask_of demand p dem) t (whole_span demand p dem t)
          (λ i. exec p (course demand p dem (t + 1)) i (latest p i t)) (most_units (t + 1)) trace
      pub completes : completed ≡ any_below (count p) (completes_in p dem (tick_at demand p dem t) (course demand p dem t))

    -- the state is at the end of its span, whose last tick is `last`
    pub record HasWalked (force : InForce) (last : ℕ) (s : StateView) (trace : SpanTrace) : Type 0 where
      pub now : s.now ≡ last + 1
      pub before_end : last < set.ticks
      pub later : force.from ≤ last
      pub began : (span_at demand p dem last).past ≡ course demand p dem force.from
      pub force_is : force ≡ force_of p (span_at demand p dem last)
      pub completed : Bool
      pub worked : HasWorked last s trace completed
      pub decision : last + 1 < set.ticks → is_decision p dem (course demand p dem (last + 1)) ≡ true
