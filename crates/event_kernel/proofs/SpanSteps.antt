-- From one decision to the next.
use Rattle.std.proofs.Common.{◌≡◌, ℕ, zero, suc, ◌+◌, ◌-◌, ◌<◌, ◌≤◌, min, Bool, true, false, ◌||◌, List, [], ◌∷◌, ◌++◌, length, refl, arith, if◌then◌else◌, ap, ap₂, ◌∙◌, sym, subst, ◌⊎◌, inl, inr, nat_eq, nat_lt, nat_le, add-one, drop, true≢false}
use Rattle.std.specs.Prelude.{count_by}
use Rattle.std.proofs.Math.Logic.{⊎_elim}
use Rattle.std.proofs.lemmas.Bool.{cases_lt, or_left, or_right}
use Rattle.std.proofs.lemmas.Bool.Decides.{nat_tests}
use Rattle.dvs_base.specs.declared.note.Note.{Note}
use Rattle.dvs_base.specs.declared.note.Note.TheVariants.{Speed}
use Rattle.dvs_base.specs.declared.limits.TheConstants.{MOST_TICKS}
use Rattle.sched_model.specs.declared.state.Row.{Row}
use Rattle.sched_model.specs.declared.holder.Holder.{Holder}
use Rattle.sched_model.specs.declared.holder.Holder.TheVariants.{Nobody, Held}
use Rattle.event_kernel.proofs.PlanBounds.{parts_of, bounds}
use Rattle.sched_model.specs.Plan.{Plan, count, period, point}
use Rattle.sched_model.specs.Jobs.{JobDemands, latest, due, releases_at, is_release}
use Rattle.sched_model.specs.Ticks.{PublishedDemand, Tick, at, exec, IsMet}
use Rattle.sched_model.specs.Decision.{is_decision}
use Rattle.sched_model.specs.Schedule.{entry_in_force, schedule_by}
use Rattle.sched_model.specs.Notes.{Span, spans_of, pieces_of, same_holder, all_release_notes, span_notes, segment_notes, notes_before_end}
use Rattle.sched_model.specs.States.{row_at, prior_row, prior_state, StateView, state_of, earliest_in}
use Rattle.sched_model.proofs.Schedules.{length-list_below, force-decided}
use Rattle.sched_model.proofs.Spans.{notes-span, stays}
use Rattle.sched_model.proofs.States.{due_released, row_at-prior_state, row_at-state_of, state-still}
use Rattle.grid_fraction.proofs.Searches.{any_below-same}
use Rattle.grid_fraction.proofs.Least.{least-above, least-same}
use Rattle.agenda.proofs.StateQueues.{release-now}
use Rattle.event_kernel.specs.declared.span_trace.SpanTrace.{SpanTrace}
use Rattle.governor.specs.Meanings.{OwnDemand}
use Rattle.governor.specs.Schedule.{ask_of, course}
use Rattle.event_kernel.specs.Segment.{first_span, notes_with, IsOpen, force_at, force_of, written_notes, after_segment, ended_trace, new_trace, CanAdd}
use Rattle.event_kernel.specs.declared.notes.TheConstants.{MOST_NOTES}
use Rattle.event_kernel.specs.SpanNotes.{kept_notes}
use Rattle.event_kernel.proofs.SpanBuffer.{kept_notes-then, kept_notes-all}
use Rattle.event_kernel.specs.SpanTraces.{HeldNow, HoldsSpan}
use Rattle.event_kernel.specs.Tickwork.{had_at, span_at, tick_at, whole_span, notes_before, most_units}
use Rattle.event_kernel.specs.Boundary.{some_due, speed_note}
use Rattle.event_kernel.specs.declared.progress.Setting.{Setting}
use Rattle.event_kernel.specs.declared.in_force.InForce.{InForce}
use Rattle.event_kernel.specs.Settings.{IsAtBoundary, IsBetween, IsInSpan, HasWorked, HasWalked, next_event}
use Rattle.event_kernel.proofs.OpenSegment.{Shows, held-in, tells, notes-more, open-start}
use Rattle.event_kernel.proofs.Courses.{course-next, course-len, exec-within}
use Rattle.agenda.specs.Agenda.{NonePast}
use Rattle.event_kernel.proofs.BoundaryReleases.{prior-past}
use Rattle.freq_table.specs.Tables.{lowest_entry}

pub start_decision : (demand : OwnDemand) (p : Plan) (dem : JobDemands) → is_decision p dem (course demand p dem zero) ≡ true
unfolding schedule_by
start_decision demand p dem = refl

module _ (demand : OwnDemand) (p : Plan) (dem : JobDemands) where
  abbrev pub asks : PublishedDemand
  asks = ask_of demand p dem

  -- the last span of the ticks up to t has the units of tick t
  pub spans-whole : (t : ℕ)
      → spans_of p dem (tick_at demand p dem t ∷ course demand p dem t) ≡ whole_span demand p dem t ∷ spans_of p dem (whole_span demand p dem t).past
  spans-whole t = go t (is_decision p dem (course demand p dem t)) refl
    where
      go : (t : ℕ) (b : Bool) → is_decision p dem (course demand p dem t) ≡ b
          → spans_of p dem (tick_at demand p dem t ∷ course demand p dem t) ≡ whole_span demand p dem t ∷ spans_of p dem (whole_span demand p dem t).past
      go t true e = rw e refl
      go zero false e = absurd (true≢false (sym (start_decision demand p dem) ∙ e))
      go (suc t) false e =
          let s : Span = whole_span demand p dem t in
          let is : spans_of p dem (course demand p dem (suc t)) ≡ s ∷ spans_of p dem s.past =
          ap (spans_of p dem) (ap (course demand p dem) (sym (add-one t)) ∙ course-next demand p dem t)
          ∙ go t (is_decision p dem (course demand p dem t)) refl in
          rw (e, is) refl

  -- if no decision follows tick t, the next tick belongs to the same span
  pub span-on : (t : ℕ) → is_decision p dem (course demand p dem (t + 1)) ≡ false → span_at demand p dem (t + 1) ≡ whole_span demand p dem t
  span-on t e =
      rw e (ap (λ ps. first_span (spans_of p dem ps)) (course-next demand p dem t) ∙ ap first_span (spans-whole t))

  pub span-new : (t : ℕ) → is_decision p dem (course demand p dem t) ≡ true
      → span_at demand p dem t ≡ record { past = course demand p dem t; entry = entry_in_force p dem asks (course demand p dem t); units = [] }
  span-new t e = rw e refl

  -- the notes before some ticks
  abbrev pub notes_to : List Tick → List Note
  notes_to past = notes_before_end p dem asks past

  pub notes-whole : (t : ℕ)
      → notes_to (course demand p dem (t + 1)) ≡ notes_to (whole_span demand p dem t).past ++ span_notes p dem asks (whole_span demand p dem t)
  notes-whole t =
      ap notes_to (course-next demand p dem t)
      ∙ notes-span p dem asks (tick_at demand p dem t ∷ course demand p dem t) (whole_span demand p dem t).past (whole_span demand p dem t) (spans-whole t)

  -- if longer lists keep a property, it passes from the notes before a decision to those before any later tick
  module _ (P : List Note → Type 0) (more : (xs ys : List Note) → P xs → P (xs ++ ys)) (t : ℕ) (here : P (notes_to (course demand p dem t))) where
    next-keeps : (n : ℕ) → P (notes_to (span_at demand p dem (t + n)).past) → P (notes_to (course demand p dem (t + n + 1)))
    next-keeps n at = subst P (sym (notes-whole (t + n))) (more _ (span_notes p dem asks (whole_span demand p dem (t + n))) at)

    past-keeps : (n : ℕ) → is_decision p dem (course demand p dem t) ≡ true → P (notes_to (span_at demand p dem (t + n)).past)
    past-keeps zero e =
        let z : t ≡ t + 0 = omega arith in
        subst (λ k. P (notes_to (span_at demand p dem k).past)) z (subst (λ (s : Span). P (notes_to s.past)) (sym (span-new t e)) here)
    past-keeps (suc n) e =
        let z : t + n + 1 ≡ t + suc n = omega arith in
        subst (λ k. P (notes_to (span_at demand p dem k).past)) z (go (is_decision p dem (course demand p dem (t + n + 1))) refl (past-keeps n e))
      where
        go : (b : Bool) → is_decision p dem (course demand p dem (t + n + 1)) ≡ b → P (notes_to (span_at demand p dem (t + n)).past)
            → P (notes_to (span_at demand p dem (t + n + 1)).past)
        go true d ih = subst (λ (s : Span). P (notes_to s.past)) (sym (span-new (t + n + 1) d)) (next-keeps n ih)
        go false d ih = subst (λ (s : Span). P (notes_to s.past)) (sym (span-on (t + n) d)) ih

    pub all-keeps : (ticks : ℕ) → t ≤ ticks → (t < ticks → is_decision p dem (course demand p dem t) ≡ true) → P (notes_to (course demand p dem ticks))
    all-keeps ticks le decision = elim (cases_lt t ticks) [
      | inr ge ↦ let e : t ≡ ticks = omega (arith, le, ge) in subst (λ m. P (notes_to (course demand p dem m))) e here
      | inl lt ↦
          let e : t + (ticks - t - 1) + 1 ≡ ticks = omega (arith, lt) in
          subst (λ m. P (notes_to (course demand p dem m))) e (next-keeps (ticks - t - 1) (past-keeps (ticks - t - 1) (decision lt)))
    ]

  -- whether a decision follows a tick
  module _ (periods : (i : ℕ) → 0 < period p i) where
    pub due-is : (past : List Tick) (s : StateView) → s ≡ prior_state p dem past → some_due p s ≡ is_release p (length past)
    due-is past s e =
        any_below-same (count p) (λ i. nat_eq (row_at s i).deadline s.now) (λ i. releases_at p i (length past))
        (λ i lt. one i (ap (λ (v : StateView). row_at v i) e ∙ row_at-prior_state p dem past i lt)
        (nat_eq (prior_row p dem past i).deadline (length past)) refl)
      where
        one : (i : ℕ) → row_at s i ≡ prior_row p dem past i → (b : Bool) → nat_eq (prior_row p dem past i).deadline (length past) ≡ b
            → nat_eq (row_at s i).deadline s.now ≡ releases_at p i (length past)
        one i is b q =
            ap₂ (λ x y. nat_eq x y) (ap (λ (r : Row). r.deadline) is) (ap (λ (v : StateView). v.now) e) ∙
            (q ∙ sym (due_released p dem periods past i b q))

  -- a span begins with its releases and its decision
  open-new : (t : ℕ) → is_decision p dem (course demand p dem t) ≡ true
      → notes_with p dem asks (span_at demand p dem t) []
      ≡ all_release_notes p dem t ++ speed_note p t (demand p (state_of p dem (course demand p dem t))) ∷ []
  open-new t e =
      ap (λ (s : Span). notes_with p dem asks s []) (span-new t e)
      ∙ ap₂ (λ n m. all_release_notes p dem n ++ Speed n ((point p m).speed) ((asks (course demand p dem t)).num) ((asks (course demand p dem t)).den)
      ∷ []) (course-len demand p dem t) (force-decided p dem asks (course demand p dem t) e)

  -- the note of a decision, by the state of the schedule
  pub note-is : (t : ℕ) (s : StateView) → s ≡ state_of p dem (course demand p dem t)
      → speed_note p s.now (demand p s) ≡ speed_note p t (demand p (state_of p dem (course demand p dem t)))
  note-is t s e =
      ap (λ (v : StateView). speed_note p v.now (demand p v)) e
      ∙ ap (λ n. speed_note p n (demand p (state_of p dem (course demand p dem t)))) (course-len demand p dem t)

module _ (set : Setting) where
  open parts_of set use {p, dem}
  open bounds set.plan.now set.sound.limits use {some_period, some_task}

  module _ {demand : OwnDemand} where
    decision-is : {t : ℕ} {s : StateView} {trace : SpanTrace} {completed : Bool} → HasWorked set demand t s trace completed
        → is_decision p dem (course demand p dem (t + 1)) ≡ (some_due p s || completed)
    decision-is {t} {s} h =
        ap (is_decision p dem) (course-next demand p dem t)
        ∙ ap₂ (λ a b. a || b)
        (sym (due-is demand p dem some_period (tick_at demand p dem t ∷ course demand p dem t) s
        (h.state ∙ ap (prior_state p dem) (course-next demand p dem t))))
        (sym h.completes)

    -- the state between two spans is at a boundary
    pub at-boundary : (s : StateView) → s.now < MOST_TICKS → IsMet p dem (course demand p dem s.now)
        → s ≡ prior_state p dem (course demand p dem s.now) → IsAtBoundary set demand s
    at-boundary s early met e = record {
      early = early;
      state = e;
      due_done = λ i lt q. ap (λ (r : Row). r.done) (row-is i lt)
          ∙ done (course demand p dem s.now) met i lt (sym (ap (λ (r : Row). r.deadline) (row-is i lt)) ∙ (q ∙ ap (λ (v : StateView). v.now) e));
    }
      where
        row-is : (i : ℕ) → i < count p → row_at s i ≡ prior_row p dem (course demand p dem s.now) i
        row-is i lt = ap (λ (v : StateView). row_at v i) e ∙ row_at-prior_state p dem (course demand p dem s.now) i lt

        done : (past : List Tick) → IsMet p dem past → (i : ℕ) → i < count p → (prior_row p dem past i).deadline ≡ length past
            → (prior_row p dem past i).done ≡ true
        done [] met i lt q = refl
        done (x ∷ past) met i lt q = closed_at (latest p i (length past)) refl
          where
            closed_at : (k : ℕ) → latest p i (length past) ≡ k → (prior_row p dem (x ∷ past) i).done ≡ true
            closed_at zero first =
                let needs : dem i (latest p i (length past)) ≡ 0 = ap (dem i) first ∙ set.sound.within.none i in
                grind (arith, nat_tests, needs)
            closed_at (suc k) born =
                let here : exec p (at (due p i (latest p i (length past))) (x ∷ past)) i (latest p i (length past)) ≡ dem i (latest p i (length past)) =
                met i (latest p i (length past)) lt (omega (arith, born)) (omega (arith, q)) in
                let whole : length (x ∷ past) - due p i (latest p i (length past)) ≡ 0 = omega (arith, q) in
                let all : exec p (x ∷ past) i (latest p i (length past)) ≡ dem i (latest p i (length past)) =
                sym (ap (λ n. exec p (drop n (x ∷ past)) i (latest p i (length past))) whole) ∙ here in
                let enough : dem i (latest p i (length past)) ≤ exec p (x ∷ past) i (latest p i (length past)) = omega (arith, all) in
                grind (arith, nat_tests, enough)

    pub begins-span : (force : InForce) (s0 s : StateView) (trace : SpanTrace) → s0.now < set.ticks → IsBetween set demand s0
        → s ≡ state_of p dem (course demand p dem s0.now) → force ≡ force_at p s.now (lowest_entry p.machine (demand p s))
        → trace ≡ new_trace (kept_notes (all_release_notes p dem s0.now ++ speed_note p s.now (demand p s) ∷ []))
        → IsInSpan set demand force s.now s trace
    begins-span force s0 s trace lt b is ee pe = subst (λ n. IsInSpan set demand force n s trace) (sym same) (record {
      before_end = lt;
      later = omega (arith, from);
      state = is;
      began = ap (λ (x : Span). x.past) new ∙ ap (course demand p dem) (sym from);
      force_is = ee ∙ (ap₂ (force_at p) (ap (λ (v : StateView). v.now) is) picked ∙ sym (ap (force_of p) new));
      in_force = ap (λ (f : InForce). f.index) ee ∙ picked;
      writing = subst (λ x. HoldsSpan p dem (ask_of demand p dem) t x (had_at p (course demand p dem t)) (most_units t) trace) (sym new)
          (subst (λ q. HoldsSpan p dem (ask_of demand p dem) t fresh (had_at p (course demand p dem t)) (most_units t) q) (sym pe) (record {
            done = [];
            segments = inl (refl, refl, refl);
            place = omega arith;
            taken = tt;
            had = λ i l. plus_none i;
            few = omega arith;
            notes = ap (λ n. kept_notes (all_release_notes p dem t ++ n ∷ [])) (note-is demand p dem t s is)
                ∙ ap kept_notes (sym (open-new demand p dem t (b.decision lt)) ∙ ap (λ (x : Span). notes_with p dem (ask_of demand p dem) x []) new);
          }));
    })
      where
        t : ℕ
        t = s0.now

        same : s.now ≡ t
        same = ap (λ (v : StateView). v.now) is ∙ course-len demand p dem t

        fresh : Span
        fresh = record { past = course demand p dem t; entry = entry_in_force p dem (ask_of demand p dem) (course demand p dem t); units = [] }

        new : span_at demand p dem t ≡ fresh
        new = span-new demand p dem t (b.decision lt)

        from : force.from ≡ t
        from = ap (λ (f : InForce). f.from) ee ∙ same

        picked : lowest_entry p.machine (demand p s) ≡ entry_in_force p dem (ask_of demand p dem) (course demand p dem t)
        picked =
            ap (λ v. lowest_entry p.machine (demand p v)) is
            ∙ sym (force-decided p dem (ask_of demand p dem) (course demand p dem t) (b.decision lt))

        plus_none : (i : ℕ) → exec p (course demand p dem t) i (latest p i t) + 0 ≡ had_at p (course demand p dem t) i
        plus_none i = let z : exec p (course demand p dem t) i (latest p i t) + 0 ≡ exec p (course demand p dem t) i (latest p i t) = omega arith in
            z ∙ ap (λ n. exec p (course demand p dem t) i (latest p i n)) (sym (course-len demand p dem t))

    -- the span goes on after a tick
    pub goes-on : {force : InForce} {t : ℕ} {s0 s : StateView} {trace0 trace : SpanTrace} → IsInSpan set demand force t s0 trace0
        → HasWorked set demand t s trace false → some_due p s ≡ false → t + 1 < set.ticks → IsInSpan set demand force (t + 1) s trace
    goes-on {force} {t} {s0} {s} {trace0} {trace} i h quiet lt = record {
      before_end = lt;
      later = omega (arith, i.later);
      state = h.state ∙ state-still p dem some_period (course demand p dem (t + 1)) set.sound.within.none no_release;
      began = ap (λ (x : Span). x.past) on ∙ i.began;
      force_is = i.force_is ∙ sym (ap (force_of p) on);
      in_force = i.in_force ∙ sym still;
      writing = subst (λ x. HoldsSpan p dem (ask_of demand p dem) (t + 1) x (had_at p (course demand p dem (t + 1))) (most_units (t + 1)) trace)
          (sym on) (record {
            done = h.writing.done;
            segments = h.writing.segments;
            place = h.writing.place;
            taken = held trace.segment.holder h.writing.taken;
            had =
                λ k l. subst
                (λ n. exec p (whole_span demand p dem t).past k n + count_by (same_holder (Held k n)) (whole_span demand p dem t).units
                ≡ exec p (course demand p dem (t + 1)) k (latest p k (length (course demand p dem (t + 1))))) (sym (steady k l))
                (h.writing.had k l ∙ ap (λ n. exec p (course demand p dem (t + 1)) k n)
                (sym (steady k l) ∙ ap (latest p k) (sym (course-len demand p dem (t + 1)))));
            few = h.writing.few;
            notes = h.writing.notes;
          });
    }
      where
        past : List Tick
        past = course demand p dem t

        x : Tick
        x = tick_at demand p dem t

        none : is_decision p dem (course demand p dem (t + 1)) ≡ false
        none = decision-is h ∙ ap (λ b. b || false) quiet

        on : span_at demand p dem (t + 1) ≡ whole_span demand p dem t
        on = span-on demand p dem t none

        no_release : is_release p (length (course demand p dem (t + 1))) ≡ false
        no_release = sym (due-is demand p dem some_period (course demand p dem (t + 1)) s h.state) ∙ quiet

        steady : (k : ℕ) → k < count p → latest p k (t + 1) ≡ latest p k t
        steady k l =
            ap (latest p k) (sym (course-len demand p dem (t + 1)) ∙ ap length (course-next demand p dem t))
            ∙ (stays p dem some_period x past (ap (is_decision p dem) (sym (course-next demand p dem t)) ∙ none) k l
            ∙ ap (latest p k) (course-len demand p dem t))

        still : entry_in_force p dem (ask_of demand p dem) (course demand p dem (t + 1)) ≡ entry_in_force p dem (ask_of demand p dem) past
        still =
            ap (entry_in_force p dem (ask_of demand p dem)) (course-next demand p dem t) ∙ ap
            (λ b. if b then lowest_entry p.machine ((ask_of demand p dem) (x ∷ past)) else entry_in_force p dem (ask_of demand p dem) past)
            (ap (is_decision p dem) (sym (course-next demand p dem t)) ∙ none)

        held : (k : Holder) → HeldNow p t k → HeldNow p (t + 1) k
        held Nobody q = tt
        held (Held k j) q = (q.0, q.1 ∙ sym (steady k q.0))

    -- whether the span ends, as the code computes it
    module _ {force : InForce} {t : ℕ} {s0 s : StateView} {trace0 trace : SpanTrace} {completed : Bool} (i : IsInSpan set demand force t s0 trace0)
        (h : HasWorked set demand t s trace completed) where
      pub now-next : s.now ≡ t + 1
      now-next = ap (λ (v : StateView). v.now) h.state ∙ course-len demand p dem (t + 1)

      last-is : t ≡ s.now - 1
      last-is = omega (arith, now-next)

      past-next : NonePast p s
      past-next = subst (λ (v : StateView). NonePast p v) (sym h.state) (prior-past p dem (course demand p dem (t + 1)) some_period)

      -- a tick releases no job, so the next release stays
      pub same-event : next_event set s0 ≡ next_event set s
      same-event = ap (min set.ticks) (least-same (count p) (λ k. (row_at s0 k).deadline) (λ k. (row_at s k).deadline)
          (λ k lt. ap (λ (r : Row). r.deadline)
          (ap (λ (v : StateView). row_at v k) i.state ∙ row_at-state_of p dem (course demand p dem t) k lt)
          ∙ sym (ap (λ (r : Row). r.deadline) (ap (λ (v : StateView). row_at v k) (h.state ∙ ap (prior_state p dem) (course-next demand p dem t))
          ∙ row_at-prior_state p dem (tick_at demand p dem t ∷ course demand p dem t) k lt))))

      early : s.now ≤ earliest_in p s
      early = least-above (count p) (λ k. (row_at s k).deadline) s.now some_task past-next

      -- at the next event a job is released, or the run ends
      at-event : s.now ≡ next_event set s0 → t + 1 < set.ticks → some_due p s ≡ true
      at-event e lt =
          let due : earliest_in p s ≡ s.now = omega (arith, e, same-event, now-next, lt) in
          sym (release-now p s some_task past-next) ∙ grind (arith, nat_tests, due)

      pub walked-end : (completed ≡ true) ⊎ (s.now ≡ next_event set s0) → HasWalked set demand force (s.now - 1) s trace
      walked-end ends = subst (λ n. HasWalked set demand force n s trace) last-is (record {
        now = now-next;
        before_end = i.before_end;
        later = i.later;
        began = i.began;
        force_is = i.force_is;
        completed = completed;
        worked = h;
        decision = λ lt. decision-is h ∙ ⊎_elim (or_right (some_due p s) completed) (λ e. or_left (some_due p s) completed (at-event e lt)) ends;
      })

      pub walked-on : completed ≡ false → (s.now ≡ next_event set s0 → ⊥) → IsInSpan set demand force s.now s trace
      walked-on none more =
          let before : s.now < next_event set s = omega (arith, early, same-event, now-next, i.before_end, more) in
          let differ : nat_eq (earliest_in p s) s.now ≡ false = grind (arith, nat_tests, before) in
          subst (λ n. IsInSpan set demand force n s trace) (sym now-next)
          (goes-on i (subst (λ b. HasWorked set demand t s trace b) none h) (sym (release-now p s some_task past-next) ∙ differ)
          (omega (arith, before, now-next)))

    -- the end of a span
    module _ {force : InForce} {last : ℕ} {s : StateView} {trace : SpanTrace} (h : HasWalked set demand force last s trace) where
      abbrev pub whole : Span
      whole = whole_span demand p dem last

      w : HoldsSpan p dem (ask_of demand p dem) last whole (λ i. exec p (course demand p dem (last + 1)) i (latest p i last)) (most_units (last + 1)) trace
      w = h.worked.writing

      row-last : (i : ℕ) → i < count p → row_at s i ≡ prior_row p dem (tick_at demand p dem last ∷ course demand p dem last) i
      row-last i lt =
          ap (λ (v : StateView). row_at v i) (h.worked.state ∙ ap (prior_state p dem) (course-next demand p dem last))
          ∙ row_at-prior_state p dem (tick_at demand p dem last ∷ course demand p dem last) i lt

      had-last : (i : ℕ)
          → exec p (tick_at demand p dem last ∷ course demand p dem last) i (latest p i (length (course demand p dem last)))
          ≡ exec p (course demand p dem (last + 1)) i (latest p i last)
      had-last i = ap₂ (λ (ps : List Tick) n. exec p ps i (latest p i n)) (sym (course-next demand p dem last)) (course-len demand p dem last)

      shown : Shows p dem last s (λ i. exec p (course demand p dem (last + 1)) i (latest p i last))
      shown = record {
        used_is = λ i lt. ap (λ (r : Row). r.used) (row-last i lt) ∙ had-last i;
        done_is = λ i lt. ap (λ (r : Row). r.done) (row-last i lt) ∙ ap₂ (λ n u. nat_le (dem i (latest p i n)) u) (course-len demand p dem last) (had-last i);
        within = λ i lt. exec-within demand p dem (last + 1) i (latest p i last) lt;
      }

      told-last : segment_notes p dem whole trace.segment.start trace.segment.units trace.segment.holder ≡ written_notes p s force trace
      told-last =
          tells p dem (ask_of demand p dem) last whole (λ i. exec p (course demand p dem (last + 1)) i (latest p i last)) s trace.segment.start
          trace.segment.units trace.segment.holder w.taken w.place w.had shown
          ∙ ap (λ f. written_notes p s f trace) (sym h.force_is)

      -- the trace has the notes of the span
      ended_trace-whole : (ended_trace p s force trace).notes ≡ kept_notes (span_notes p dem (ask_of demand p dem) whole)
      ended_trace-whole = go w.segments
        where
          go : IsOpen trace.segment w.done whole.units → (ended_trace p s force trace).notes
              ≡ kept_notes (span_notes p dem (ask_of demand p dem) whole)
          go (inl q) =
              ap (λ b. (if b then after_segment p s force trace else trace).notes) (ap (nat_lt 0) q.2)
              ∙ (w.notes ∙ ap (λ rs. kept_notes (notes_with p dem (ask_of demand p dem) whole rs)) (q.1 ∙ sym (ap pieces_of q.0)))
          go (inr q) =
              let pos = q.0 in
              let some : nat_lt 0 trace.segment.units ≡ true = grind (arith, nat_tests) in
              ap (λ b. (if b then after_segment p s force trace else trace).notes) some
              ∙ (kept_notes-then trace.notes (notes_with p dem (ask_of demand p dem) whole w.done) (written_notes p s force trace) w.notes
              ∙ ap kept_notes (sym (ap (notes_with p dem (ask_of demand p dem) whole) q.1
              ∙ (notes-more p dem (ask_of demand p dem) last whole w.done (record { holder = trace.segment.holder; units = trace.segment.units })
              ∙ ap (λ ns. notes_with p dem (ask_of demand p dem) whole w.done ++ ns)
              (ap (λ k. segment_notes p dem whole k trace.segment.units trace.segment.holder)
              (open-start p dem (ask_of demand p dem) last trace.segment w.done whole.units q.0 q.1 w.place) ∙ told-last)))))

      pub closing-notes : length (span_notes p dem (ask_of demand p dem) whole) ≤ MOST_NOTES
          → notes_before demand p dem (last + 1) ≡ notes_before demand p dem force.from ++ (ended_trace p s force trace).notes
      closing-notes few =
          notes-whole demand p dem last
          ∙ ap₂ (λ (ps : List Tick) ns. notes_to demand p dem ps ++ ns) h.began
          (sym (ended_trace-whole ∙ kept_notes-all (span_notes p dem (ask_of demand p dem) whole) few))

      pub closing-can : force.index < length p.machine.points → 0 < force.speed → CanAdd p s force trace
      closing-can there some = record {
        entry = there;
        some_speed = some;
        place = omega (arith, w.place, w.few, h.later, h.before_end, set.sound.low_ticks);
        task = held-in p last rows trace.segment.holder w.taken;
      }
        where
          rows : length s.rows ≡ count p
          rows = ap (λ (v : StateView). length v.rows) h.worked.state ∙ length-list_below (count p) (prior_row p dem (course demand p dem (last + 1)))
