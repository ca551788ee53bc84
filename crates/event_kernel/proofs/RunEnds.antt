-- The end of a span, and of a run.
use Rattle.std.proofs.Common.{◌≡◌, ℕ, ◌+◌, ◌-◌, ◌<◌, ◌≤◌, Bool, List, [], ◌∷◌, ◌++◌, length, refl, arith, true, ap, ap₂, ◌∙◌, sym, subst, inl}
use Rattle.std.specs.Prelude.{sum_by, count_by}
use Rattle.std.proofs.lemmas.List.Sums.{sum_by-append, sum_by-cons}
use Rattle.grid_fraction.proofs.Counts.{count-append}
use Rattle.dvs_base.specs.declared.note.Note.{Note}
use Rattle.dvs_base.specs.declared.note.Note.TheVariants.{End}
use Rattle.dvs_base.specs.declared.note.Totals.{Totals}
use Rattle.sched_model.specs.Plan.{Plan}
use Rattle.sched_model.specs.Jobs.{JobDemands}
use Rattle.sched_model.specs.Schedule.{schedule_by}
use Rattle.sched_model.specs.Decision.{is_decision}
use Rattle.sched_model.specs.Ticks.{Tick}
use Rattle.governor.specs.Meanings.{OwnDemand}
use Rattle.governor.specs.Schedule.{course}
use Rattle.sched_model.specs.Notes.{notes_before_end, run_energy_told, idle_energy_told}
use Rattle.sched_model.specs.States.{prior_state, StateView}
use Rattle.sched_model.specs.Totals.{totals_of, is_released, is_finished, is_decided}
use Rattle.energy.specs.Books.{Books}
use Rattle.event_kernel.specs.declared.span_trace.SpanTrace.{SpanTrace}
use Rattle.event_kernel.specs.SpanNotes.{all_booked, CanBook, HasBooked, notes_before_end_of}
use Rattle.event_kernel.specs.Runs.{Run, demands_of, notes_of_run}
use Rattle.event_kernel.specs.Segment.{ended_trace}
use Rattle.event_kernel.specs.Start.{run_of}
use Rattle.event_kernel.specs.Heard.{HasHeard, HasBalked}
use Rattle.event_kernel.proofs.HeardLists.{heard-append, balked-append, balked_after}
use Rattle.event_kernel.specs.Tickwork.{notes_before}
use Rattle.event_kernel.specs.declared.progress.Setting.{Setting}
use Rattle.event_kernel.specs.declared.in_force.InForce.{InForce}
use Rattle.event_kernel.proofs.PlanBounds.{parts_of}
use Rattle.event_kernel.specs.Settings.{IsBetween, HasWalked}
use Rattle.event_kernel.proofs.RunAccount.{book-all, booked-totals}
use Rattle.event_kernel.proofs.NoteRoom.{AreBooked, course-fits}
use Rattle.event_kernel.proofs.SpanSteps.{closing-notes}
use Rattle.event_kernel.proofs.Courses.{course-len}

module _ {demand : OwnDemand} {set : Setting} {force : InForce} {s : StateView} {trace : SpanTrace}
    (h : HasWalked set demand force (s.now - 1) s trace) where
  open parts_of set use {p, dem}

  next : s.now - 1 + 1 ≡ s.now
  next = sym h.now

  pub close-between : IsBetween set demand s
  close-between = record {
    state = subst (λ n. s ≡ prior_state p dem (course demand p dem n)) next h.worked.state;
    decision = subst (λ n. n < set.ticks → is_decision p dem (course demand p dem n) ≡ true) next h.decision;
  }

  pub close-notes : notes_before demand p dem s.now ≡ notes_before demand p dem force.from ++ (ended_trace p s force trace).notes
  close-notes =
      ap (notes_before demand p dem) (sym next)
      ∙ closing-notes set h (course-fits demand p dem set.sound.limits set.sound.within.none (s.now - 1)).span

-- the notes of a run up to a tick
module _ (demand : OwnDemand) (set : Setting) where
  abbrev jobs : JobDemands
  jobs = demands_of set.plan.now set.demands.now

  abbrev up_to : ℕ → List Note
  up_to = notes_before demand set.plan.now jobs

  -- the opening state is before the first span, at tick 0, and has no notes
  pub first-between : {s : StateView} → s ≡ prior_state set.plan.now jobs [] → IsBetween set demand s × (up_to s.now ≡ []) × (s.now ≡ 0)
  unfolding schedule_by notes_before_end
  first-between {s} e =
      let now : s.now ≡ 0 = ap (λ (v : StateView). v.now) e in
      let past : ℕ → List Tick = course demand set.plan.now jobs in (
        record {
          state = subst (λ n. s ≡ prior_state set.plan.now jobs (past n)) (sym now) e;
          decision = subst (λ n. n < set.ticks → is_decision set.plan.now jobs (past n) ≡ true) (sym now) (λ lt. refl);
        },
        ap up_to now,
        now,
      )

  -- the notes of a span can be added to the account, and it has them then
  pub span-booked : (t t' : ℕ) (ns : List Note) (b : Books) (e : ℕ) → t' ≤ set.ticks → up_to t' ≡ up_to t ++ ns
      → HasBooked set.plan.now b (up_to t) → e < length set.plan.now.machine.points
      → CanBook b ns e × HasBooked set.plan.now (all_booked b ns e) (up_to t')
  span-booked t t' ns b e early is h lt =
      let fits = (course-fits demand set.plan.now jobs set.sound.limits set.sound.within.none t').all (omega (arith, early, set.sound.low_ticks)) in
      let all = book-all set.plan.now ns b (up_to t) e h (subst (AreBooked set.plan.now) is fits) lt in
      (all.0, subst (HasBooked set.plan.now (all_booked b ns e)) (sym is) all.1)

  -- what holds of the notes up to the last tick holds of all notes before the `End`
  pub at-end : {r : Run} → run_of set ≡ r → {n : ℕ} → n ≡ set.ticks → (P : Plan → List Note → Type 0) → P set.plan.now (up_to n)
      → P r.plan (notes_before_end_of demand r)
  at-end is all P here =
      subst (λ (r : Run). P r.plan (notes_before_end_of demand r)) is (subst (λ n. P set.plan.now (up_to n)) all here)

-- all notes of a run, and their totals
module _ (demand : OwnDemand) (r : Run) where
  abbrev before : List Note
  before = notes_before_end_of demand r

  -- the `End` adds nothing to the totals
  sum-end : (f : Note → ℕ) (n : Note) → f n ≡ 0 → sum_by f before ≡ sum_by f (before ++ n ∷ [])
  sum-end f n none = omega (arith, sum_by-append f before (n ∷ []), sum_by-cons f n [], none)

  count-end : (test : Note → Bool) (n : Note) → count_by test (n ∷ []) ≡ 0 → count_by test before ≡ count_by test (before ++ n ∷ [])
  count-end test n none = omega (arith, count-append test before (n ∷ []), none)

  totals-end : (ticks run idle : ℕ) → totals_of before ≡ totals_of (before ++ End ticks run idle ∷ [])
  totals-end ticks run idle j = record {
    run = sum-end run_energy_told (End ticks run idle) refl j;
    idle = sum-end idle_energy_told (End ticks run idle) refl j;
    released = count-end is_released (End ticks run idle) refl j;
    finished = count-end is_finished (End ticks run idle) refl j;
    decisions = count-end is_decided (End ticks run idle) refl j;
  }

  pub run-totals : (b : Books) → HasBooked r.plan b before → b.totals ≡ totals_of (notes_of_run demand r)
  run-totals b h = booked-totals r.plan b before h ∙ totals-end _ _ _

  run-notes : {n : ℕ} {t : Totals} {end : Note} → n ≡ r.ticks → t ≡ totals_of (notes_of_run demand r) → end ≡ End n t.run t.idle
      → before ++ end ∷ [] ≡ notes_of_run demand r
  run-notes whole total is =
      ap (λ n. before ++ n ∷ []) (is ∙ ap₂ (λ m (x : Totals). End m x.run x.idle) (whole ∙ sym (course-len demand r.plan _ r.ticks))
      (total ∙ sym (totals-end _ _ _)))

  -- a listener hears the notes before the `End`, and then the `End`
  module _ {L : Type 0} (heard balked : L → Note → L → Type 0) (from mid to : L) where
    pub early-balked : HasBalked heard balked from before to → HasBalked heard balked from (notes_of_run demand r) to
    early-balked left = balked-append heard balked before _ from to left

    pub end-heard : {n : ℕ} {t : Totals} {end : Note} → n ≡ r.ticks → t ≡ totals_of (notes_of_run demand r) → end ≡ End n t.run t.idle
        → HasHeard heard from before mid → heard mid end to → HasHeard heard from (notes_of_run demand r) to
    end-heard {end = end} whole total is left last =
        subst (λ ns. HasHeard heard from ns to) (run-notes whole total is)
        (heard-append heard balked before (end ∷ []) from mid to left (to, last, refl))

    pub end-balked : {n : ℕ} {t : Totals} {end : Note} → n ≡ r.ticks → t ≡ totals_of (notes_of_run demand r) → end ≡ End n t.run t.idle
        → HasHeard heard from before mid → balked mid end to → HasBalked heard balked from (notes_of_run demand r) to
    end-balked {end = end} whole total is left last =
        subst (λ ns. HasBalked heard balked from ns to) (run-notes whole total is)
        (balked_after heard balked before (end ∷ []) from mid to left (inl last))
