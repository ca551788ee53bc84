use Rattle.std.proofs.Common.{◌≡◌, ◌≢◌, ℕ, ◌+◌, ◌<◌, ◌≤◌, Bool, List, arith, ap, ◌∙◌, sym, subst, true, false, rules}
use Rattle.sched_model.specs.Plan.{Plan, count}
use Rattle.sched_model.proofs.Limits.{every_period}
use Rattle.sched_model.specs.Jobs.{JobDemands}
use Rattle.sched_model.specs.Ticks.{Tick}
use Rattle.sched_model.specs.States.{StateView, row_at, row_wleft, after_mark, CanRelease, IsOfPlan}
use Rattle.sched_model.specs.Notes.{all_release_notes}
use Rattle.governor.specs.Meanings.{OwnDemand}
use Rattle.governor.specs.Schedule.{course}
use Rattle.agenda.specs.Agenda.{IsFirstDue, due_left}
use Rattle.agenda.proofs.StateQueues.{due-falls}
use Rattle.event_kernel.specs.declared.progress.Setting.{Setting}
use Rattle.event_kernel.specs.declared.span_trace.SpanTrace.{SpanTrace}
use Rattle.event_kernel.specs.Current.{latest_demands}
use Rattle.event_kernel.specs.Runs.{demands_of}
use Rattle.event_kernel.specs.Segment.{with_notes}
use Rattle.event_kernel.specs.Settings.{IsAtBoundary, state_at}
use Rattle.event_kernel.proofs.PlanBounds.{bounds}
use Rattle.event_kernel.proofs.Courses.{course-len}
use Rattle.event_kernel.proofs.SpanBuffer.{with-none}
use Rattle.std.proofs.lemmas.List.{length-map}
use Rattle.event_kernel.proofs.BoundaryReleases.{HasReleased, notes_upto, releasing-start, none-past, at-due, at-end, opens, opens-trace, can-release, released-marked, released-unmarked, prior-done}
use Rattle.event_kernel.proofs.progress.Progress.release_all.Goals as goal

-- the rows of the first m tasks are released
module _ {demand : OwnDemand} {set : Setting} {s0 : StateView} (here : IsAtBoundary set demand s0)
    {m : ℕ} {any : Bool} {st : StateView} (r : HasReleased set.plan.now (demands_of set.plan.now set.demands.now)
    (course demand set.plan.now (demands_of set.plan.now set.demands.now) s0.now) m any st) where
  abbrev p : Plan
  p = set.plan.now

  abbrev dem : JobDemands
  dem = demands_of p set.demands.now

  abbrev past : List Tick
  past = course demand p dem s0.now

  -- the step to the next task that is due
  module _ {i : ℕ} (d : IsFirstDue p st i) where
    at : HasReleased p dem past i any st × (notes_upto p dem past m ≡ notes_upto p dem past i)
    at = at-due (every_period p set.sound.limits) r set.sound.within.none d

    can : CanRelease p st i
    can =
        can-release (every_period p set.sound.limits) at.0 d.below d.due (bounds p set.sound.limits) (omega (arith, course-len demand p dem s0.now, here.early))
        (prior-done here i d.below)

  -- the end, if no task is due
  module _ (le : m ≤ count p) (none : (k : ℕ) → k < count p → (row_at st k).deadline ≢ st.now) where
    end : HasReleased p dem past (count p) any st × (notes_upto p dem past m ≡ notes_upto p dem past (count p))
    end = at-end (every_period p set.sound.limits) r set.sound.within.none le none

    all-notes : (trace0 : SpanTrace) {trace : SpanTrace} → trace ≡ with_notes trace0 (notes_upto p dem past m)
        → trace ≡ with_notes trace0 (all_release_notes p dem s0.now)
    all-notes trace0 is =
        is ∙ (ap (λ ns. with_notes trace0 ns) end.1 ∙ ap (λ n. with_notes trace0 (all_release_notes p dem n)) (course-len demand p dem s0.now))

    marked : any ≡ true → after_mark st ≡ state_at set demand s0.now
    marked some = released-marked (every_period p set.sound.limits) some end.0

    unmarked : any ≡ false → st ≡ state_at set demand s0.now
    unmarked nobody = released-unmarked (every_period p set.sound.limits) set.sound.within.none nobody end.0

pub loop-task-init : goal.loop-task-init
loop-task-init g c =
    let m = g.G.Governor.demand in
    let p = c.args.set.now.plan.now in
    let dem = demands_of p c.args.set.now.demands.now in
    let t = c.args.self.now.state.now in
    let here = c.requires.at in
    let past = course m p dem t in record {
      released = 0;
      within = omega arith;
      so_far = subst (λ (s : StateView). HasReleased p dem past 0 false s) (sym here.state) (releasing-start p dem past);
      current = c.requires.current;
      trace = with-none c.args.self.now.trace c.requires.none;
    }

pub first_due-requires-clause-past : goal.first_due-requires-clause-past
first_due-requires-clause-past g c = none-past (every_period _ c.args.set.now.sound.limits) c.loop-task.invariant.so_far

pub release_one-requires-clause-past : goal.release_one-requires-clause-past
release_one-requires-clause-past g c = none-past (every_period _ c.args.set.now.sound.limits) c.loop-task.invariant.so_far

pub release_one-requires-clause-can : goal.release_one-requires-clause-can
release_one-requires-clause-can g c = can c.requires.at c.loop-task.invariant.so_far c.in-Some.ensures.due

pub loop-task-preserved : goal.loop-task-preserved
loop-task-preserved g c =
    let periods = every_period _ c.args.set.now.sound.limits in
    let i = c.loop-task.invariant in
    let d = c.in-Some.ensures.due in
    let here = at c.requires.at i.so_far d in
    let w = c.release_one.ensures in record {
      released = c.in-Some.task + 1;
      within = omega (arith, d.below);
      so_far = opens periods here.0 d.below d.due c.release_one.new.self.state w.state;
      current = w.current;
      trace = opens-trace periods here.0 d.below d.due c.args.self.now.trace
          (i.trace ∙ ap (λ ns. with_notes c.args.self.now.trace ns) here.1) w.trace;
    }

pub loop-task-smaller : goal.loop-task-smaller
loop-task-smaller g c =
    let p = c.args.set.now.plan.now in
    let d = c.in-Some.ensures.due in
    let long = c.loop-task.invariant.current.of in
    subst (λ (s : StateView). due_left p s < due_left p c.loop-task.self.state) (sym c.release_one.ensures.state)
    (due-falls p c.loop-task.self.state c.in-Some.task _ (omega (arith, d.below, long.rows))
    (every_period p c.args.set.now.sound.limits c.in-Some.task) d)

pub returns-then-any-clause-trace : goal.returns-then-any-clause-trace
returns-then-any-clause-trace g c =
    let i = c.loop-task.invariant in all-notes c.requires.at i.so_far i.within c.in_default.ensures.none c.args.self.now.trace i.trace

pub returns-else-any-clause-trace : goal.returns-else-any-clause-trace
returns-else-any-clause-trace g c =
    let i = c.loop-task.invariant in all-notes c.requires.at i.so_far i.within c.in_default.ensures.none c.args.self.now.trace i.trace

pub returns-then-any-clause-state : goal.returns-then-any-clause-state
returns-then-any-clause-state g c =
    let i = c.loop-task.invariant in c.mark.ensures.marked ∙ marked c.requires.at i.so_far i.within c.in_default.ensures.none c.if-any.true

pub returns-else-any-clause-state : goal.returns-else-any-clause-state
returns-else-any-clause-state g c =
    let i = c.loop-task.invariant in unmarked c.requires.at i.so_far i.within c.in_default.ensures.none c.if-any.false

pub returns-then-any-clause-current : goal.returns-then-any-clause-current
returns-then-any-clause-current g c =
    record {
      of = (let o = c.loop-task.invariant.current.of in subst (IsOfPlan c.args.set.now.plan.now) (sym c.mark.ensures.marked)
          (record { rows = o.rows; base = length-map _ row_wleft ∙ o.rows; worst = o.worst; used = o.used }));
      counters = search rules;
      agenda = c.mark.ensures.stand;
      demands = c.loop-task.invariant.current.demands ∙ ap (λ (s : StateView). latest_demands c.args.set.now s) (sym c.mark.ensures.marked);
    }
