-- The number of ticks before a span's last one.
use Rattle.std.proofs.Common.{◌≡◌, ℕ, ◌+◌, ◌-◌, ◌*◌, ◌/◌, ◌<◌, ◌≤◌, min, true, false, refl, arith, ap, sym, subst, mul-le-mul_left}
use Rattle.std.specs.Prelude.{Option, None, Some, IfSome, IfNone}
use Rattle.std.proofs.Math.Nat.{div-mul-le_self, mul-le-mul_right}
use Rattle.grid_fraction.proofs.Least.{least-below, least-above}
use Rattle.sched_model.specs.Plan.{Plan, count}
use Rattle.sched_model.specs.States.{row_at, CanRun, IsOfPlan, StateView, earliest_in}
use Rattle.governor.specs.Meanings.{OwnDemand}
use Rattle.governor.specs.Schedule.{course}
use Rattle.governor.specs.Steps.{IsBeforeAll}
use Rattle.event_kernel.specs.declared.span_trace.SpanTrace.{SpanTrace}
use Rattle.agenda.specs.Agenda.{IsFirstUndone}
use Rattle.event_kernel.specs.Segment.{CanEnter, IsFirst}
use Rattle.event_kernel.specs.declared.progress.Setting.{Setting}
use Rattle.event_kernel.specs.declared.in_force.InForce.{InForce}
use Rattle.event_kernel.specs.Settings.{AreQuiet, IsInSpan, next_event}
use Rattle.event_kernel.proofs.PlanBounds.{parts_of, bounds}
use Rattle.event_kernel.proofs.StatesOfPlan.{of-state}
use Rattle.event_kernel.proofs.DecisionStates.{at-decision}
use Rattle.event_kernel.proofs.Courses.{low-exec}
use Rattle.event_kernel.proofs.UnitLoop.{HoldsHanded, speed-is, some-speed, begin, can-enter, ready}

-- the first row that is not done, from the two clauses of the search for it
pub is-first : (p : Plan) (s : StateView) (r : Option ℕ) → IfNone r ((k : ℕ) → k < count p → (row_at s k).done ≡ true)
    → IfSome r (λ i. IsFirstUndone p s (count p) i) → IsFirst p s r
is-first p s None none first = none
is-first p s (Some i) none first = first

module _ {set : Setting} {demand : OwnDemand} {force : InForce} {st : StateView} {trace : SpanTrace} (here : IsInSpan set demand force st.now st trace) where
  open parts_of set use {p, dem}
  open bounds p set.sound.limits use {some_task, low_speed}

  abbrev f : ℕ
  f = force.speed

  w0 : HoldsHanded demand p dem st.now f false st trace
  w0 = begin here

  pub of-plan : IsOfPlan p st
  of-plan =
      subst (λ (s : StateView). IsOfPlan p s) (sym here.state)
      (of-state p dem (course demand p dem st.now) (low-exec demand p dem st.now set.sound.within))

  before : IsBeforeAll p st
  before = subst (λ (s : StateView). IsBeforeAll p s) (sym here.state) (at-decision p (bounds p set.sound.limits) dem (course demand p dem st.now)).before

  pub first-event : st.now < next_event set st
  first-event =
      let late : st.now + 1 ≤ earliest_in p st = least-above (count p) (λ i. (row_at st i).deadline) (st.now + 1) some_task
      (λ i l. (let b = before i l in omega (arith, b))) in
      omega (arith, late, here.before_end)

  -- the units of the quiet ticks can be added
  pub can-enter-quiet : {first : Option ℕ} {n : ℕ} → AreQuiet set force st first n → CanEnter p st force (n * f) trace
  can-enter-quiet {first} {n} quiet = record {
    can = (can-enter here w0 {units = 0} (omega arith)).can;
    fits = omega (
      arith,
      mul-le-mul_left n (low_speed force.index),
      ap (λ u. n * u) (speed-is here),
      quiet.before_end,
      set.sound.low_ticks,
      here.writing.place,
      here.writing.few,
    );
  }

  -- the number of ticks up to the next release or the end, less one
  abbrev most : ℕ
  most = next_event set st - 1 - st.now

  within-end : (n : ℕ) → n ≤ most → st.now + n < set.ticks
  within-end n le = omega (arith, le, first-event)

  within-releases : (n : ℕ) → n ≤ most → (k : ℕ) → k < count p → st.now + n < (row_at st k).deadline
  within-releases n le k l = omega (arith, le, first-event, least-below (count p) (λ i. (row_at st i).deadline) k l)

  pub quiet-idle : (n : ℕ) → n ≡ most → AreQuiet set force st None n
  quiet-idle n is = record {
    before_end = within-end n (omega (arith, is));
    no_release = within-releases n (omega (arith, is));
    not_done = λ i q. absurd (cc q);
  }

  module _ (i : ℕ) (first : IsFirstUndone p st (count p) i) where
    step : CanRun st i (min f (dem i (row_at st i).job - (row_at st i).used)) × ((row_at st i).used ≤ dem i (row_at st i).job)
        × (0 < f → 0 < min f (dem i (row_at st i).job - (row_at st i).used))
    step = ready here w0 i (min f (dem i (row_at st i).job - (row_at st i).used)) first refl

    pub needs : (row_at st i).used < dem i (row_at st i).job
    needs = omega (arith, step.1, step.2 (some-speed here))

    pub can-run : (n : ℕ) → (row_at st i).used + n * f < dem i (row_at st i).job → CanRun st i (n * f)
    can-run n short = record {
      task = step.0.task;
      open_job = first.open_job;
      room = omega (arith, short, set.sound.within.most i (row_at st i).job first.below, of-plan.worst i first.below);
    }

    pub quiet-held : (n lacks : ℕ) → lacks ≡ dem i (row_at st i).job - (row_at st i).used → n ≡ min most ((lacks - 1) / f)
        → AreQuiet set force st (Some i) n
    quiet-held n lacks oe ne = record {
      before_end = within-end n (omega (arith, ne));
      no_release = within-releases n (omega (arith, ne));
      not_done = λ k q. (let same : i ≡ k = cc q in subst (λ j. (row_at st j).used + n * f < dem j (row_at st j).job) same short);
    }
      where
        short : (row_at st i).used + n * f < dem i (row_at st i).job
        short =
            let le : n ≤ (lacks - 1) / f = omega (arith, ne) in
            let some : n * f ≤ ((lacks - 1) / f) * f = mul-le-mul_right f le in
            omega (arith, some, div-mul-le_self (lacks - 1) f, oe, needs)

  -- the units of the quiet ticks can be run
  pub can-run-first : (first : Option ℕ) {n : ℕ} → IsFirst p st first → AreQuiet set force st first n → IfSome first (λ i. CanRun st i (n * f))
  can-run-first None is quiet = tt
  can-run-first (Some i) {n} is quiet = can-run i is n (quiet.not_done i refl)
