use Rattle.std.proofs.Common.{List, arith, sym, subst, refl}
use Rattle.std.proofs.lemmas.Result.{err_from_is_err_and}
use Rattle.dvs_base.specs.declared.note.Note.{Note}
use Rattle.sched_model.specs.Admission.{IsWithinLimits}
use Rattle.energy.specs.Books.{Books}
use Rattle.note_laws.specs.LineCounts.{AreFew}
use Rattle.event_kernel.specs.SpanNotes.{HasBooked, HeardAll, notes_before_end_of}
use Rattle.event_kernel.specs.Heard.{HasHeard, HasBalked}
use Rattle.event_kernel.specs.Runs.{Run, demands_of}
use Rattle.event_kernel.specs.Tickwork.{notes_before}
use Rattle.event_kernel.proofs.RunAccount.{booked-points}
use Rattle.event_kernel.proofs.RunEnds.{first-between, span-booked, at-end, run-totals}
use Rattle.event_kernel.proofs.HeardLists.{heard-append, balked-append, balked_after}
use Rattle.event_kernel.proofs.MetRuns.{run-few, met-as}
use Rattle.event_kernel.proofs.SpanSteps.{all-keeps}
use Rattle.event_kernel.proofs.kernel.Kernel.spans.Goals as goal

pub loop-set-init : goal.loop-set-init
loop-set-init g c =
    let k = c.self.inside in
    let start = c.self.invariant in
    let first = first-between g.G.Governor.demand k.set start.state in record {
      between = first.0;
      current = start.current;
      limit = omega (arith, first.2);
      told = (subst (λ ns. HasHeard g.L.Listener.heard c.args.to.now ns c.args.to.now) (sym first.1) refl, omega arith);
      booked = subst (λ ns. HasBooked k.set.plan.now k.account ns) (sym first.1) start.booked;
    }

pub span-point-requires-clause-met : goal.span-point-requires-clause-met
span-point-requires-clause-met g c = (c.self.invariant.met c.loop-set.progress.state.now).deadlines

pub tell-requires-clause-point : goal.tell-requires-clause-point
tell-requires-clause-point g c =
    omega (arith, c.span-point.ensures.entry, booked-points c.self.inside.set.plan.now c.loop-set.account _ c.loop-set.invariant.booked)

pub tell-requires-clause-room : goal.tell-requires-clause-room
tell-requires-clause-room g c =
    let span = c.span-point.ensures in
    (span-booked g.G.Governor.demand c.self.inside.set c.loop-set.progress.state.now _ _ _ _
    span.limit span.notes c.loop-set.invariant.booked span.entry).0

pub loop-set-smaller : goal.loop-set-smaller
loop-set-smaller g c = omega (arith, c.span-point.ensures.later, c.span-point.ensures.limit)

pub loop-set-preserved : goal.loop-set-preserved
loop-set-preserved g c =
    let m = g.L.Listener in
    let set = c.self.inside.set in
    let i = c.loop-set.invariant in
    let told = c.in_ok-tell.ensures.told in
    let span = c.span-point.ensures in
    let before = notes_before g.G.Governor.demand set.plan.now (demands_of set.plan.now set.demands.now) in record {
      between = span.between;
      current = span.current;
      limit = span.limit;
      told = subst (HeardAll m.heard m.stops c.args.to.now c.tell.new.to) (sym span.notes) (
        heard-append m.heard m.balked (before c.loop-set.progress.state.now) c.span-point.new.self.trace.notes
            c.args.to.now c.loop-set.to c.tell.new.to i.told.0 told.0,
        omega (arith, i.told.1, told.1),
      );
      booked = subst (λ (b : Books). HasBooked set.plan.now b (before c.span-point.new.self.state.now)) (sym c.in_ok-tell.ensures.booked)
          (span-booked g.G.Governor.demand set c.loop-set.progress.state.now _ _ _ _
          span.limit span.notes i.booked span.entry).1;
    }

pub returns-in_err-tell-clause-told : goal.returns-in_err-tell-clause-told
returns-in_err-tell-clause-told g c =
    let m = g.L.Listener in
    let d = g.G.Governor.demand in
    let set = c.self.inside.set in
    let told = c.in_err-tell.ensures.told in
    let so_far = c.loop-set.invariant in
    let span = c.span-point.ensures in
    let dem = demands_of set.plan.now set.demands.now in
    let Balked : List Note → Type 0 = λ ns. HasBalked m.heard m.balked c.args.to.now ns c.tell.new.to in
    let exit = err_from_is_err_and c.from_residual.result c.from_residual.ensures.1 in
    let balked = balked_after m.heard m.balked (notes_before d set.plan.now dem c.loop-set.progress.state.now) c.span-point.new.self.trace.notes
    c.args.to.now c.loop-set.to c.tell.new.to so_far.told.0 told.0 in rw exit.1 (
      subst (λ (r : Run). Balked (notes_before_end_of d r)) c.self.view_is
          (all-keeps d set.plan.now dem Balked (λ xs ys b. balked-append m.heard m.balked xs ys c.args.to.now c.tell.new.to b)
          c.span-point.new.self.state.now (subst Balked (sym span.notes) balked) set.ticks span.limit span.between.decision),
      omega (arith, so_far.told.1, told.1),
      omega (arith, so_far.told.1, told.2),
    )

pub returns-clause-told : goal.returns-clause-told
returns-clause-told g c =
    let i = c.loop-set.invariant in
    at-end g.G.Governor.demand c.self.inside.set c.self.view_is (omega (arith, c.now.ensures, c.loop-set-test.false, i.limit))
    (λ p ns. HeardAll g.L.Listener.heard g.L.Listener.stops c.args.to.now c.loop-set.to ns) i.told

pub returns-clause-booked : goal.returns-clause-booked
returns-clause-booked g c =
    let i = c.loop-set.invariant in
    at-end g.G.Governor.demand c.self.inside.set c.self.view_is (omega (arith, c.now.ensures, c.loop-set-test.false, i.limit))
    (λ p ns. HasBooked p c.loop-set.account ns) i.booked

pub returns-clause-account_totals : goal.returns-clause-account_totals
returns-clause-account_totals g c = run-totals g.G.Governor.demand c.args.self c.loop-set.account (returns-clause-booked g c)

pub returns-clause-few : goal.returns-clause-few
returns-clause-few g c =
    subst AreFew (sym (returns-clause-account_totals g c))
    (run-few g.G.Governor.demand c.args.self (subst (λ (r : Run). IsWithinLimits r.plan) c.self.view_is c.self.inside.set.sound.limits))

pub returns-clause-met : goal.returns-clause-met
returns-clause-met g c = met-as c.self.view_is (c.self.invariant.met c.self.inside.set.ticks)

pub returns-in_err-tell-clause-met : goal.returns-in_err-tell-clause-met
returns-in_err-tell-clause-met g c = met-as c.self.view_is (c.self.invariant.met c.self.inside.set.ticks)
