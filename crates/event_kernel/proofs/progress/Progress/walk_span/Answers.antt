use Rattle.std.proofs.Common.{◌∙◌, arith, sym, inl, inr}
use Rattle.event_kernel.proofs.SpanSteps.{now-next, same-event, walked-end, walked-on}
use Rattle.event_kernel.proofs.progress.Progress.walk_span.Goals as goal
use Rattle.event_kernel.proofs.progress.Progress.walk_span.Goals.{then-completed-via-then-completed, then-completed-via-else-completed+then-now-event}

pub returns-then-completed-clause-walked : goal.returns-then-completed-clause-walked
returns-then-completed-clause-walked g c =
    let i = c.loop-force.invariant in
    walked-end _ i.in_span c.work-completed.ensures.worked (elim c.then-completed.branch [
      | then-completed-via-then-completed w ↦ inl w.if-completed.true
      | then-completed-via-else-completed+then-now-event w ↦ inr (sym w.now.ensures ∙ (w.if-now-event.true ∙ i.event))
    ])

pub loop-force-smaller : goal.loop-force-smaller
loop-force-smaller g c =
    let here = c.loop-force.invariant.in_span in omega (arith, now-next _ here c.work-completed.ensures.worked, here.before_end)

pub loop-force-preserved : goal.loop-force-preserved
loop-force-preserved g c =
    let i = c.loop-force.invariant in
    let worked = c.work-completed.ensures.worked in record {
      in_span = walked-on _ i.in_span worked c.if-completed.false (λ e. c.if-now-event.false (c.now.ensures ∙ (e ∙ sym i.event)));
      event = i.event ∙ same-event _ i.in_span worked;
      current = c.work-completed.ensures.current;
    }
