use Rattle.std.proofs.Common.{◌≡◌, ◌++◌, arith, sym, subst, List, [], ◌∷◌, ap, ap₂, ◌∙◌}
use Rattle.dvs_base.specs.declared.note.Note.{Note}
use Rattle.sched_model.specs.Notes.{all_release_notes}
use Rattle.sched_model.specs.States.{StateView}
use Rattle.governor.specs.Schedule.{course}
use Rattle.governor.specs.Steps.{IsAtDecision}
use Rattle.event_kernel.specs.declared.span_trace.SpanTrace.{SpanTrace}
use Rattle.event_kernel.specs.Boundary.{speed_note}
use Rattle.event_kernel.specs.SpanNotes.{kept_notes}
use Rattle.event_kernel.specs.Segment.{with_notes, new_trace}
use Rattle.event_kernel.specs.Runs.{demands_of}
use Rattle.event_kernel.proofs.PlanBounds.{bounds}
use Rattle.event_kernel.proofs.DecisionStates.{at-decision}
use Rattle.event_kernel.proofs.SpanBuffer.{kept_notes-append}
use Rattle.event_kernel.proofs.SpanSteps.{at-boundary, begins-span}
use Rattle.event_kernel.proofs.progress.Progress.begin.Goals as goal

pub release_all-requires-clause-at : goal.release_all-requires-clause-at
release_all-requires-clause-at g c =
    let set = c.args.set.now in
    at-boundary set c.args.self.now.state (omega (arith, c.requires.early, set.sound.low_ticks)) c.requires.met c.requires.between.state

pub decide-requires-clause-decision : goal.decide-requires-clause-decision
decide-requires-clause-decision g c =
    let p = c.args.set.now.plan.now in
    let dem = demands_of c.args.set.now.plan.now c.args.set.now.demands.now in
    subst (λ (s : StateView). IsAtDecision p s) (sym c.release_all.ensures.state)
    (at-decision p (bounds p c.args.set.now.sound.limits) dem (course g.G.Governor.demand p dem c.args.self.now.state.now))

pub returns-clause-begun : goal.returns-clause-begun
returns-clause-begun g c =
    let p = c.args.set.now.plan.now in
    let s0 = c.args.self.now.state in
    let st = c.release_all.new.self.state in
    let releases : List Note = all_release_notes p (demands_of p c.args.set.now.demands.now) s0.now in
    let speed : List Note = speed_note p st.now (g.G.Governor.demand p st) ∷ [] in
    let released : c.release_all.new.self.trace ≡ new_trace (kept_notes releases) =
    c.release_all.ensures.trace ∙ ap (λ (q : SpanTrace). with_notes q releases) c.clear.ensures in
    let notes : c.decide.new.notes ≡ kept_notes (releases ++ speed) =
    c.decide.ensures.note ∙ (ap (λ (q : SpanTrace). kept_notes (q.notes ++ speed)) released ∙ kept_notes-append releases speed) in
    begins-span c.args.set.now c.decide.result s0 st
    (record { segment = c.release_all.new.self.trace.segment; notes = c.decide.new.notes })
    c.requires.early c.requires.between c.release_all.ensures.state c.decide.ensures.force
    (ap₂ (λ (q : SpanTrace) (ns : List Note). record { segment = q.segment; notes = ns }) released notes)
