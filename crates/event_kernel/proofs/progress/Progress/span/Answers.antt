use Rattle.std.proofs.Common.{◌++◌, arith, ap₂, ◌∙◌, sym}
use Rattle.event_kernel.specs.declared.span_trace.SpanTrace.{SpanTrace}
use Rattle.event_kernel.specs.Runs.{demands_of}
use Rattle.event_kernel.specs.Tickwork.{notes_before}
use Rattle.event_kernel.proofs.RunEnds.{close-between, close-notes}
use Rattle.event_kernel.proofs.SpanSteps.{closing-can}
use Rattle.event_kernel.proofs.UnitLoop.{entry-there, some-speed}
use Rattle.event_kernel.proofs.progress.Progress.span.Goals as goal

pub close-requires : goal.close-requires
close-requires g c =
    closing-can _ c.walk_span.ensures.walked (entry-there c.begin-force.ensures.begun) (some-speed c.begin-force.ensures.begun)

pub returns-clause-between : goal.returns-clause-between
returns-clause-between g c = close-between c.walk_span.ensures.walked

pub returns-clause-later : goal.returns-clause-later
returns-clause-later g c = omega (arith, c.walk_span.ensures.walked.later, c.walk_span.ensures.walked.now, c.begin-force.ensures.from)

pub returns-clause-limit : goal.returns-clause-limit
returns-clause-limit g c = omega (arith, c.walk_span.ensures.walked.before_end, c.walk_span.ensures.walked.now)

pub returns-clause-notes : goal.returns-clause-notes
returns-clause-notes g c =
    let before = notes_before g.G.Governor.demand c.args.set.now.plan.now (demands_of c.args.set.now.plan.now c.args.set.now.demands.now) in
    close-notes c.walk_span.ensures.walked
    ∙ ap₂ (λ t (q : SpanTrace). before t ++ q.notes) c.begin-force.ensures.from (sym c.close.ensures)

pub returns-clause-entry : goal.returns-clause-entry
returns-clause-entry g c = entry-there c.begin-force.ensures.begun
