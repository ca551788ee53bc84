use Rattle.std.proofs.Common.{ap₂, ◌∙◌, arith}
use Rattle.std.specs.Option.{option_copied}
use Rattle.task_model.specs.Tasks.{names_of}
use Rattle.statuses.specs.ProbeLines.{probe_text}
use Rattle.statuses.proofs.ProbePuts.{next-put, part-put}
use Rattle.statuses.proofs.probe_line.put_probes.Goals as goal

pub returns-in-Err : goal.returns-in-Err
returns-in-Err g c =
    let names = names_of (option_copied c.args.tasks) in
    part-put names g.P.Probe.seen _ c.args.probes.now _ _ _ c.loop-at.at c.index-probes-at.result _
    (omega (arith, c.loop-at-test.true)) c.index-probes-at.is
    (c.probe_line-line.ensures.text ∙ ap₂ (probe_text names) c.shown_at.ensures.place c.shown_at.ensures.probe)
    c.loop-at.invariant c.in-Err.ensures

pub loop-at-preserved : goal.loop-at-preserved
loop-at-preserved g c =
    let names = names_of (option_copied c.args.tasks) in
    next-put names g.P.Probe.seen _ c.args.probes.now _ _ _ c.loop-at.at c.index-probes-at.result _
    (omega (arith, c.loop-at-test.true)) c.index-probes-at.is
    (c.probe_line-line.ensures.text ∙ ap₂ (probe_text names) c.shown_at.ensures.place c.shown_at.ensures.probe)
    c.loop-at.invariant c.in-Ok.ensures
