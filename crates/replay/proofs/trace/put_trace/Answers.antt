use Rattle.std.proofs.Common.{ap, sym, ◌∙◌}
use Rattle.dvs_base.specs.declared.kind.Scheduler.{Scheduler}
use Rattle.dvs_base.proofs.TextPuts.{writes-part}
use Rattle.trace_writer.specs.RunText.{task_texts}
use Rattle.trace_text.specs.TraceText.{head_lines}
use Rattle.trace_reader.specs.Traces.{TraceView}
use Rattle.trace_writer.proofs.WrittenLines.{unnoted-whole, unnoted-part}
use Rattle.replay.proofs.TracePuts.{energies-are, head-part, whole-put}
use Rattle.replay.proofs.trace.put_trace.Goals as goal

pub returns-in_err-put_head : goal.returns-in_err-put_head
returns-in_err-put_head g c =
    let p = c.args.plan.now in
    let t = c.args.trace.now in
    let v = c.args.version in
    let heads =
    ap (λ (x : TraceView). head_lines v p.scheduler x.plan.governor x.plan.ticks (task_texts p)) c.trace.view_is
    ∙ ap (λ (s : Scheduler). head_lines v s t.plan.governor t.plan.ticks (task_texts p)) (sym c.requires.scheduler) in
    writes-part _ _ _ c.from_residual.result c.from_residual.ensures.0 (head-part v p t _ _ _ heads (unnoted-part c.in_err-put_head.ensures))

pub returns : goal.returns
returns g c =
    let p = c.args.plan.now in
    let t = c.args.trace.now in
    let v = c.args.version in
    let heads =
    ap (λ (x : TraceView). head_lines v p.scheduler x.plan.governor x.plan.ticks (task_texts p)) c.trace.view_is
    ∙ ap (λ (s : Scheduler). head_lines v s t.plan.governor t.plan.ticks (task_texts p)) (sym c.requires.scheduler) in
    let notes = ap (λ (x : TraceView). x.notes) c.trace.view_is in
    let energies = energies-are v p t _ _ (c.deref.ensures.value ∙ notes) c.scheduler-admitted.ensures.admitted.limits.tasks.few
    c.requires.trace.shares c.task_energies-energies.ensures in
    whole-put v p t _ _ _ _ _ _ c.put_notes.result heads (c.deref-2.ensures.value ∙ notes) energies
    (unnoted-whole c.in_ok-put_head.ensures) c.put_notes.ensures
