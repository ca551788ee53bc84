use Rattle.std.proofs.Common.{[], ◌∷◌, ◌++◌, ap}
use Rattle.dvs_base.specs.declared.note.Note.TheVariants.{End}
use Rattle.sched_model.specs.Plan.{names}
use Rattle.trace_text.specs.TraceText.{line_of_note}
use Rattle.trace_writer.specs.UnnotedLines.{sum_lines}
use Rattle.trace_writer.proofs.WrittenLines.{lines-then, lines-then-some, lines-some-more, stopped-exit, all-as, some-as}
use Rattle.event_kernel.proofs.teller.tell_tail.Goals as goal

pub returns-clause-writes_tail : goal.returns-clause-writes_tail
returns-clause-writes_tail g c =
    let h = c.args.head in
    all-as (λ j. sum_lines h.version h.plan.now (c.by_task.ensures j) ++ line_of_note (c.names.ensures j) (c.ending-end.ensures.note j) ∷ [])
    (lines-then _ _ (c.in_ok-put_sums.ensures _) c.in_ok-tell_note.ensures)

pub returns-in_err-tell_note-clause-writes_tail : goal.returns-in_err-tell_note-clause-writes_tail
returns-in_err-tell_note-clause-writes_tail g c =
    let h = c.args.head in
    stopped-exit c.from_residual-in_err-tell_note.result c.from_residual-in_err-tell_note.ensures.0
    (some-as (λ j. sum_lines h.version h.plan.now (c.by_task.ensures j) ++ line_of_note (c.names.ensures j) (c.ending-end.ensures.note j) ∷ [])
    (lines-then-some _ _ (c.in_ok-put_sums.ensures _) c.in_err-tell_note.ensures))

pub returns-in_err-put_sums-clause-writes_tail : goal.returns-in_err-put_sums-clause-writes_tail
returns-in_err-put_sums-clause-writes_tail g c =
    let h = c.args.head in
    let s = c.args.account.now in
    stopped-exit c.from_residual.result c.from_residual.ensures.0
    (lines-some-more (sum_lines h.version h.plan.now s.by_task) (line_of_note (names h.plan.now) (End h.ticks s.totals.run s.totals.idle) ∷ [])
    (some-as (ap (sum_lines h.version h.plan.now) c.by_task.ensures) (c.in_err-put_sums.ensures _)))
