use Rattle.dvs_base.proofs.TextPuts.{writes-part}
use Rattle.replay.proofs.TracePuts.{next-note, part-note}
use Rattle.replay.proofs.trace.put_notes.Goals as goal

pub loop-note-preserved : goal.loop-note-preserved
loop-note-preserved g c =
    let h = c.args.head in
    next-note h.version h.plan.now c.args.energies.now _ _ _ c.args.notes.now c.loop-note.note-index _ c.loop-note-test.true
    c.loop-note.invariant c.in_ok-put_lines.ensures

pub returns-in_err-put_lines : goal.returns-in_err-put_lines
returns-in_err-put_lines g c =
    let h = c.args.head in
    writes-part _ _ _ c.from_residual.result c.from_residual.ensures.0
    (part-note h.version h.plan.now c.args.energies.now _ _ _ c.args.notes.now c.loop-note.note-index _ c.loop-note-test.true
    c.loop-note.invariant c.in_err-put_lines.ensures)
