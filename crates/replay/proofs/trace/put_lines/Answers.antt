use Rattle.std.proofs.Common.{◌<◌, ℕ, List, length, ap, sym, subst, ◌∙◌}
use Rattle.dvs_base.proofs.TextPuts.{writes-part}
use Rattle.trace_text.specs.TraceLines.{note_text}
use Rattle.trace_writer.proofs.WrittenLines.{note-some, unnoted-whole, unnoted-part}
use Rattle.replay.proofs.TracePuts.{part-before, own-after}
use Rattle.replay.proofs.trace.put_lines.Goals as goal

pub put_line-requires : goal.put_line-requires
put_line-requires g c = subst (λ (t : List ℕ). 0 < length t) (sym c.write_note.ensures) (note-some c.names.result.now c.args.note.now)

pub returns-in_err-put_sums_before : goal.returns-in_err-put_sums_before
returns-in_err-put_sums_before g c =
    let h = c.args.head in
    writes-part _ _ _ c.from_residual.result c.from_residual.ensures.0
    (part-before h.version h.plan.now c.args.energies.now _ _ c.args.note.now (unnoted-part c.in_err-put_sums_before.ensures))

pub returns : goal.returns
returns g c =
    let h = c.args.head in
    own-after h.version h.plan.now c.args.energies.now _ _ _ c.args.note.now c.write_note.new.line c.put_line.result
    (c.write_note.ensures ∙ ap (λ (ns : List (List ℕ)). note_text ns c.args.note.now) c.names.ensures)
    (unnoted-whole c.in_ok-put_sums_before.ensures) c.put_line.ensures
