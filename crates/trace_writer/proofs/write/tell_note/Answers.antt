use Rattle.std.proofs.Common.{◌<◌, ℕ, List, length, subst, sym, refl}
use Rattle.dvs_base.specs.WritesText.{Wrote, WroteSome}
use Rattle.trace_writer.proofs.WrittenLines.{note-some, line-told, line-untold}
use Rattle.trace_writer.proofs.write.tell_note.Goals as goal

pub put_line-requires : goal.put_line-requires
put_line-requires g c = subst (λ (t : List ℕ). 0 < length t) (sym c.write_note.ensures) (note-some c.args.names.now c.args.note.now)

pub returns : goal.returns
returns g c =
    line-told c.args.names.now c.args.note.now
    (subst (λ (t : List ℕ). Wrote (g.W.Sink.shows c.args.out.now) (g.W.Sink.shows c.put_line.new.out) t) c.write_note.ensures c.in_ok-put_line.ensures)
    c.tell_all.ensures

pub returns-in_err-put_line : goal.returns-in_err-put_line
returns-in_err-put_line g c =
    line-untold c.args.names.now c.args.note.now c.from_residual.result c.from_residual.ensures.0
    (subst (λ (t : List ℕ). WroteSome (g.W.Sink.shows c.args.out.now) (g.W.Sink.shows c.put_line.new.out) t) c.write_note.ensures
    c.in_err-put_line.ensures) refl
