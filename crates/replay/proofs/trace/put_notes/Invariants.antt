use Rattle.std.proofs.Common.{take}
use Rattle.std.specs.Prelude.{flat_map}
use Rattle.dvs_base.specs.WritesText.{Wrote}
use Rattle.trace_text.specs.TraceText.{text_of_lines}
use Rattle.replay.specs.NotePuts.{lines_with}
use Rattle.replay.proofs.trace.put_notes.Given as goal

abbrev pub invariant-loop-note : goal.invariant-loop-note
invariant-loop-note g l =
    Wrote (g.W.Sink.shows l.fn.out) (g.W.Sink.shows l.out)
    (text_of_lines (flat_map (lines_with l.head.version l.head.plan.now l.energies) (take l.note-index l.notes)))
