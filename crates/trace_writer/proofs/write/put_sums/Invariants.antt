use Rattle.std.proofs.Common.{map}
use Rattle.std.specs.Prelude.{slice_index}
use Rattle.grid_fraction.specs.Numbers.{list_below}
use Rattle.sched_model.specs.Plan.{names}
use Rattle.dvs_base.specs.Parts.{name_of}
use Rattle.trace_text.specs.TraceText.{share_text, unnoted_line}
use Rattle.trace_writer.specs.UnnotedLines.{WroteUnnoted}
use Rattle.trace_writer.proofs.write.put_sums.Given as goal

abbrev pub invariant-loop-i : goal.invariant-loop-i
invariant-loop-i g l =
    let p = l.fn.head.plan.now in
    WroteUnnoted (g.W.Sink.shows l.fn.out) (g.W.Sink.shows l.out)
    (map unnoted_line (list_below l.i (λ i. share_text (name_of (names p) i) (slice_index l.fn.energies i))))
