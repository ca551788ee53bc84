use Rattle.std.proofs.Common.{map}
use Rattle.grid_fraction.specs.Numbers.{list_below}
use Rattle.sched_model.specs.Plan.{names, task, period, offset}
use Rattle.dvs_base.specs.Parts.{name_of}
use Rattle.trace_text.specs.TraceText.{task_text, unnoted_line}
use Rattle.trace_writer.specs.UnnotedLines.{WroteUnnoted}
use Rattle.trace_writer.proofs.write.put_tasks.Given as goal

abbrev pub invariant-loop-i : goal.invariant-loop-i
invariant-loop-i g l =
    let p = l.fn.plan in
    WroteUnnoted (g.W.Sink.shows l.fn.out) (g.W.Sink.shows l.out)
    (map unnoted_line (list_below l.i (λ i. task_text (name_of (names p) i) (period p i) (offset p i) (task p i).worst)))
