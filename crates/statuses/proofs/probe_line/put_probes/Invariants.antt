use Rattle.std.proofs.Common.{map, take}
use Rattle.std.specs.Option.{option_copied}
use Rattle.dvs_base.specs.WritesText.{Wrote}
use Rattle.task_model.specs.Tasks.{names_of}
use Rattle.statuses.specs.ProbeLines.{probe_lines}
use Rattle.statuses.proofs.probe_line.put_probes.Given as goal

abbrev pub invariant-loop-at : goal.invariant-loop-at
invariant-loop-at g l =
    Wrote (g.E.Sink.shows l.fn.notes) (g.E.Sink.shows l.notes)
    (probe_lines (names_of (option_copied l.tasks)) 1 (take l.at (map g.P.Probe.seen l.probes)))
