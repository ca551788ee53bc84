use Rattle.std.proofs.Common.{take, drop}
use Rattle.std.specs.List.{AllByRecursion}
use Rattle.dvs_base.specs.declared.limits.TheConstants.{MOST_TASKS}
use Rattle.trace_reader.specs.declared.line.Item.TheVariants.{Told}
use Rattle.trace_reader.specs.Items.{HasTaskBelow}
use Rattle.trace_reader.specs.Sums.{HasSums}
use Rattle.trace_reader.proofs.shares.task_energies.Given as goal

abbrev pub invariant-loop-note : goal.invariant-loop-note
invariant-loop-note l = record {
  tasks : AllByRecursion (λ n. HasTaskBelow MOST_TASKS (Told n)) (drop l.note-index l.notes);
  sums : HasSums (take l.note-index l.notes) l.shares.sums;
}
