use Rattle.std.proofs.Common.{◌≡◌, map, take, length}
use Rattle.rtdvs_top.specs.Trace.{task_line}
use Rattle.rtdvs_top.proofs.trace.task_lines.Given as goal

abbrev pub invariant-loop-i : goal.invariant-loop-i
invariant-loop-i l = record {
  so_far : l.lines.items ≡ map task_line (take l.i l.tasks);
  count : length l.lines.items ≡ l.i;
}
