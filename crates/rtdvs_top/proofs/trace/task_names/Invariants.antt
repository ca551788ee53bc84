use Rattle.std.proofs.Common.{◌≡◌, take, length}
use Rattle.rtdvs_top.specs.Trace.{task_names}
use Rattle.rtdvs_top.proofs.trace.task_names.Given as goal

abbrev pub invariant-loop-i : goal.invariant-loop-i
invariant-loop-i l = record {
  so_far : l.names.items ≡ task_names (take l.i l.tasks);
  count : length l.names.items ≡ l.i;
}
