use Rattle.std.proofs.Common.{◌≡◌, map, take, length}
use Rattle.demand_list.proofs.read.worst_cases.Given as goal

abbrev pub invariant-loop-i : goal.invariant-loop-i
invariant-loop-i l = record {
  so_far : l.worsts.items ≡ map (λ t. t.worst) (take l.i l.tasks);
  count : length l.worsts.items ≡ l.i;
}
