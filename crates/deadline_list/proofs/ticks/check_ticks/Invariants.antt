use Rattle.std.proofs.Common.{◌≡◌, ℕ, ◌<◌, ◌≤◌, drop, slice_index}
use Rattle.task_model.specs.Tasks.{task_at}
use Rattle.deadline_list.specs.DeadlineTicks.{ticks_checked}
use Rattle.deadline_list.proofs.ticks.check_ticks.Given as goal

-- the deadlines so far are in range, and the check of the others is that of all
abbrev pub invariant-loop-i : goal.invariant-loop-i
invariant-loop-i l = record {
  some : (k : ℕ) → k < l.i → 1 ≤ slice_index l.ticks k;
  within : (k : ℕ) → k < l.i → slice_index l.ticks k ≤ (task_at l.tasks k).period;
  rest : ticks_checked l.tasks 0 l.ticks ≡ ticks_checked l.tasks l.i (drop l.i l.ticks);
}
