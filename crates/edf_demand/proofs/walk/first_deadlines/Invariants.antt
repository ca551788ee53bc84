use Rattle.std.proofs.Common.{◌≡◌, ℕ, ◌<◌, length, slice_index}
use Rattle.std.specs.List.{AllByRecursion}
use Rattle.edf_demand.specs.Walk.{due_of}
use Rattle.edf_demand.proofs.walk.first_deadlines.Given as goal

abbrev pub invariant-loop-task : goal.invariant-loop-task
invariant-loop-task l = record {
  one_each : l.next.limit ≡ length l.tasks;
  below : AllByRecursion (λ e. e.task < l.task) l.next.entries;
  due : (i : ℕ) → i < l.task → due_of l.next.entries i ≡ slice_index l.deadlines i;
}
