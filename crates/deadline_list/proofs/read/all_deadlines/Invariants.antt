use Rattle.std.proofs.Common.{◌≡◌}
use Rattle.grid_fraction.specs.Numbers.{list_below}
use Rattle.deadline_list.specs.DeadlineFile.{relative_deadline}
use Rattle.deadline_list.proofs.read.all_deadlines.Given as goal

abbrev pub invariant-loop-i : goal.invariant-loop-i
invariant-loop-i l = l.deadlines.items ≡ list_below l.i (relative_deadline l.tasks l.given)
