use Rattle.std.proofs.Common.{◌≡◌, length}
use Rattle.dvs_base.specs.declared.limits.TheConstants.{MOST_TASKS}
use Rattle.rm_response.proofs.nodes.marked.Given as goal

abbrev pub invariant-loop : goal.invariant-loop
invariant-loop l = length l.marks ≡ MOST_TASKS
