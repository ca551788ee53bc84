use Rattle.std.proofs.Common.{◌≡◌, ◌*◌}
use Rattle.grid_fraction.specs.Numbers.{list_below}
use Rattle.workload.specs.Draws.{state_after}
use Rattle.workload.specs.Workload.{made_task}
use Rattle.workload.proofs.made.make_tasks.Given as goal

-- there were two draws and a task for each number so far
abbrev pub invariant-loop-task : goal.invariant-loop-task
invariant-loop-task l = record {
  draws : l.draws.state ≡ state_after l.initial.draws.state (2 * l.task);
  tasks : l.tasks.items ≡ list_below l.task (made_task l.initial.draws.state l.count);
}
