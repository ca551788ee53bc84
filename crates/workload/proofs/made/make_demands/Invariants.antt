use Rattle.std.proofs.Common.{◌≡◌, map}
use Rattle.grid_fraction.specs.Numbers.{list_below}
use Rattle.task_model.specs.declared.task.Task.{Task}
use Rattle.workload.specs.Draws.{state_after}
use Rattle.workload.specs.Workload.{made_row}
use Rattle.workload.proofs.made.make_demands.Given as goal

-- there was a draw and a row for each number so far
abbrev pub invariant-loop-row : goal.invariant-loop-row
invariant-loop-row l = record {
  draws : l.draws.state ≡ state_after l.initial.draws.state l.row;
  worsts : l.demands.worsts ≡ map (λ (t : Task). t.worst) l.tasks;
  rows : l.demands.rows ≡ list_below l.row (made_row l.tasks l.initial.draws.state);
}
