use Rattle.std.proofs.Common.{◌≡◌, ◌*◌, ◌^◌, ◌≤◌}
use Rattle.std.specs.Prelude.{◌/◌}
use Rattle.grid_fraction.specs.Numbers.{sum_below}
use Rattle.task_model.specs.Tasks.{hyper_of, task_at}
use Rattle.edf_demand.proofs.walk.hyper_jobs.Given as goal

abbrev pub invariant-loop-i : goal.invariant-loop-i
invariant-loop-i l =
    (l.jobs ≡ sum_below l.i (λ i. hyper_of l.tasks / (task_at l.tasks i).period)) × (l.jobs ≤ l.i * 2 ^ 48)
