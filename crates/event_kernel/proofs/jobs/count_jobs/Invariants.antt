use Rattle.std.proofs.Common.{◌≡◌, ◌≤◌, ◌*◌, ◌-◌, ◌^◌}
use Rattle.grid_fraction.specs.Numbers.{sum_below, ceil_div}
use Rattle.sched_model.specs.Plan.{period, offset}
use Rattle.event_kernel.proofs.jobs.count_jobs.Given as goal

abbrev pub invariant-loop-task : goal.invariant-loop-task
invariant-loop-task l = record {
  counted : l.count ≡ sum_below l.task (λ i. ceil_div (l.fn.ticks - offset l.fn.plan i) (period l.fn.plan i));
  low : l.count ≤ 2 ^ 41 * l.task;
}
