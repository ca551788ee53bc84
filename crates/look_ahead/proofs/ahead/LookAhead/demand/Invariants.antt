use Rattle.std.proofs.Common.{◌+◌, ◌*◌, ◌^◌, ◌≤◌}
use Rattle.sched_model.specs.Plan.{count}
use Rattle.look_ahead.proofs.WalkLoop.{Done}
use Rattle.look_ahead.proofs.ahead.LookAhead.demand.Given as goal

abbrev pub invariant-loop-k : goal.invariant-loop-k
invariant-loop-k l = record {
  done : Done l.plan l.view l.k l.totals.spare l.totals.first;
  low : l.totals.first + l.k * 2 ^ 61 ≤ count l.plan * 2 ^ 61;
}
