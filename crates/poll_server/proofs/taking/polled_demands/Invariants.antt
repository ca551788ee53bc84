use Rattle.event_kernel.specs.Runs.{IsListOf}
use Rattle.poll_server.specs.Walks.{StandsAfter, AreTaken}
use Rattle.poll_server.proofs.taking.polled_demands.Given as goal

abbrev pub invariant-loop-job : goal.invariant-loop-job
invariant-loop-job l = record {
  list : IsListOf l.server.plan l.demands;
  rows : AreTaken l.server l.job l.demands.rows;
  stands : StandsAfter l.server l.job l.waiting;
}
