use Rattle.std.proofs.Common.{◌+◌, ◌-◌, ◌≤◌}
use Rattle.poll_server.specs.Walks.{HasReached}
use Rattle.poll_server.proofs.outcomes.Reached.add.Given as goal

abbrev pub invariant-loop-self : goal.invariant-loop-self
invariant-loop-self l = record {
  reached : HasReached l.jobs.server.now l.jobs.count (l.m + 1) l.self;
  some : 1 ≤ l.self.asked;
}

abbrev pub decreases-loop-self : goal.decreases-loop-self
decreases-loop-self l = l.jobs.count - l.self.job
