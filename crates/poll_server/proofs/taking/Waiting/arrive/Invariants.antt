use Rattle.std.proofs.Common.{◌≡◌, ◌-◌}
use Rattle.poll_server.specs.Walks.{HasPassed}
use Rattle.poll_server.specs.ServerJobs.{request_count}
use Rattle.poll_server.proofs.taking.Waiting.arrive.Given as goal

abbrev pub invariant-loop-self : goal.invariant-loop-self
invariant-loop-self l = record {
  passed : HasPassed l.server l.tick l.self;
  taken : l.self.taken ≡ l.fn.self.taken;
}

abbrev pub decreases-loop-self : goal.decreases-loop-self
decreases-loop-self l = request_count l.server - l.self.next
