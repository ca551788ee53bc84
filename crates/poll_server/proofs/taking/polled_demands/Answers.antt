use Rattle.std.proofs.Common.{subst}
use Rattle.event_kernel.specs.Runs.{IsListOf}
use Rattle.poll_server.specs.ServerJobs.{ServerView}
use Rattle.poll_server.proofs.Steps.{stands-first, taken-first}
use Rattle.poll_server.proofs.taking.polled_demands.Goals as goal

pub loop-job-init : goal.loop-job-init
loop-job-init c = record {
  list = subst (λ (v : ServerView). IsListOf v.plan c.in_ok-demands.demands) c.server.view_is c.in_ok-demands.ensures.list;
  rows = taken-first c.args.server.now c.in_ok-demands.demands.rows c.in_ok-demands.ensures.rows;
  stands = stands-first c.args.server.now;
}
