use Rattle.std.proofs.Common.{arith}
use Rattle.std.proofs.lemmas.Grind.{common_steps}
use Rattle.grid_fraction.proofs.Sums.{list_below-more}
use Rattle.poll_server.specs.EachOutcome.{outcome_of}
use Rattle.poll_server.proofs.Steps.{reached-first}
use Rattle.poll_server.proofs.outcomes.outcomes.Goals as goal

pub loop-m-init : goal.loop-m-init
loop-m-init c = record {
  reached = reached-first c.args.jobs.now.server.now c.args.jobs.now.count;
  so_far = λ notes are. c.new-list.ensures.items;
}

pub loop-m-preserved : goal.loop-m-preserved
loop-m-preserved c = record {
  reached = c.serve.ensures.reached;
  so_far = λ notes are.
      let before = c.loop-m.invariant.so_far notes are in
      let now = c.serve.ensures.outcome notes are in
      let more = list_below-more c.loop-m.m (outcome_of c.args.jobs.now.server.now notes) in
      grind (arith, common_steps, before, now, more);
}
