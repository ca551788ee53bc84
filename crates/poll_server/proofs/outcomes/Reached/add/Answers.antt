use Rattle.std.proofs.Common.{◌≡◌, ◌+◌, ap, ◌∙◌, arith}
use Rattle.poll_server.specs.ServerJobs.{ServerView, units}
use Rattle.poll_server.proofs.Steps.{asked_below-fits, reached-next}
use Rattle.poll_server.proofs.outcomes.Reached.add.Goals as goal

pub overflow_add-self : goal.overflow_add-self
overflow_add-self c =
    let s = c.args.jobs.now.server.now in
    let is : c.from.result ≡ units s c.args.m = c.from.ensures ∙ ap (λ (v : ServerView). units v c.args.m) c.server.view_is in
    omega (arith, asked_below-fits s c.requires.server.requests c.args.m c.requires.request, is, c.requires.reached.asked_for)

pub loop-self-preserved : goal.loop-self-preserved
loop-self-preserved c =
    record {
      reached = reached-next c.args.jobs.now.server.now c.args.jobs.now.count (c.args.m + 1) c.loop-self.self c.take.new.self
          c.loop-self.invariant.reached c.loop-self-test.true c.if-self.true c.take.ensures.stands;
      some = c.loop-self.invariant.some;
    }
