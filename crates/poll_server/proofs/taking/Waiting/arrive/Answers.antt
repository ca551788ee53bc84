use Rattle.std.proofs.Common.{◌≡◌, ◌<◌, ap, ◌∙◌, subst, arith}
use Rattle.poll_server.specs.ServerJobs.{ServerView, units, arrival, request_count}
use Rattle.poll_server.proofs.Steps.{asked_below-fits, passed-arrived}
use Rattle.poll_server.proofs.taking.Waiting.arrive.Goals as goal

pub overflow_add-self : goal.overflow_add-self
overflow_add-self c =
    let s = c.args.server.now in
    let next = c.loop-self.self.next in
    let lt : next < request_count s = subst (λ (v : ServerView). next < request_count v) c.server.view_is c.loop-self-test.true in
    let is : c.from.result ≡ units s next = c.from.ensures ∙ ap (λ (v : ServerView). units v next) c.server.view_is in
    omega (arith, asked_below-fits s c.requires.requests next lt, is, c.loop-self.invariant.passed.counted)

pub returns-else-server-self-clause-arrived : goal.returns-else-server-self-clause-arrived
returns-else-server-self-clause-arrived c =
    let s = c.args.server.now in
    let next = c.loop-self.self.next in
    passed-arrived s c.requires.requests c.args.tick c.loop-self.self c.loop-self.invariant.passed
    (λ lt. subst (λ (v : ServerView). c.args.tick < arrival v next) c.server.view_is c.if-server-self.false)
