use Rattle.std.proofs.Common.{ap, ◌∙◌, sym}
use Rattle.poll_server.specs.EachOutcome.{outcome_by}
use Rattle.poll_server.proofs.Steps.{some-budget, some-period}
use Rattle.poll_server.proofs.RequestJobs.{reached-some, outcome-reached, outcome-pending}
use Rattle.poll_server.proofs.outcomes.Reached.serve.Goals as goal

pub returns-then-self-clause-outcome : goal.returns-then-self-clause-outcome
returns-then-self-clause-outcome c notes are =
    let s = c.args.jobs.now.server.now in
    let h = c.requires.server in
    sym (
    outcome-pending s h.requests (some-period s h.plan) (some-budget s h.plan h.task) c.args.jobs.now.count c.args.m c.requires.request
    c.add.new.self c.add.ensures.reached notes c.args.jobs.now.ends.now.ends.items are c.if-self.true (c.add.ensures.last c.if-self.true))

pub end-requires-clause-some : goal.end-requires-clause-some
end-requires-clause-some c =
    let s = c.args.jobs.now.server.now in
    let h = c.requires.server in
    reached-some s h.requests (some-period s h.plan) (some-budget s h.plan h.task) c.args.jobs.now.count c.args.m c.requires.request
    c.add.new.self c.add.ensures.reached c.if-self.false

pub returns-in-Some-clause-outcome : goal.returns-in-Some-clause-outcome
returns-in-Some-clause-outcome c notes are =
    let s = c.args.jobs.now.server.now in
    let h = c.requires.server in
    sym (
    outcome-reached s h.requests (some-period s h.plan) (some-budget s h.plan h.task) c.args.jobs.now.count c.args.m c.requires.request
    c.add.new.self c.add.ensures.reached notes c.args.jobs.now.ends.now.ends.items are c.if-self.false
    ∙ ap (outcome_by c.add.new.self.job) (sym c.in-Some.ensures))

pub returns-in-None-clause-outcome : goal.returns-in-None-clause-outcome
returns-in-None-clause-outcome c notes are =
    let s = c.args.jobs.now.server.now in
    let h = c.requires.server in
    sym (
    outcome-reached s h.requests (some-period s h.plan) (some-budget s h.plan h.task) c.args.jobs.now.count c.args.m c.requires.request
    c.add.new.self c.add.ensures.reached notes c.args.jobs.now.ends.now.ends.items are c.if-self.false
    ∙ ap (outcome_by c.add.new.self.job) (sym c.in-None.ensures))
