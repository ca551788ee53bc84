use Rattle.std.proofs.Common.{List, length, ap, ◌∙◌, subst, arith, rules}
use Rattle.std.proofs.lemmas.List.{length-replicate}
use Rattle.std.specs.Prelude.{None}
use Rattle.event_kernel.specs.Runs.{notes_of_run}
use Rattle.request_list.specs.declared.requests.Request.{Request}
use Rattle.poll_server.specs.ServerJobs.{server_of}
use Rattle.poll_server.proofs.JobEnds.{hears-all}
use Rattle.poll_server.proofs.PolledRun.{Answered, answered, jobs-within, server_jobs}
use Rattle.poll_server.proofs.polling.poll.Goals as goal

pub polled_demands-requires-clause-few : goal.polled_demands-requires-clause-few
polled_demands-requires-clause-few g c =
    omega (
      arith,
      jobs-within c.args.plan.now c.args.server c.args.ticks c.requires.server,
      c.jobs_below-jobs.ensures.jobs,
      c.count_jobs-count.ensures,
      c.if-count-gt-MOST_JOBS.false,
    )

pub outcomes-requires-clause-long : goal.outcomes-requires-clause-long
outcomes-requires-clause-long g c =
    let whole = rw c.unwrap-totals.ensures at c.drive.ensures.ran in
    let heard = hears-all c.in_ok-ends.ends (notes_of_run g.G.Governor.demand c.in_ok-kernel.kernel) c.drive.new.to whole in
    heard.long ∙ (ap length c.in_ok-ends.ensures.ends ∙ length-replicate c.jobs_below-jobs.result None)

pub returns : goal.returns
returns g c =
    let demand = g.G.Governor.demand in
    let p = c.args.plan.now in
    let i = c.args.server in
    let heard = rw c.unwrap-totals.ensures at c.drive.ensures.ran in
    let totals = rw c.unwrap-totals.ensures at c.drive.ensures.totals in
    let all : Answered demand (server_of p i c.args.requests.now) c.args.ticks c.of-2.result =
    subst (λ (l : List Request). Answered demand (server_of p i l) c.args.ticks c.of-2.result) c.as_slice.ensures.requests
    (answered demand (server_of p i c.as_slice.result.now) c.in_ok-demands.demands
    c.jobs_below-jobs.result c.args.ticks c.jobs_below-jobs.ensures.jobs c.in_ok-demands.ensures c.in_ok-kernel.kernel
    c.in_ok-kernel.ensures.kernel c.drive.ensures.deadlines c.in_ok-ends.ends c.drive.new.to
    c.in_ok-ends.ensures.task c.in_ok-ends.ensures.ends heard c.in_ok-list.list.items
    c.unwrap-totals.result c.in_ok-list.ensures totals c.of-2.result c.of-2.ensures) in
    record {
      served = all.served;
      outcomes = all.outcomes;
      in_order = server_jobs p i c.args.requests.now c.scheduler-admitted.ensures.admitted c.requires.server c.as_slice.ensures.limits;
      bound = all.bound;
      few = search rules;
      many = search rules;
      memory = search rules;
    }
