use Rattle.std.proofs.Common.{subst, sym}
use Rattle.poll_server.specs.ServerJobs.{ServerView}
use Rattle.statuses.specs.Refused.{or_status}
use Rattle.statuses.proofs.MappedResults.{mapped}
use Rattle.rtdvs_top.specs.Poll.{poll_status}
use Rattle.rtdvs_top.specs.Prepared.{IsServed}
use Rattle.rtdvs_top.proofs.Pollings.{served-as-status}
use Rattle.rtdvs_top.proofs.poll.serve_governed.Goals as goal

-- the call of `poll`, for the server that contracts see
pub returns : goal.returns
returns g c = λ own.
    let d = g.G.Governor.demand in
    let t = c.args.words.now.ticks in
    let r = c.poll.result in
    let e = c.poll.ensures in
    let view = c.polling.view_is in
    let serves = subst (λ (x : ServerView). g.G.Governor.serves x.plan.scheduler) (sym view) c.requires.serves in
    let publishes = g.met.G.Publishing.publishing.publishes _ c.scheduler-admitted.ensures.admitted serves in
    rw (own, mapped poll_status r c.map_err.result c.map_err.ensures.cases)
    (subst (λ (x : ServerView). IsServed g.G.Governor.the_kind t x (or_status poll_status r)) view
    (served-as-status d g.G.Governor.the_kind _ publishes t r e.in_order e.served e.outcomes e.bound e.few e.many))
