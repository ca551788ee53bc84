use Rattle.std.proofs.Common.{refl}
use Rattle.rtdvs_top.proofs.Published.{writing-ends, writing-told}
use Rattle.rtdvs_top.proofs.ToldRuns.{put-told, put-untold}
use Rattle.rtdvs_top.proofs.run.run_governed.Goals as goal

pub returns-then-run : goal.returns-then-run
returns-then-run g c = λ own.
    let r = c.args.run.now in
    let d = g.G.Governor.demand in
    let k = g.G.Governor.the_kind in
    let publishes = g.met.G.Publishing.publishing.publishes r.plan c.scheduler-admitted.ensures.admitted c.requires.serves in
    let within = c.worsts-worsts.ensures.within in
    rw c.ended.ensures
    (put-told g.W.Sink.shows g.P.Probe.seen _ _ r k own c.run.result c.if-run.true
    (writing-ends d k r.plan r.demands c.requires.run.list within publishes r.version r.ticks _ c.in-Ok.ensures.kernel
    _ _ c.run.result c.in-Ok.ensures.few c.run.ensures.wrote)
    (writing-told d k r.plan r.demands c.requires.run.list within publishes r.version r.ticks _ c.in-Ok.ensures.kernel
    _ _ c.run.result c.run.ensures.wrote))

pub returns : goal.returns
returns g c = λ own.
    let r = c.args.run.now in
    let d = g.G.Governor.demand in
    let k = g.G.Governor.the_kind in
    let publishes = g.met.G.Publishing.publishing.publishes r.plan c.scheduler-admitted.ensures.admitted c.requires.serves in
    rw c.ended-2.ensures
    (put-untold g.W.Sink.shows g.P.Probe.seen _ _ r k own c.run-2.result c.if-run.false
    (writing-ends d k r.plan r.demands c.requires.run.list c.worsts-worsts.ensures.within publishes r.version r.ticks _
    c.in-Ok.ensures.kernel _ _ c.run-2.result c.in-Ok.ensures.few c.run-2.ensures.wrote)
    refl)
