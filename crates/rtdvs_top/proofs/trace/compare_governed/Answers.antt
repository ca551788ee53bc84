use Rattle.statuses.proofs.MappedResults.{mapped}
use Rattle.rtdvs_top.specs.Trace.{replay_status}
use Rattle.rtdvs_top.proofs.Comparisons.{compared-as-status}
use Rattle.rtdvs_top.proofs.Exactness.{migratable}
use Rattle.rtdvs_top.proofs.trace.compare_governed.Goals as goal

pub returns-clause-step : goal.returns-clause-step
returns-clause-step g c =
    let p = c.args.plan.now in
    let publishes = g.met.G.Publishing.publishing.publishes p c.scheduler-admitted.ensures.admitted c.requires.serves in
    let e = c.replay.ensures in
    rw (mapped replay_status c.replay.result c.map_err.result c.map_err.ensures.cases)
    (compared-as-status g.G.Governor.demand g.G.Governor.the_kind p publishes c.args.trace.now c.requires.kind
    c.replay.result e.answer e.shown)

pub returns-clause-migratable : goal.returns-clause-migratable
returns-clause-migratable g c =
    migratable c.args.plan.now c.args.trace.now c.scheduler-admitted.ensures.admitted c.requires.trace c.map_err.result (returns-clause-step g c)
