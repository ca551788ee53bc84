use Rattle.std.proofs.Common.{◌≡◌, IfOk, subst}
use Rattle.rtdvs_top.proofs.Published.{totals-published}
use Rattle.rtdvs_top.proofs.generated.governed_totals.Goals as goal

pub returns : goal.returns
returns g c =
    let p = c.args.plan.now in
    let publishes = g.met.G.Publishing.publishing.publishes p c.scheduler-admitted.ensures.admitted c.requires.serves in
    subst (λ totals. IfOk c.totals_from_opening.result (λ t. t ≡ totals))
    (totals-published g.G.Governor.demand _ p c.args.demands.now c.requires.run.list c.worsts-worsts.ensures.within publishes c.args.ticks)
    c.totals_from_opening.ensures
