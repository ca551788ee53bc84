use Rattle.std.proofs.lemmas.Result.{IfOk-at_ok}
use Rattle.look_ahead.proofs.AheadCounters.{keeps-opening}
use Rattle.look_ahead.proofs.ahead.LookAhead.new.Goals as goal

pub returns : goal.returns
returns c =
    let keeps =
    keeps-opening c.args.plan.now c.in_ok-order.order.items c.in_ok-rates.rates.items c.requires c.in_ok-order.ensures
    c.in_ok-rates.ensures in
    record { stands = rw (IfOk-at_ok _ c.in_ok-left.was c.vec.ensures.items_if_clones_equal (λ y e. e), c.count.ensures.count) keeps }
