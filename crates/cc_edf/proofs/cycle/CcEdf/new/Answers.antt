use Rattle.std.proofs.lemmas.Result.{IfOk-at_ok}
use Rattle.cc_edf_laws.proofs.CycleLaws.{counts-opening}
use Rattle.cc_edf.proofs.cycle.CcEdf.new.Goals as goal

pub returns : goal.returns
returns c =
    let made = IfOk-at_ok _ c.in_ok-rates.was c.vec.ensures.items_if_clones_equal (λ y e. e) in
    record { stands = rw (made, c.count.ensures.count) (counts-opening c.args.plan.now c.requires) }
