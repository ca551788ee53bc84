use Rattle.std.proofs.Common.{◌≤◌, subst, arith}
use Rattle.std.proofs.lemmas.List.Elements.{All-more}
use Rattle.rm_response.specs.declared.inputs.Load.{Load}
use Rattle.rm_response.proofs.loads.place_among.Goals as goal

pub loop-k-preserved : goal.loop-k-preserved
loop-k-preserved c =
    All-more (λ (x : Load). c.args.response ≤ x.period) c.args.loads.now c.loop-k.k c.index-loads-k.result (omega arith) c.loop-k.invariant
    (subst (λ (x : Load). c.args.response ≤ x.period) c.index-loads-k.is c.if-other-response.false)
