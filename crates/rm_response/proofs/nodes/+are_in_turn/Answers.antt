use Rattle.std.proofs.Common.{◌≡◌, List, length, true, is_some, sym, ap, ◌∙◌, subst, arith}
use Rattle.std.specs.Prelude.{All}
use Rattle.std.proofs.lemmas.List.Elements.{All-tail}
use Rattle.rm_response.specs.declared.inputs.Load.{Load}
use Rattle.rm_response.specs.Loads.{AreInTurn, HasRate}
use Rattle.rm_response.proofs.RelaxedLoads.{turn-found}
use Rattle.rm_response.proofs.nodes.+are_in_turn.Goals as goal

pub fitting_period-requires : goal.fitting_period-requires
fitting_period-requires t c =
    let s = c.args.supply in
    let x = c.in-Some.load.now in
    let xs = c.in-Some.others.now in
    record {
      few = omega (arith, c.requires.few, ap (length {A = Load}) c.in-Some.ensures.cases.0);
      rates = All-tail (HasRate s.hyper) x xs (subst (λ (ys : List Load). All (HasRate s.hyper) ys) c.in-Some.ensures.cases.0 c.requires.rates);
      in_turn = c.are_in_turn.ensures c.if-are_in_turn.true;
    }

pub returns-then-are_in_turn : goal.returns-then-are_in_turn
returns-then-are_in_turn t c = λ on.
    let s = c.args.supply in
    let some : is_some c.fitting_period.result ≡ true = sym c.is_some.ensures ∙ on in
    subst (AreInTurn s) (sym c.in-Some.ensures.cases.0)
    (turn-found s c.in-Some.load.now c.in-Some.others.now c.from-job.result c.fitting_period.result c.from-job.ensures
    c.fitting_period.ensures some (c.are_in_turn.ensures c.if-are_in_turn.true))
