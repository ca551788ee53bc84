use Rattle.std.proofs.Common.{◌+◌, ◌∷◌, length, sym, subst, arith}
use Rattle.rm_response.specs.Loads.{AreServedWithin, AreInTurnTo, AreLoads}
use Rattle.rm_response.proofs.Searches.{others-loads, turn-none, served-found}
use Rattle.rm_response.proofs.nodes.+tail_of.Goals as goal

pub fitting_period-requires : goal.fitting_period-requires
fitting_period-requires t c =
    let s = c.args.search.whole in
    others-loads s c.in-Some.load.now c.in-Some.others.now (subst (AreLoads s) c.in-Some.ensures.cases.0 c.requires.loads)

pub returns-then-is_none : goal.returns-then-is_none
returns-then-is_none t c = turn-none (length c.args.loads.now) c.args.search.low c.args.loads.now (omega arith)

pub tail_of-requires : goal.tail_of-requires
tail_of-requires t c =
    let s = c.args.search.whole in (
      omega (arith, c.decreases, c.in-Some.ensures.cases.1),
      others-loads s c.in-Some.load.now c.in-Some.others.now (subst (AreLoads s) c.in-Some.ensures.cases.0 c.requires.loads),
    )

pub returns : goal.returns
returns t c =
    let q = c.args.search in
    let x = c.in-Some.load.now in
    let xs = c.in-Some.others.now in
    let rest = c.from.result + c.lack.result + 1 in
    let served : AreServedWithin q.low (x ∷ xs) x.period =
    served-found q x xs rest c.lack.result c.fitting_period.result (omega (arith, c.from.ensures)) c.lack.ensures.next
    c.fitting_period.ensures c.if-is_none.ensures in
    subst (AreInTurnTo c.tail_of.result q.low) (sym c.in-Some.ensures.cases.0) ((λ lt. served), c.tail_of.ensures)
