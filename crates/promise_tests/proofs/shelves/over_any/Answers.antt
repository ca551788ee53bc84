use Rattle.std.proofs.Common.{arith}
use Rattle.promise_tests.proofs.Statuses.{wrote-some-text}
use Rattle.promise_tests.proofs.shelves.over_any.Goals as goal

pub returns-clause-sure : goal.returns-clause-sure
returns-clause-sure g c = λ sure. c.rtdvs.ensures.sure_loads (omega (arith, sure))

pub returns-clause-explained : goal.returns-clause-explained
returns-clause-explained g c = λ distinct.
    let found = c.rtdvs.ensures.agree distinct in
    (found.0, (c.rtdvs.ensures.promised found.0 found.1).answers)

pub returns-clause-wrote : goal.returns-clause-wrote
returns-clause-wrote g c = wrote-some-text _ _ _ c.rtdvs.result c.rtdvs.ensures.any_files
