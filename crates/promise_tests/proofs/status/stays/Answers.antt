use Rattle.promise_tests.proofs.Statuses.{left, loads-stay, puts-stay}
use Rattle.promise_tests.proofs.status.stays.Goals as goal

pub returns-clause-out : goal.returns-clause-out
returns-clause-out g c = left c.rtdvs.result _ _ c.rtdvs.ensures.leaves

pub returns-clause-loads : goal.returns-clause-loads
returns-clause-loads g c = loads-stay c.rtdvs.result _ _ c.rtdvs.ensures.load_count

pub returns-clause-puts : goal.returns-clause-puts
returns-clause-puts g c = puts-stay c.rtdvs.result _ _ c.rtdvs.ensures.put_count
