use Rattle.promise_tests.proofs.Statuses.{left-probes, left-both}
use Rattle.promise_tests.proofs.notes.keeps.Goals as goal

pub returns-clause-unasked : goal.returns-clause-unasked
returns-clause-unasked g c = left-probes _ c.rtdvs.result _ _ c.rtdvs.ensures.kept

pub returns-clause-refused : goal.returns-clause-refused
returns-clause-refused g c = left-both _ c.rtdvs.result _ _ c.rtdvs.ensures.kept
