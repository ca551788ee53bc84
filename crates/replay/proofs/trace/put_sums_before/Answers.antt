use Rattle.replay.proofs.trace.put_sums_before.Goals as goal

pub returns-in-End : goal.returns-in-End
returns-in-End g c ps = rw c.in-End.is (c.put_sums.ensures ps)
