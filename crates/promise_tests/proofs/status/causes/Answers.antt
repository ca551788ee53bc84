use Rattle.std.proofs.Common.{◌≡◌, Ok, Err, sym, ◌∙◌}
use Rattle.promise_tests.proofs.Statuses.{over-limit, over-speed, rises}
use Rattle.promise_tests.proofs.status.causes.Goals as goal

pub returns-clause-refused : goal.returns-clause-refused
returns-clause-refused g c = λ why is. (c.rtdvs.ensures.words why).1 is

pub returns-clause-read : goal.returns-clause-read
returns-clause-read g c = λ command why is same. absurd (let e : Ok command ≡ Err why = sym is ∙ (c.rtdvs.ensures.words why).0 same in cc)

pub returns-clause-failed : goal.returns-clause-failed
returns-clause-failed g c = λ failed. rises _ _ (c.rtdvs.ensures.write failed)

pub returns-clause-jobs : goal.returns-clause-jobs
returns-clause-jobs g c = λ jobs. over-limit c.rtdvs.result jobs c.rtdvs.ensures.shown

pub returns-clause-work : goal.returns-clause-work
returns-clause-work g c = λ num cap. over-speed c.rtdvs.result num cap c.rtdvs.ensures.shown
