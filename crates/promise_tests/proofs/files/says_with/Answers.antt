use Rattle.promise_tests.proofs.Said.{says}
use Rattle.promise_tests.proofs.files.says_with.Goals as goal

pub returns : goal.returns
returns g c = λ files may.
    let said = says _ files _ _ c.rtdvs.result (c.rtdvs.ensures.promised files may) in (_, rw c.requires at said)
