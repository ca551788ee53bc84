use Rattle.std.proofs.Common.{◌≡◌, ◌<◌, length, arith, rules}
use Rattle.std.proofs.lemmas.Bool.Decides.{nat_tests}
use Rattle.trace_reader.proofs.ReaderSteps.{is_nothing-some, is_nothing-none}
use Rattle.trace_reader.proofs.read.ended.Goals as goal

pub returns-then-is_empty : goal.returns-then-is_empty
returns-then-is_empty c =
    let none : length c.args.rest.now ≡ 0 = grind (arith, nat_tests, c.if-is_empty.ensures) in
    rw is_nothing-none (search rules)

pub returns-else-is_empty : goal.returns-else-is_empty
returns-else-is_empty c =
    let some : 0 < length c.args.rest.now = grind (arith, nat_tests, c.if-is_empty.ensures) in
    rw is_nothing-some (search rules)
