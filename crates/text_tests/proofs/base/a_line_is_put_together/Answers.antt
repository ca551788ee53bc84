use Rattle.std.proofs.Common.{◌≤◌, length, rules, arith}
use Rattle.std.specs.Fmt.{decimal}
use Rattle.std.proofs.lemmas.Fmt.{length-decimal-le}
use Rattle.text_tests.proofs.base.a_line_is_put_together.Goals as goal

pub put_num-requires : goal.put_num-requires
put_num-requires c =
    let short : length (decimal 42) ≤ 20 = search (rules, length-decimal-le 20) in
    grind (arith, short)
