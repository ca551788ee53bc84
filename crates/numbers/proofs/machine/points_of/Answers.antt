use Rattle.std.proofs.Common.{◌<◌, length, arith}
use Rattle.std.proofs.lemmas.Bool.Decides.{nat_tests}
use Rattle.numbers.proofs.Lists.{too_many_points, few_points}
use Rattle.numbers.proofs.machine.points_of.Goals as goal

pub returns-then-given-gt-MOST_POINTS-clause-meaning : goal.returns-then-given-gt-MOST_POINTS-clause-meaning
returns-then-given-gt-MOST_POINTS-clause-meaning c _ = too_many_points c.args.given.now c.if-given-gt-MOST_POINTS.true

pub returns-clause-meaning : goal.returns-clause-meaning
returns-clause-meaning c =
    let some : 0 < length c.args.given.now = grind (arith, nat_tests) in
    rw (few_points c.args.given.now some c.if-given-gt-MOST_POINTS.false) c.read_points.ensures.meaning
