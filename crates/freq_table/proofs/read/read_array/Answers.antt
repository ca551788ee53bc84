use Rattle.std.proofs.Common.{◌<◌, length, arith}
use Rattle.std.proofs.lemmas.Bool.Decides.{nat_tests}
use Rattle.freq_table.proofs.Entries.{too_many, few}
use Rattle.freq_table.proofs.read.read_array.Goals as goal

pub returns-then-entries-gt-MOST_POINTS-clause-meaning : goal.returns-then-entries-gt-MOST_POINTS-clause-meaning
returns-then-entries-gt-MOST_POINTS-clause-meaning c _ = too_many c.args.entries.now c.if-entries-gt-MOST_POINTS.true

pub returns-clause-meaning : goal.returns-clause-meaning
returns-clause-meaning c =
    let some : 0 < length c.args.entries.now = grind (arith, nat_tests) in
    rw (few c.args.entries.now some c.if-entries-gt-MOST_POINTS.false) c.read_entries.ensures.meaning
