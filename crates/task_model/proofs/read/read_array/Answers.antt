use Rattle.std.proofs.Common.{◌<◌, length, arith, rules}
use Rattle.std.proofs.lemmas.Bool.Decides.{nat_tests}
use Rattle.task_model.proofs.Entries.{too_many, few}
use Rattle.task_model.proofs.read.read_array.Goals as goal

pub returns-then-entries-gt-MOST_TASKS : goal.returns-then-entries-gt-MOST_TASKS
returns-then-entries-gt-MOST_TASKS c _ = too_many c.args.entries.now c.if-entries-gt-MOST_TASKS.true

pub returns : goal.returns
returns c =
    let some : 0 < length c.args.entries.now = grind (arith, nat_tests) in
    rw (few c.args.entries.now some c.if-entries-gt-MOST_TASKS.false, c.in_ok-tasks.ensures.meaning) c.set_of.ensures

pub returns-in_err-tasks : goal.returns-in_err-tasks
returns-in_err-tasks c =
    let some : 0 < length c.args.entries.now = grind (arith, nat_tests) in
    rw (few c.args.entries.now some c.if-entries-gt-MOST_TASKS.false) (search rules)
