use Rattle.std.proofs.Common.{◌≡◌, ◌<◌, length, arith, rules}
use Rattle.std.proofs.lemmas.Bool.Decides.{nat_tests}
use Rattle.numbers.proofs.Lists.{too_many_tasks, few_tasks}
use Rattle.numbers.proofs.tasks.tasks_of.Goals as goal

pub returns-then-given-gt-MOST_TASKS-clause-meaning : goal.returns-then-given-gt-MOST_TASKS-clause-meaning
returns-then-given-gt-MOST_TASKS-clause-meaning c _ = too_many_tasks c.args.given.now c.if-given-gt-MOST_TASKS.true

pub returns-clause-meaning : goal.returns-clause-meaning
returns-clause-meaning c =
    let some : 0 < length c.args.given.now = grind (arith, nat_tests) in
    let same : c.deref.result.now ≡ c.in_ok-tasks.tasks.items = search rules in
    rw (few_tasks c.args.given.now some c.if-given-gt-MOST_TASKS.false, c.in_ok-tasks.ensures.meaning, ← same) c.set_of.ensures.meaning

pub returns-in_err-tasks-clause-meaning : goal.returns-in_err-tasks-clause-meaning
returns-in_err-tasks-clause-meaning c =
    let some : 0 < length c.args.given.now = grind (arith, nat_tests) in
    rw (few_tasks c.args.given.now some c.if-given-gt-MOST_TASKS.false) (search rules)
