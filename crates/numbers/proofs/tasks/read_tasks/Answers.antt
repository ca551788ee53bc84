use Rattle.std.proofs.Common.{rules, ◌≡◌, arith, [], ◌∷◌, ◌++◌, length}
use Rattle.std.proofs.lemmas.Grind.{common_steps}
use Rattle.numbers.specs.Given.{given_name}
use Rattle.numbers.proofs.Lists.{AreGiven-push}
use Rattle.numbers.proofs.tasks.read_tasks.Goals as goal

pub loop-one-preserved : goal.loop-one-preserved
loop-one-preserved c =
    let pushed : c.push.new.self.items ≡ c.loop-one.tasks.items ++ c.in_ok-task.task ∷ [] = grind (arith, common_steps) in
    let named : c.in_ok-task.task.name ≡ given_name (length c.loop-one.tasks.items) = grind (arith, common_steps) in
    record {
      count = search rules;
      limits = rw pushed (AreGiven-push c.loop-one.tasks.items c.in_ok-task.task c.loop-one.invariant.limits c.in_ok-task.ensures.limits named);
      rest = grind (arith, common_steps);
    }
