use Rattle.std.proofs.Common.{rules, ◌≡◌, arith, [], ◌∷◌, ◌++◌, None}
use Rattle.std.proofs.lemmas.Grind.{common_steps}
use Rattle.task_model.specs.TaskFile.{place_of}
use Rattle.task_model.proofs.Written.{AreTasks-push}
use Rattle.task_model.proofs.read.read_entries.Goals as goal

pub loop-entry-preserved : goal.loop-entry-preserved
loop-entry-preserved c =
    let pushed : c.push.new.self.items ≡ c.loop-entry.tasks.items ++ c.in_ok-task.task ∷ [] = grind (arith, common_steps) in
    let alone : place_of c.loop-entry.tasks.items c.in_ok-task.task.name ≡ None = cc (c.place_of.ensures) in
    record {
      count = search rules;
      limits = rw pushed (AreTasks-push c.loop-entry.tasks.items c.in_ok-task.task c.loop-entry.invariant.limits c.in_ok-task.ensures.limits alone);
      rest = grind (arith, common_steps);
    }
