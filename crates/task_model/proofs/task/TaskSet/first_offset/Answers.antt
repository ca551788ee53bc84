use Rattle.std.proofs.Common.{length, sym, ap, ◌∙◌, arith}
use Rattle.task_model.specs.declared.task.Task.{Task}
use Rattle.task_model.specs.Tasks.{task_at}
use Rattle.task_model.proofs.FirstOffset.{none-found, first-found}
use Rattle.task_model.proofs.task.TaskSet.first_offset.Goals as goal

pub returns-then-task-ne0-clause-is : goal.returns-then-task-ne0-clause-is
returns-then-task-ne0-clause-is c =
    sym (first-found (λ k. (task_at c.args.self.now k).offset) (length c.args.self.now) c.loop-i.i (record {
      task = omega (arith, c.loop-i-test.true, c.count-i-end.ensures.count);
      later = λ e. c.if-task-ne0.true (ap (λ (t : Task). t.offset) c.task.ensures.task ∙ e);
      first = c.loop-i.invariant;
    }))

pub returns-clause-is : goal.returns-clause-is
returns-clause-is c =
    sym (none-found (λ k. (task_at c.args.self.now k).offset) (length c.args.self.now)
    (λ k lt. c.loop-i.invariant k (omega (arith, lt, c.loop-i-test.false, c.count-i-end.ensures.count))))
