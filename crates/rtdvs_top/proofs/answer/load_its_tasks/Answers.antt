use Rattle.std.proofs.Common.{List, Option, Result}
use Rattle.task_model.specs.declared.task.Task.{Task}
use Rattle.words.specs.Shown.{shown_command}
use Rattle.statuses.specs.declared.status.Status.{Status}
use Rattle.rtdvs_top.specs.Prepared.{IsTasksStep}
use Rattle.rtdvs_top.proofs.TasksFirst.{at-error, tasks-refused}
use Rattle.rtdvs_top.proofs.answer.load_its_tasks.Goals as goal

pub returns-in_err-load_tasks-in-Some : goal.returns-in_err-load_tasks-in-Some
returns-in_err-load_tasks-in-Some g c files known =
    let command = shown_command c.args.command.now in
    let old = g.S.Shelf.shows c.args.shelf.now in
    let new = g.S.Shelf.shows c.load_tasks.new.shelf in
    at-error (λ (r : Result (Option (List Task)) Status). IsTasksStep old new command r files) _ _ c.from_residual.ensures.1
    (tasks-refused command _ (rw c.in-Some.is at c.tasks.ensures) old new files _
    (c.in_err-load_tasks-in-Some.ensures.step files known) c.in_err-load_tasks-in-Some.ensures.of_file)
