use Rattle.statuses.specs.declared.status.FileKind.TheVariants as file
use Rattle.statuses.specs.Refused.{task_status}
use Rattle.command_files.specs.Meanings.{tasks_at}
use Rattle.command_files.proofs.RefusedSteps.{tasks-refused, file-refused}
use Rattle.command_files.proofs.files.load_tasks.Goals as goal

pub returns-in_err-read-clause-step : goal.returns-in_err-read-clause-step
returns-in_err-read-clause-step g c files known =
    let loaded = c.in_ok-bytes.ensures.step files known in
    let why = c.in_err-read.field-0.0 in
    file-refused files file.Tasks c.args.name.now (tasks_at c.args.name.now) _ _ (λ v. v) loaded.loads loaded.counts
    c.from_residual-in_err-read.result (task_status why) c.from_residual-in_err-read.ensures.1
    (tasks-refused files c.args.name.now c.in_ok-bytes.bytes.items why loaded.read
    (rw c.deref.ensures.value at c.in_err-read.ensures))
