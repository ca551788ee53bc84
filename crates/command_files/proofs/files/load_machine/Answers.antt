use Rattle.statuses.specs.declared.status.FileKind.TheVariants as file
use Rattle.statuses.specs.Refused.{machine_status}
use Rattle.command_files.specs.Meanings.{machine_at}
use Rattle.command_files.proofs.RefusedSteps.{machine-refused, file-refused}
use Rattle.command_files.proofs.files.load_machine.Goals as goal

pub returns-in_err-read-clause-step : goal.returns-in_err-read-clause-step
returns-in_err-read-clause-step g c files known =
    let loaded = c.in_ok-bytes.ensures.step files known in
    let why = c.in_err-read.field-0.0 in
    file-refused files file.Machine c.args.name.now (machine_at c.args.name.now) _ _ (λ v. v) loaded.loads loaded.counts
    c.from_residual-in_err-read.result (machine_status why) c.from_residual-in_err-read.ensures.1
    (machine-refused files c.args.name.now c.in_ok-bytes.bytes.items why loaded.read
    (rw c.deref.ensures.value at c.in_err-read.ensures))
