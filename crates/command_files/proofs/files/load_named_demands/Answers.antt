use Rattle.std.proofs.Common.{Some}
use Rattle.statuses.specs.declared.status.FileKind.TheVariants as file
use Rattle.command_files.specs.Meanings.{demands_at}
use Rattle.command_files.proofs.RefusedSteps.{demands-refused, demand-file-refused}
use Rattle.command_files.proofs.OverWorstShown.{demand-shown}
use Rattle.command_files.proofs.files.load_named_demands.Goals as goal

pub returns-in_err-read-clause-step : goal.returns-in_err-read-clause-step
returns-in_err-read-clause-step g c files known =
    let loaded = c.in_ok-bytes.ensures.step files known in
    let why = c.in_err-read.field-0.0 in
    let unless = rw c.deref.ensures.value at c.in_err-read.ensures.file in
    demand-file-refused files file.Demands c.args.name.now (demands_at c.args.tasks.now (Some c.args.name.now)) _ _ (λ v. v) loaded.loads loaded.counts
    c.from_residual-in_err-read.result why c.from_residual-in_err-read.ensures.1
    (demands-refused files c.args.tasks.now c.args.name.now c.in_ok-bytes.bytes.items why loaded.read unless)
    (demand-shown c.args.tasks.now c.in_ok-bytes.bytes.items why unless)
