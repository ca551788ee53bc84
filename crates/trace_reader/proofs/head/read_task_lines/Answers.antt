use Rattle.std.proofs.Common.{sym, ◌∙◌}
use Rattle.std.proofs.lemmas.Result.{err_from_is_err_and}
use Rattle.trace_reader.specs.Fields.{parts}
use Rattle.trace_reader.proofs.ReaderSteps.{tasks-refused}
use Rattle.trace_reader.proofs.head.read_task_lines.Goals as goal

pub returns-in_err-line-clause-read : goal.returns-in_err-line-clause-read
returns-in_err-line-clause-read c =
    let p = err_from_is_err_and c.from_residual.result c.from_residual.ensures.1 in
    rw (p.1, p.2) (λ some.
    sym c.loop-i.invariant.left
    ∙ tasks-refused c.loop-i.number c.args.names.now c.args.tasks.now c.loop-i.i
    (parts 10 c.loop-i.rest.now) c.in_err-line.field-0.0 c.loop-i-test.true c.requires (c.in_err-line.ensures.line some))
