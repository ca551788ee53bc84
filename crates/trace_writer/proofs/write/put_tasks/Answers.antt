use Rattle.std.proofs.Common.{◌∙◌, arith}
use Rattle.trace_writer.proofs.WrittenLines.{below-next, below-stopped, below-all}
use Rattle.trace_writer.proofs.write.put_tasks.Goals as goal

pub loop-i-preserved : goal.loop-i-preserved
loop-i-preserved g c = below-next _ c.loop-i.i c.loop-i.invariant c.in_ok-put_task.ensures

pub returns-in_err-put_task : goal.returns-in_err-put_task
returns-in_err-put_task g c =
    below-stopped c.args.version _ _ c.from_residual.result c.from_residual.ensures.0 c.loop-i-test.true
    c.count_task_lines-i-end.ensures.number c.loop-i.invariant c.in_err-put_task.ensures

pub returns : goal.returns
returns g c =
    below-all c.args.version _ {i = c.loop-i.i} _
    (omega (arith, c.loop-i-test.false, c.loop-i.auto.i-end) ∙ c.count_task_lines-i-end.ensures.number) c.loop-i.invariant
