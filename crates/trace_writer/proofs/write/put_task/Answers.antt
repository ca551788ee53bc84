use Rattle.std.proofs.Common.{arith}
use Rattle.std.proofs.lemmas.Grind.{common_steps}
use Rattle.dvs_base.specs.Parts.{name_of}
use Rattle.sched_model.specs.Plan.{names, task, period, offset}
use Rattle.trace_text.specs.TraceText.{task_text}
use Rattle.trace_writer.proofs.WrittenLines.{puts-line}
use Rattle.trace_writer.proofs.write.put_task.Goals as goal

pub returns : goal.returns
returns g c =
    let p = c.args.plan.now in
    let i = c.args.i in
    let text = task_text (name_of (names p) i) (period p i) (offset p i) (task p i).worst in
    puts-line _ _ c.write_task.new.line text c.put_line.result (grind (arith, common_steps)) c.put_line.ensures
