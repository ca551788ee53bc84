use Rattle.std.proofs.Common.{rules}
use Rattle.trace_text.specs.TraceLines.{plan_text}
use Rattle.trace_writer.proofs.WrittenLines.{puts-line}
use Rattle.trace_writer.proofs.write.put_plan.Goals as goal

pub returns : goal.returns
returns g c =
    let h = c.args.head in
    puts-line _ _ c.write_head.new.line (plan_text h.plan.now.scheduler h.governor h.ticks) c.put_line.result (search rules) c.put_line.ensures
