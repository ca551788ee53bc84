use Rattle.std.proofs.Common.{arith}
use Rattle.std.proofs.lemmas.Grind.{common_steps}
use Rattle.dvs_base.specs.Parts.{name_of}
use Rattle.sched_model.specs.Plan.{names}
use Rattle.trace_text.specs.TraceText.{share_text}
use Rattle.trace_writer.proofs.WrittenLines.{puts-line}
use Rattle.trace_writer.proofs.write.put_share.Goals as goal

pub returns : goal.returns
returns g c =
    let text = share_text (name_of (names c.args.plan.now) c.args.i) c.args.energy in
    puts-line _ _ c.write_share.new.line text c.put_line.result (grind (arith, common_steps)) c.put_line.ensures
