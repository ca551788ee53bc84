use Rattle.trace_writer.proofs.WrittenLines.{puts-line}
use Rattle.trace_writer.proofs.write.put_version.Goals as goal

pub returns : goal.returns
returns g c = puts-line _ _ _ _ c.put_line.result c.write_version.ensures c.put_line.ensures
