use Rattle.std.proofs.Common.{sym}
use Rattle.trace_reader.proofs.FirstCut.{one_of-more}
use Rattle.trace_reader.proofs.parts.one_part.Goals as goal

pub returns-in-Some : goal.returns-in-Some
returns-in-Some c = rw c.in-Some.ensures.found (sym (one_of-more c.in-Some.field-0.0.now c.args.separator c.in-Some.field-0.1.now))
