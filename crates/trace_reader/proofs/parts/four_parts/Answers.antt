use Rattle.std.proofs.Common.{refl}
use Rattle.trace_reader.proofs.FirstCut.{four_of-more}
use Rattle.trace_reader.proofs.parts.four_parts.Goals as goal

pub returns : goal.returns
returns c = rw (c.in_ok-a.ensures.found, four_of-more, ← c.in_ok-b.ensures) refl
