use Rattle.std.proofs.Common.{refl}
use Rattle.trace_reader.proofs.FirstCut.{six_of-more}
use Rattle.trace_reader.proofs.parts.six_parts.Goals as goal

pub returns : goal.returns
returns c = rw (c.in_ok-a.ensures.found, c.in_ok-b.ensures.found, six_of-more, ← c.in_ok-c.ensures) refl
