use Rattle.std.proofs.Common.{refl}
use Rattle.words.proofs.fault_line.word_fault_line.Goals as goal

pub returns-in-BadValue : goal.returns-in-BadValue
returns-in-BadValue c = rw (c.in-BadValue.is, c.word_line-in-BadValue.ensures) refl
