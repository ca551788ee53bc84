use Rattle.std.proofs.Common.{refl}
use Rattle.deadline_list.proofs.fault_line.repeated_line.Goals as goal

pub returns : goal.returns
returns c = rw (c.row_line.ensures, c.name_part.ensures.text) refl
