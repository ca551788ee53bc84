use Rattle.std.proofs.Common.{refl}
use Rattle.deadline_list.proofs.fault_line.deadline_fault_line.Goals as goal

pub returns-in-BadNumber : goal.returns-in-BadNumber
returns-in-BadNumber c = rw (c.in-BadNumber.is, c.bad_number_line.ensures) refl

pub returns-in-Range : goal.returns-in-Range
returns-in-Range c = rw (c.in-Range.is, c.row_line.ensures) refl
