use Rattle.std.proofs.Common.{refl}
use Rattle.task_model.proofs.fault_line.task_fault_line.Goals as goal

pub returns-in-Kind : goal.returns-in-Kind
returns-in-Kind c = rw (c.in-Kind.is, c.task_line-in-Kind.ensures, c.task_field_word-in-Kind.ensures.text) refl

pub returns-in-Range : goal.returns-in-Range
returns-in-Range c = rw (c.in-Range.is, c.task_line-in-Range.ensures, c.task_field_word-in-Range.ensures.text) refl

pub returns-in-BadName : goal.returns-in-BadName
returns-in-BadName c = rw (c.in-BadName.is, c.line_of-in-BadName.ensures) refl

pub returns-in-SameName : goal.returns-in-SameName
returns-in-SameName c = rw (c.in-SameName.is, c.same_name_line.ensures) refl
