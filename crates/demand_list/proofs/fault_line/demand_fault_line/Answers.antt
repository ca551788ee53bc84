use Rattle.std.proofs.Common.{refl}
use Rattle.demand_list.proofs.fault_line.demand_fault_line.Goals as goal

pub returns-in-UnknownTask : goal.returns-in-UnknownTask
returns-in-UnknownTask c = rw (c.in-UnknownTask.is, c.unknown_task_line.ensures) refl

pub returns-in-JobZero : goal.returns-in-JobZero
returns-in-JobZero c = rw (c.in-JobZero.is, c.row_line.ensures) refl
