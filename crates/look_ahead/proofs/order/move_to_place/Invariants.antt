use Rattle.look_ahead_laws.specs.Ahead.{deadline_at}
use Rattle.look_ahead.specs.Counters.{stands_before_due}
use Rattle.look_ahead.proofs.MovedTask.{IsInPlace}
use Rattle.look_ahead.proofs.order.move_to_place.Given as goal

abbrev pub invariant-loop-k : goal.invariant-loop-k
invariant-loop-k l = IsInPlace (stands_before_due (deadline_at l.view) l.task l.due) l.task l.fn.order l.order l.k
