use Rattle.std.proofs.Common.{arith}
use Rattle.std.proofs.lemmas.Grind.{common_steps}
use Rattle.sched_model.proofs.Orders.{length-in_order}
use Rattle.sched_model.proofs.plan.Admitted.ranked.Goals as goal

pub index-requires : goal.index-requires
index-requires c = grind (arith, common_steps, length-in_order)

pub returns : goal.returns
returns c = grind (arith, common_steps, length-in_order)
