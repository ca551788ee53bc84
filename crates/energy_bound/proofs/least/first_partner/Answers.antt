use Rattle.std.proofs.lemmas.Grind.{common_steps}
use Rattle.std.proofs.Common.{arith}
use Rattle.energy_bound.proofs.Corners.{units-order}
use Rattle.energy_bound.proofs.least.first_partner.Goals as goal

pub loop-b-init : goal.loop-b-init
loop-b-init c = grind (arith, common_steps, units-order)
