use Rattle.std.proofs.lemmas.Grind.{common_steps}
use Rattle.std.proofs.Common.{arith}
use Rattle.energy_bound.proofs.Corners.{units-rise, units-order}
use Rattle.energy_bound.proofs.corner.holds.Goals as goal

pub returns-then-a-b : goal.returns-then-a-b
returns-then-a-b c = grind (arith, common_steps, units-order)

pub returns : goal.returns
returns c = grind (arith, common_steps, units-rise)
