use Rattle.std.proofs.Common.{◌<◌, arith}
use Rattle.energy_bound.proofs.Corners.{units-order, cost-climb}
use Rattle.energy_bound.proofs.least.least_of.Goals as goal

pub overflow_sub-result-2 : goal.overflow_sub-result-2
overflow_sub-result-2 c =
    let m = c.args.machine.now in
    let h = c.requires.holds in
    let order : c.args.a < c.args.b = units-order m c.as_slice-limits.ensures.limits c.args.a c.args.b h.low h.high h.slower in
    omega (arith, cost-climb m c.as_slice-limits.ensures.limits c.args.a c.args.b (omega arith) h.high)
