use Rattle.std.proofs.Common.{◌*◌, ◌≤◌, Bool, true, false, arith, mul-le-mul_left, sym, subst, ap}
use Rattle.freq_table.specs.declared.limits.TheConstants.{MOST_MILLIVOLTS}
use Rattle.freq_table.specs.Tables.{Table, IsTable}
use Rattle.sched_model.proofs.Limits.{energy-most}
use Rattle.energy.specs.Segments.{thousandths}
use Rattle.energy.proofs.segment.energy_of.Goals as goal

low_thousandths : (m : Table) → IsTable m → (idle : Bool) → thousandths m idle ≤ 1000
low_thousandths m table true = table.low_idle
low_thousandths m table false = omega arith

pub returns-clause-most : goal.returns-clause-most
returns-clause-most c =
    let m = c.point-millivolts.result.millivolts in
    let mv : m ≤ MOST_MILLIVOLTS = omega (
      arith,
      (c.as_slice-limits.ensures.limits.each c.args.point c.requires.point).low_millivolts,
      ap (λ p. p.millivolts) c.point-millivolts.ensures,
    ) in
    let rate : c.thousandths.result ≤ 1000 =
    omega (arith, low_thousandths c.args.machine.now c.as_slice-limits.ensures.limits c.args.idle, c.thousandths.ensures) in
    let unit : c.from-2.result ≤ 400000000000 = omega (arith, energy-most 1 m c.thousandths.result mv rate, c.from-2.ensures) in
    subst (λ u. u * c.from-2.result ≤ 400000000000 * c.args.units) (sym c.from.ensures)
    (omega (arith, mul-le-mul_left c.args.units unit))
