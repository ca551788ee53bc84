use Rattle.std.proofs.Common.{◌<◌, ◌≤◌, ◌*◌, arith, ap, ◌∙◌}
use Rattle.freq_table.specs.Tables.{highest_speed}
use Rattle.energy_bound.proofs.Corners.{units-order, some-holds, first-pair, found-is}
use Rattle.energy_bound.proofs.Costs.{certificate-least}
use Rattle.energy_bound.proofs.least.least_energy.Goals as goal

pub returns-in-Some-clause-answer : goal.returns-in-Some-clause-answer
returns-in-Some-clause-answer c =
    let m = c.args.machine.now in
    let fits : c.args.units ≤ c.args.ticks * highest_speed m =
    omega (
      arith,
      c.if-num-cap.false,
      c.from-num.ensures,
      ap (λ v. v * c.from-2.result) c.from.ensures,
      ap (λ v. c.args.ticks * v) (c.from-2.ensures ∙ c.top.ensures),
    ) in
    found-is m c.args.units c.args.ticks c.loop-a.a c.in-Some.b c.least_of.result fits c.loop-a.invariant
    c.in-Some.ensures c.least_of.ensures

pub returns-in-Some-clause-first : goal.returns-in-Some-clause-first
returns-in-Some-clause-first c =
    let a = c.loop-a.a in
    let b = c.in-Some.b in (
      a,
      b,
      first-pair c.args.machine.now c.as_slice-limits.ensures.limits c.args.units c.args.ticks a b c.loop-a.invariant c.in-Some.ensures,
      c.least_of.ensures,
    )

pub returns-in-Some-clause-least : goal.returns-in-Some-clause-least
returns-in-Some-clause-least c =
    certificate-least c.args.machine.now c.as_slice-limits.ensures.limits c.args.units c.args.ticks c.least_of.result
    (c.loop-a.a, c.in-Some.b, c.in-Some.ensures.holds, c.least_of.ensures)

pub unreachable-requires : goal.unreachable-requires
unreachable-requires c =
    let m = c.args.machine.now in
    let fits : c.args.units ≤ c.args.ticks * highest_speed m =
    omega (
      arith,
      c.if-num-cap.false,
      c.from-num.ensures,
      ap (λ v. v * c.from-2.result) c.from.ensures,
      ap (λ v. c.args.ticks * v) (c.from-2.ensures ∙ c.top.ensures),
    ) in
    let (a, (b, h)) = some-holds m c.as_slice-limits.ensures.limits c.args.units c.args.ticks fits in
    let before : a < b = units-order m c.as_slice-limits.ensures.limits a b h.low h.high h.slower in
    c.loop-a.invariant a b (omega (arith, h.high)) h
