use Rattle.std.proofs.Common.{sym, ◌∙◌, true≢false}
use Rattle.energy_bound.proofs.Costs.{certified, certificate-least, schedules-cost}
use Rattle.energy_bound.proofs.LeastTest.{same_least-true, same_least-self}
use Rattle.energy_bound.proofs.least.check.Goals as goal

pub returns-then-holds-clause-exact : goal.returns-then-holds-clause-exact
returns-then-holds-clause-exact c =
    let m = c.args.machine.now in
    let a = c.in-Some-Some.a in
    let b = c.in-Some-Some.b in
    let low = c.in-Some-Some.ensures in
    let high = c.in-Some-Some.ensures' in (
      λ yes. (a, b, c.holds.ensures.0 c.if-holds.true, same_least-true c.args.given.now c.least_of.result (sym c.eq.ensures ∙ yes) ∙ c.least_of.ensures),
      λ h.
          let r = certified m c.as_slice-limits.ensures.limits c.args.units c.args.ticks c.args.given.now a b low.0 high.0 low.1 high.1 h in
          c.eq.ensures ∙ same_least-self c.args.given.now c.least_of.result (r.1 ∙ sym c.least_of.ensures),
    )

pub returns-then-holds-clause-least : goal.returns-then-holds-clause-least
returns-then-holds-clause-least c = λ yes.
    certificate-least c.args.machine.now c.as_slice-limits.ensures.limits c.args.units c.args.ticks c.args.given.now
    ((returns-then-holds-clause-exact c).0 yes)

pub returns-else-holds-clause-exact : goal.returns-else-holds-clause-exact
returns-else-holds-clause-exact c =
    let low = c.in-Some-Some.ensures in
    let high = c.in-Some-Some.ensures' in (
      λ yes. absurd (true≢false (sym yes ∙ c.if-holds.false)),
      λ h. c.holds.ensures.1 (certified c.args.machine.now c.as_slice-limits.ensures.limits c.args.units c.args.ticks
          c.args.given.now c.in-Some-Some.a c.in-Some-Some.b low.0 high.0 low.1 high.1 h).0,
    )

pub returns-then-holds-clause-costs : goal.returns-then-holds-clause-costs
returns-then-holds-clause-costs c = schedules-cost c.args.machine.now c.as_slice-limits.ensures.limits.some

pub returns-else-holds-clause-costs : goal.returns-else-holds-clause-costs
returns-else-holds-clause-costs c = schedules-cost c.args.machine.now c.as_slice-limits.ensures.limits.some

pub returns-in_default-clause-costs : goal.returns-in_default-clause-costs
returns-in_default-clause-costs c = schedules-cost c.args.machine.now c.as_slice-limits.ensures.limits.some

pub returns-in_default-2-clause-costs : goal.returns-in_default-2-clause-costs
returns-in_default-2-clause-costs c = schedules-cost c.args.machine.now c.as_slice-limits.ensures.limits.some
