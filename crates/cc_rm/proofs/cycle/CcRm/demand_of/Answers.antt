use Rattle.std.proofs.Common.{◌≡◌, ap, arith}
use Rattle.sched_model.specs.States.{StateView}
use Rattle.governor.proofs.StatesOfDemands.{earliest-later}
use Rattle.cc_rm.proofs.cycle.CcRm.demand_of.Goals as goal

pub overflow_sub-first : goal.overflow_sub-first
overflow_sub-first c =
    let same : c.view.inside.base_at ≡ c.args.view.now.base_at = ap (λ (s : StateView). s.base_at) c.view.view_is in
    let later = earliest-later c.args.plan.now c.scheduler-admitted.ensures.admitted.limits c.args.view.now c.requires.decision.before in
    omega (arith, same, later, c.requires.decision.marked, c.earliest_deadline-first.ensures)

pub overflow_sub-first-2 : goal.overflow_sub-first-2
overflow_sub-first-2 c =
    let same : c.view.inside.now ≡ c.args.view.now.now = ap (λ (s : StateView). s.now) c.view.view_is in
    let later = earliest-later c.args.plan.now c.scheduler-admitted.ensures.admitted.limits c.args.view.now c.requires.decision.before in
    omega (arith, same, later, c.earliest_deadline-first.ensures)
