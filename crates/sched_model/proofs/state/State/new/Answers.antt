use Rattle.std.proofs.Common.{◌≡◌, sym, subst, arith}
use Rattle.sched_model.specs.Plan.{count}
use Rattle.sched_model.specs.States.{IsStateOf}
use Rattle.sched_model.proofs.States.{opening-is_state, opening_by}
use Rattle.sched_model.proofs.state.State.new.Goals as goal

pub invariant_of-result : goal.invariant_of-result
invariant_of-result c =
    let p = c.args.plan.now in
    let all : c.loop-i.i ≡ count p = omega arith in
    let is = opening_by p c.loop-i.i c.loop-i.rows.items c.loop-i.base.items all c.loop-i.invariant.rows c.loop-i.invariant.base in
    subst IsStateOf (sym is) (opening-is_state p)
