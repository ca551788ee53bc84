use Rattle.std.proofs.Common.{◌/◌, ◌≤◌, arith}
use Rattle.std.proofs.Math.Nat.{div-le_self, mul-le-mul_left}
use Rattle.dvs_base.specs.declared.kind.Scheduler.TheVariants.{Rm}
use Rattle.task_model.specs.declared.limits.TheConstants.{LONGEST_HYPERPERIOD}
use Rattle.sched_model.specs.Plan.{Plan, plan_of, period, worst, hyper}
use Rattle.rm_response.proofs.loads.load_of.Goals as goal

pub invariant_of-result-clause-low_rate : goal.invariant_of-result-clause-low_rate
invariant_of-result-clause-low_rate c =
    let p : Plan = plan_of c.args.tasks.now c.args.machine.now Rm in
    let j = c.args.j in
    let jobs : hyper p / period p j ≤ LONGEST_HYPERPERIOD =
    (let low = c.as_slice-task_limits.ensures.limits.hyper in omega (arith, low, div-le_self (hyper p) (period p j))) in
    omega (arith, c.rate.ensures.value, c.worst.ensures.value, mul-le-mul_left (worst p j) jobs)
