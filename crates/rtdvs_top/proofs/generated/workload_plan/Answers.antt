use Rattle.std.proofs.Common.{◌≡◌, ◌≤◌, ◌+◌, ◌/◌, ◌*◌, arith, ap₂, ◌∙◌, sym, subst}
use Rattle.std.proofs.Math.Nat.{mul-le-mul_right, mul-le-mul_left}
use Rattle.dvs_base.specs.declared.kind.Scheduler.TheVariants.{Edf}
use Rattle.sched_model.specs.Jobs.{released_jobs}
use Rattle.dvs_base.specs.declared.limits.TheConstants.{MOST_JOBS}
use Rattle.sched_model.specs.Plan.{plan_of}
use Rattle.rtdvs_top.specs.Generated.{workload_plan}
use Rattle.workload.specs.Draws.{first_state}
use Rattle.workload.specs.Workload.{made_machine}
use Rattle.workload.proofs.MadeTasks.{few-released}
use Rattle.rtdvs_top.proofs.generated.workload_plan.Goals as goal

pub returns-in-Ok-clause-jobs : goal.returns-in-Ok-clause-jobs
returns-in-Ok-clause-jobs c =
    let made = c.in_ok-set.ensures.made in
    let seed = c.args.made.seed in
    let tasks = c.args.made.tasks in
    let ticks = c.args.made.ticks in
    let plan : c.in-Ok.plan ≡ workload_plan seed tasks =
    c.in-Ok.ensures.plan ∙ ap₂ (λ tasks machine. plan_of tasks machine Edf) made.tasks_are made.machine_is in
    let jobs : released_jobs (workload_plan seed tasks) ticks ≤ tasks * (ticks / 20 + 1) =
    few-released (first_state seed) tasks c.requires.some (omega (arith, c.requires.few)) made_machine Edf ticks in
    let each : ticks / 20 + 1 ≤ 2501 = omega (arith, c.requires.few_ticks) in
    let most : tasks * (ticks / 20 + 1) ≤ tasks * 2501 = mul-le-mul_left tasks each in
    let all : tasks * 2501 ≤ 32 * 2501 = mul-le-mul_right 2501 c.requires.few in
    subst (λ p. released_jobs p ticks ≤ MOST_JOBS) (sym plan) (omega (arith, jobs, most, all))
