use Rattle.std.proofs.Common.{◌∙◌, sym, subst, ap₂}
use Rattle.dvs_base.specs.declared.kind.Scheduler.TheVariants.{Edf}
use Rattle.task_model.specs.Tasks.{IsTaskSet}
use Rattle.sched_model.specs.Plan.{plan_of}
use Rattle.sched_model.specs.Tests.{IsEdfFeasible}
use Rattle.workload.proofs.MadeTasks.{made_tasks-are, made_tasks-feasible}
use Rattle.workload.proofs.made.make.Goals as goal

pub of-requires : goal.of-requires
of-requires c =
    subst IsTaskSet (sym (c.deref.ensures.value ∙ c.in_ok-list.ensures.tasks))
    (made_tasks-are c.new-draws.result.state c.args.tasks c.requires.some c.requires.few)

pub returns-clause-feasible : goal.returns-clause-feasible
returns-clause-feasible c =
    let set = c.in_ok-set.ensures ∙ (c.deref.ensures.value ∙ c.in_ok-list.ensures.tasks) in
    subst IsEdfFeasible (sym (ap₂ (λ tasks machine. plan_of tasks machine Edf) set c.in_ok-machine.ensures))
    (made_tasks-feasible c.new-draws.result.state c.args.tasks c.requires.some c.requires.few)
