use Rattle.dvs_base.specs.declared.kind.Scheduler.TheVariants.{Rm}
use Rattle.sched_model.specs.Plan.{Plan, plan_of}
use Rattle.command_files.specs.Admissions.{rm_status}
use Rattle.statuses.proofs.MappedResults.{mapped}
use Rattle.command_files.proofs.RmAnswers.{rm-answers}
use Rattle.command_files.proofs.admission.admit_rm.Goals as goal

pub returns : goal.returns
returns c =
    let p : Plan = plan_of c.args.tasks.now c.args.machine.now Rm in
    let e = c.rm_admit.ensures in
    rw (mapped rm_status c.rm_admit.result c.map_err.result c.map_err.ensures.cases)
    (rm-answers p c.rm_admit.result e.plan e.test e.denial)
