use Rattle.std.proofs.Common.{length, refl, sym, ap, ◌∙◌, subst}
use Rattle.dvs_base.specs.declared.kind.Scheduler.TheVariants.{Rm}
use Rattle.sched_model.specs.Plan.{Plan, plan_of, count, period}
use Rattle.sched_model.specs.Admission.{IsWithinLimits}
use Rattle.sched_model.proofs.Limits.{some_period}
use Rattle.grid_fraction.proofs.Tables.{length-list_below}
use Rattle.rm_response_laws.specs.Responses.{response}
use Rattle.rm_response_laws.proofs.ResponseMeaning.{always-meets, first-misses}
use Rattle.rm_response_laws.proofs.ResponseSearch.{before-response}
use Rattle.rm_response.specs.Denials.{AreLeast, IsMissedAtPeriod, IsShownMiss}
use Rattle.rm_response.proofs.KnownResponses.{are-least}
use Rattle.rm_response.proofs.response.rm_response.Goals as goal

pub returns-in-Ok-clause-one_each : goal.returns-in-Ok-clause-one_each
returns-in-Ok-clause-one_each c =
    let p : Plan = plan_of c.args.tasks.now c.args.machine.now Rm in
    ap length c.in-Ok.ensures.known.are ∙ length-list_below (count p) (response p)

pub returns-in-Ok-clause-deadlines : goal.returns-in-Ok-clause-deadlines
returns-in-Ok-clause-deadlines c =
    let p : Plan = plan_of c.args.tasks.now c.args.machine.now Rm in
    let lim : IsWithinLimits p = record { tasks = c.as_slice-task_limits.ensures.limits; machine = c.as_slice-machine_limits.ensures.limits } in
    always-meets p lim refl c.in-Ok.ensures.known.all

pub returns-in-Ok-clause-least : goal.returns-in-Ok-clause-least
returns-in-Ok-clause-least c =
    let p : Plan = plan_of c.args.tasks.now c.args.machine.now Rm in
    let lim : IsWithinLimits p = record { tasks = c.as_slice-task_limits.ensures.limits; machine = c.as_slice-machine_limits.ensures.limits } in
    let known = c.in-Ok.ensures.known in
    subst (AreLeast p) (sym known.are) (are-least p lim refl c.in_default.ensures.finds known.all)

pub returns-clause-missed : goal.returns-clause-missed
returns-clause-missed c =
    let p : Plan = plan_of c.args.tasks.now c.args.machine.now Rm in
    let lim : IsWithinLimits p = record { tasks = c.as_slice-task_limits.ensures.limits; machine = c.as_slice-machine_limits.ensures.limits } in
    let late = c.in-Err.ensures.late in
    subst (IsMissedAtPeriod p) (sym c.miss_fault.ensures)
    (first-misses p lim refl c.in-Err.late.task late.task c.in_default.ensures.finds late.first late.late)

pub returns-clause-shown : goal.returns-clause-shown
returns-clause-shown c =
    let p : Plan = plan_of c.args.tasks.now c.args.machine.now Rm in
    let lim : IsWithinLimits p = record { tasks = c.as_slice-task_limits.ensures.limits; machine = c.as_slice-machine_limits.ensures.limits } in
    let i = c.in-Err.late.task in
    let late = c.in-Err.ensures.late in
    subst IsShownMiss (sym c.miss_fault.ensures) (before-response p i (period p i) (some_period p lim i late.task) late.late)
