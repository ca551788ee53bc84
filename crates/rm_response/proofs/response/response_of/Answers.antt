use Rattle.std.proofs.Common.{◌≡◌, ◌∙◌, List, ap, subst, arith}
use Rattle.dvs_base.specs.declared.kind.Scheduler.TheVariants.{Rm}
use Rattle.task_model.specs.declared.task.Task.{Task}
use Rattle.sched_model.specs.Plan.{Plan, plan_of, period}
use Rattle.rm_response_laws.proofs.ResponseSearch.{response-none}
use Rattle.rm_response.specs.declared.inputs.Load.{Load}
use Rattle.rm_response.specs.declared.inputs.Supply.{Supply}
use Rattle.rm_response.specs.Earlier.{HasNodes}
use Rattle.rm_response.specs.Fits.{IsFirstFit, NoneBefore}
use Rattle.rm_response.proofs.LoadFits.{before-later}
use Rattle.rm_response.proofs.LoadsBefore.{full-same, first-is}
use Rattle.rm_response.proofs.response.response_of.Goals as goal
use Rattle.rm_response.proofs.response.response_of.Goals.{then-first-last-via-then-first-last, then-first-last-via-else-first-last+then-fits}

pub returns-then-from-last-clause-response : goal.returns-then-from-last-clause-response
returns-then-from-last-clause-response c =
    let p : Plan = plan_of c.args.tasks.now c.args.machine.now Rm in
    let long : c.task-last.result.period ≡ period p c.args.i = ap (λ (x : Task). x.period) c.task-last.ensures.task in
    omega (arith, long, response-none p c.args.i (λ u pos lt. c.requires.unserved u pos (omega (arith, lt, c.if-from-last.true, long))))

pub searched-requires-clause-loads : goal.searched-requires-clause-loads
searched-requires-clause-loads c = c.requires.before.loads c.full_supply-supply.result c.full_supply-supply.ensures

pub returns-clause-nodes : goal.returns-clause-nodes
returns-clause-nodes c = λ s full.
    let p : Plan = plan_of c.args.tasks.now c.args.machine.now Rm in
    let same = full-same p c.full_supply-supply.result s c.full_supply-supply.ensures full in
    subst (λ (r : Supply). HasNodes r c.searched.new.earlier) same c.searched.ensures.nodes

pub returns-then-first-last-clause-response : goal.returns-then-first-last-clause-response
returns-then-first-last-clause-response c =
    let p : Plan = plan_of c.args.tasks.now c.args.machine.now Rm in
    let s = c.full_supply-supply in
    let fit : IsFirstFit s.result c.as_slice-loads.result.now c.from-job.result c.args.from c.task-last.result.period c.raised-first.result =
    record {
      before = c.raised-first.ensures;
      fit = elim c.then-first-last.branch [
        | then-first-last-via-then-first-last w ↦ λ le. absurd (omega (arith, le, w.if-first-last.true))
        | then-first-last-via-else-first-last+then-fits w ↦ λ _. w.fits.ensures.yes w.if-fits.true
      ];
    } in
    let xs = c.args.earlier.now.loads.items in
    let beside : IsFirstFit s.result xs c.from-job.result c.args.from c.task-last.result.period c.raised-first.result =
    subst (λ (ys : List Load). IsFirstFit s.result ys c.from-job.result c.args.from c.task-last.result.period c.raised-first.result)
    c.as_slice-loads.ensures.value fit in
    first-is p c.args.i xs c.requires.before s.result s.ensures c.args.from c.from-job.result
    c.task-last.result.period c.raised-first.result (c.from-job.ensures ∙ c.worst.ensures.value)
    (ap (λ (x : Task). x.period) c.task-last.ensures.task) c.requires.some c.requires.unserved beside

pub returns-clause-response : goal.returns-clause-response
returns-clause-response c =
    let p : Plan = plan_of c.args.tasks.now c.args.machine.now Rm in
    let s = c.full_supply-supply in
    let xs = c.args.earlier.now.loads.items in
    let job = c.from-job.result in
    let last = c.task-last.result.period in
    let first = c.raised-first.result in
    let none : NoneBefore s.result xs job c.args.from last first =
    subst (λ (ys : List Load). NoneBefore s.result ys job c.args.from last first) c.as_slice-loads.ensures.value c.raised-first.ensures in
    let found = c.searched.ensures.first in
    let fit : IsFirstFit s.result xs job c.args.from last c.searched.result =
    record { before = before-later s.result xs job c.args.from last first c.searched.result none found.before; fit = found.fit } in
    first-is p c.args.i xs c.requires.before s.result s.ensures c.args.from job last c.searched.result
    (c.from-job.ensures ∙ c.worst.ensures.value) (ap (λ (x : Task). x.period) c.task-last.ensures.task) c.requires.some
    c.requires.unserved fit
