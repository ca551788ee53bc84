use Rattle.std.proofs.Common.{◌≡◌, ℕ, ◌*◌, List, true, slice_index, sym, ◌∙◌, ap, subst, arith}
use Rattle.dvs_base.specs.declared.kind.Scheduler.TheVariants.{Edf}
use Rattle.freq_table.specs.declared.machine.Pick.{Pick}
use Rattle.freq_table.specs.Tables.{lowest_pick}
use Rattle.sched_model.specs.Plan.{Plan, plan_of, top_speed}
use Rattle.edf_demand_laws.specs.ProcessorDemand.{IsConstrainedDemand}
use Rattle.edf_demand.proofs.LowestEntry.{constrained_of, within_limits, lowest-speed, overload, answer-met, answer-denied}
use Rattle.edf_demand_laws.proofs.DemandDecides.{is-constrained_demand}
use Rattle.edf_demand.specs.Answers.{LooksAtDemand}
use Rattle.edf_demand.proofs.lowest_speed.constrain.Goals as goal

pub returns-then-pick-clause-answer : goal.returns-then-pick-clause-answer
returns-then-pick-clause-answer c =
    let p : Plan = plan_of c.args.tasks.now c.args.machine.now Edf in
    let deadlines = c.args.deadlines.now in
    let con = constrained_of c.args.tasks.now c.args.machine.now deadlines c.requires c.in_default.ensures.finds in
    let demand = c.in-Ok.demand in
    let is : IsConstrainedDemand p (slice_index deadlines) demand =
    subst (λ (ds : List ℕ). IsConstrainedDemand p (slice_index ds) demand) c.ticks.ensures c.in-Ok.ensures in
    let e = c.lowest-pick.result.index in
    let pick : lowest_pick p.machine demand ≡ (record { index = e; met = true }) =
    sym c.lowest-pick.ensures ∙ (λ i. record { index = e; met = c.if-pick.true i }) in
    answer-met p (slice_index deadlines) c.in_default.ensures.finds
    (omega (arith, c.if-count-gt-MOST_JOBS.false, c.hyper_jobs-count.ensures)) demand
    (is-constrained_demand p (slice_index deadlines) con demand is) e pick

pub returns-clause-answer : goal.returns-clause-answer
returns-clause-answer c =
    let p : Plan = plan_of c.args.tasks.now c.args.machine.now Edf in
    let deadlines = c.args.deadlines.now in
    let con = constrained_of c.args.tasks.now c.args.machine.now deadlines c.requires c.in_default.ensures.finds in
    let demand = c.in-Ok.demand in
    let is : IsConstrainedDemand p (slice_index deadlines) demand =
    subst (λ (ds : List ℕ). IsConstrainedDemand p (slice_index ds) demand) c.ticks.ensures c.in-Ok.ensures in
    let top : c.from.result ≡ top_speed p = c.from.ensures ∙ c.top.ensures in
    let none = ap (λ (x : Pick). x.met) (sym c.lowest-pick.ensures) ∙ c.if-pick.false in
    λ unless. answer-denied p (slice_index deadlines) c.in_default.ensures.finds
    (omega (arith, c.if-count-gt-MOST_JOBS.false, c.hyper_jobs-count.ensures)) demand
    (is-constrained_demand p (slice_index deadlines) con demand is) (c.from.result * demand.den)
    (ap (λ (n : ℕ). n * demand.den) top) none

pub returns-then-pick-clause-speed : goal.returns-then-pick-clause-speed
returns-then-pick-clause-speed c =
    let p : Plan = plan_of c.args.tasks.now c.args.machine.now Edf in
    let lim = within_limits p c.as_slice-task_limits.ensures.limits c.as_slice-machine_limits.ensures.limits in
    let deadlines = c.args.deadlines.now in
    let con = constrained_of c.args.tasks.now c.args.machine.now deadlines c.requires c.in_default.ensures.finds in
    let demand = c.in-Ok.demand in
    let is : IsConstrainedDemand p (slice_index deadlines) demand =
    subst (λ (ds : List ℕ). IsConstrainedDemand p (slice_index ds) demand) c.ticks.ensures c.in-Ok.ensures in
    let e = c.lowest-pick.result.index in
    let pick : lowest_pick p.machine demand ≡ (record { index = e; met = true }) =
    sym c.lowest-pick.ensures ∙ (λ i. record { index = e; met = c.if-pick.true i }) in
    lowest-speed p lim (slice_index deadlines) con demand is e pick

pub returns-clause-denial : goal.returns-clause-denial
returns-clause-denial c =
    let p : Plan = plan_of c.args.tasks.now c.args.machine.now Edf in
    let lim = within_limits p c.as_slice-task_limits.ensures.limits c.as_slice-machine_limits.ensures.limits in
    let deadlines = c.args.deadlines.now in
    let con = constrained_of c.args.tasks.now c.args.machine.now deadlines c.requires c.in_default.ensures.finds in
    let demand = c.in-Ok.demand in
    let is : IsConstrainedDemand p (slice_index deadlines) demand =
    subst (λ (ds : List ℕ). IsConstrainedDemand p (slice_index ds) demand) c.ticks.ensures c.in-Ok.ensures in
    let tested : LooksAtDemand p = record {
      no_offset = c.in_default.ensures.finds;
      few = omega (arith, c.if-count-gt-MOST_JOBS.false, c.hyper_jobs-count.ensures);
    } in
    let top : c.from.result ≡ top_speed p = c.from.ensures ∙ c.top.ensures in
    let none = ap (λ (x : Pick). x.met) (sym c.lowest-pick.ensures) ∙ c.if-pick.false in
    overload p lim (slice_index deadlines) con demand is tested (c.from.result * demand.den)
    (ap (λ (n : ℕ). n * demand.den) top) none
