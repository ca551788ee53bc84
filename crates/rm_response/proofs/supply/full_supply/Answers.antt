use Rattle.std.proofs.Common.{◌≡◌, ◌*◌, ◌≤◌, ℕ, ap₂, sym, ◌∙◌, arith}
use Rattle.std.proofs.lemmas.Nat.{mul-le}
use Rattle.freq_table.specs.Tables.{last_entry}
use Rattle.dvs_base.specs.declared.kind.Scheduler.TheVariants.{Rm}
use Rattle.sched_model.specs.Plan.{Plan, plan_of}
use Rattle.sched_model.specs.Admission.{IsWithinLimits}
use Rattle.sched_model.proofs.Limits.{some_hyper}
use Rattle.rm_response.proofs.supply.full_supply.Goals as goal

pub invariant_of-result : goal.invariant_of-result
invariant_of-result c =
    let p : Plan = plan_of c.args.tasks.now c.args.machine.now Rm in
    let lim : IsWithinLimits p = record { tasks = c.as_slice-task_limits.ensures.limits; machine = c.as_slice-machine_limits.ensures.limits } in
    let point = lim.machine.each (last_entry c.args.machine.now) (let n = lim.machine.some in omega arith) in
    let long = some_hyper p lim in
    let some : 1 ≤ c.from.result = (let one = point.some_speed in omega (arith, one, c.top-2.ensures, c.from.ensures)) in
    let hyper : 1 ≤ c.from-2.result = omega (arith, long, c.hyper-2.ensures.hyper, c.from-2.ensures) in
    let all : c.from.result * c.from-2.result ≡ c.top.result * c.hyper.result =
    ap₂ (λ (m n : ℕ). m * n) (c.from.ensures ∙ (c.top-2.ensures ∙ sym c.top.ensures))
    (c.from-2.ensures ∙ (c.hyper-2.ensures.hyper ∙ sym c.hyper.ensures.hyper)) in
    record {
      some_hyper = omega (arith, long, c.hyper.ensures.hyper);
      low_hyper = c.hyper.ensures.low;
      low_speed = (let low = point.low_speed in omega (arith, low, c.top.ensures));
      some_units = omega (arith, mul-le 1 1 c.from.result c.from-2.result some hyper);
      within = omega (arith, all);
    }
