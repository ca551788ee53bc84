use Rattle.std.proofs.Common.{◌≡◌, ℕ, ◌+◌, ◌*◌, ◌<◌, ◌≤◌, ◌^◌, slice_index, sym, ◌∙◌, ap, subst, arith}
use Rattle.dvs_base.specs.declared.limits.TheConstants.{MOST_JOBS}
use Rattle.std.proofs.Math.Nat.{mul-le-mul_left, mul-le-mul_right}
use Rattle.dvs_base.specs.declared.kind.Scheduler.TheVariants.{Edf}
use Rattle.grid_fraction.specs.declared.Frac.{Frac}
use Rattle.grid_fraction.specs.Numbers.{least_below}
use Rattle.sched_model.specs.Plan.{Plan, plan_of, count, hyper}
use Rattle.edf_demand_laws.specs.ProcessorDemand.{processor_demand}
use Rattle.edf_demand.specs.Walk.{due_of}
use Rattle.edf_demand.proofs.LowestEntry.{within_limits}
use Rattle.edf_demand.proofs.DemandWalk.{IsWalkedTo, walk-start, walk-takes, walk-keeps, walk-ends, work-next, low-demand, now-later, goes-on}
use Rattle.edf_demand.proofs.walk.constrained_demand.Goals as goal
use Rattle.edf_demand.proofs.walk.constrained_demand.Goals.{then-greater, else-greater}

pub loop-now-init : goal.loop-now-init
loop-now-init c =
    let p : Plan = plan_of c.args.tasks.now c.args.machine.now Edf in
    let lim = within_limits p c.as_slice-task_limits.ensures.limits c.as_slice-machine_limits.ensures.limits in
    let relative = slice_index c.args.deadlines.now in
    let made = c.in_ok-next.ensures in
    let next = due_of c.in_ok-next.next.entries in
    let start = walk-start p lim relative c.requires.deadlines next made.deadlines in
    let now : c.earliest-now.result ≡ least_below (count p) next =
    c.earliest-now.ensures ∙ ap (λ (n : ℕ). least_below n next) made.queue.one_each in
    record {
      queue = made.queue;
      walking = subst (λ (n : ℕ). IsWalkedTo p relative next n 0 (record { num = 0; den = 1 })) (sym now) start;
    }

pub overflow_add-work : goal.overflow_add-work
overflow_add-work c =
    let p : Plan = plan_of c.args.tasks.now c.args.machine.now Edf in
    let lim = within_limits p c.as_slice-task_limits.ensures.limits c.as_slice-machine_limits.ensures.limits in
    let con = c.requires.deadlines in
    let relative = slice_index c.args.deadlines.now in
    let l = c.loop-now in
    let within : l.now ≤ hyper p = omega (arith, c.loop-now-test.true, c.hyper.ensures.hyper) in
    let work = work-next p lim relative con (due_of l.next.entries) l.now l.work l.busiest l.invariant.walking in
    omega (arith, work, low-demand p lim relative con c.requires.few l.now within, c.take_due-work.ensures.work)

pub greater-requires-clause-left_den : goal.greater-requires-clause-left_den
greater-requires-clause-left_den c =
    let p : Plan = plan_of c.args.tasks.now c.args.machine.now Edf in
    let lim = within_limits p c.as_slice-task_limits.ensures.limits c.as_slice-machine_limits.ensures.limits in
    let relative = slice_index c.args.deadlines.now in
    let l = c.loop-now in
    let later =
    now-later p lim relative c.requires.deadlines (due_of l.next.entries) l.now l.work l.busiest l.invariant.walking in
    omega (arith, later, c.from.ensures)

pub greater-requires-clause-left_fits : goal.greater-requires-clause-left_fits
greater-requires-clause-left_fits c =
    let p : Plan = plan_of c.args.tasks.now c.args.machine.now Edf in
    let lim = within_limits p c.as_slice-task_limits.ensures.limits c.as_slice-machine_limits.ensures.limits in
    let con = c.requires.deadlines in
    let relative = slice_index c.args.deadlines.now in
    let l = c.loop-now in
    let within : l.now ≤ hyper p = omega (arith, c.loop-now-test.true, c.hyper.ensures.hyper) in
    let work = work-next p lim relative con (due_of l.next.entries) l.now l.work l.busiest l.invariant.walking in
    let low = low-demand p lim relative con c.requires.few l.now within in
    let most : ℕ = MOST_JOBS * 2 ^ 61 in
    let sum : l.work + c.take_due-work.result ≤ most = omega (arith, work, low, c.take_due-work.ensures.work) in
    omega (arith, mul-le-mul_right l.busiest.den sum, mul-le-mul_left most l.invariant.walking.busiest.low)

pub loop-now-smaller : goal.loop-now-smaller
loop-now-smaller c =
    let p : Plan = plan_of c.args.tasks.now c.args.machine.now Edf in
    let lim = within_limits p c.as_slice-task_limits.ensures.limits c.as_slice-machine_limits.ensures.limits in
    let relative = slice_index c.args.deadlines.now in
    let l = c.loop-now in
    let taken = c.take_due-work in
    let after = due_of taken.new.next.entries in
    let then_is : c.earliest-now-in-loop-now.result ≡ least_below (count p) after =
    c.earliest-now-in-loop-now.ensures ∙ ap (λ (n : ℕ). least_below n after) taken.ensures.queue.one_each in
    let later : l.now < c.earliest-now-in-loop-now.result =
    goes-on p lim relative c.requires.deadlines (due_of l.next.entries) l.now l.work l.busiest l.invariant.walking
    after c.earliest-now-in-loop-now.result taken.ensures.later then_is in
    omega (arith, later, c.loop-now-test.true, c.hyper.ensures.hyper)

pub loop-now-preserved : goal.loop-now-preserved
loop-now-preserved c =
    let p : Plan = plan_of c.args.tasks.now c.args.machine.now Edf in
    let lim = within_limits p c.as_slice-task_limits.ensures.limits c.as_slice-machine_limits.ensures.limits in
    let con = c.requires.deadlines in
    let relative = slice_index c.args.deadlines.now in
    let l = c.loop-now in
    let taken = c.take_due-work in
    let after = due_of taken.new.next.entries in
    let then_now = c.earliest-now-in-loop-now.result in
    let then_is : then_now ≡ least_below (count p) after =
    c.earliest-now-in-loop-now.ensures ∙ ap (λ (n : ℕ). least_below n after) taken.ensures.queue.one_each in
    let sum = l.work + taken.result in
    let within : l.now ≤ hyper p = omega (arith, c.loop-now-test.true, c.hyper.ensures.hyper) in
    let next = work-next p lim relative con (due_of l.next.entries) l.now l.work l.busiest l.invariant.walking in
    let work : sum ≡ processor_demand p relative l.now = ap (λ (n : ℕ). l.work + n) taken.ensures.work ∙ next in
    let walking : IsWalkedTo p relative after then_now sum c.if-greater.busiest = (elim c.if-greater.branch [
      | then-greater w ↦
          subst (λ (b : Frac). IsWalkedTo p relative after then_now sum b) (sym w.busiest-is)
          (walk-takes p lim relative con (due_of l.next.entries) l.now l.work l.busiest l.invariant.walking
          c.requires.few within after then_now sum c.from.result taken.ensures.later then_is work c.from.ensures
          (sym c.greater.ensures ∙ w.if-greater.true))
      | else-greater w ↦
          subst (λ (b : Frac). IsWalkedTo p relative after then_now sum b) (sym w.busiest-is)
          (walk-keeps p lim relative con (due_of l.next.entries) l.now l.work l.busiest l.invariant.walking
          c.requires.few within after then_now sum c.from.result taken.ensures.later then_is work c.from.ensures
          (sym c.greater.ensures ∙ w.if-greater.false))
    ]) in
    record { queue = taken.ensures.queue; walking = walking }

pub returns : goal.returns
returns c =
    let p : Plan = plan_of c.args.tasks.now c.args.machine.now Edf in
    let lim = within_limits p c.as_slice-task_limits.ensures.limits c.as_slice-machine_limits.ensures.limits in
    let relative = slice_index c.args.deadlines.now in
    let l = c.loop-now in
    walk-ends p lim relative c.requires.deadlines (due_of l.next.entries) l.now l.work l.busiest l.invariant.walking
    (omega (arith, c.loop-now-test.false, c.hyper.ensures.hyper))
