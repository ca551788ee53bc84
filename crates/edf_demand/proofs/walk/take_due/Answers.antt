use Rattle.std.proofs.Common.{◌≡◌, ◌≢◌, ℕ, ◌+◌, sym, ◌∙◌, ap, subst, arith}
use Rattle.dvs_base.specs.declared.kind.Scheduler.TheVariants.{Edf}
use Rattle.grid_fraction.specs.Numbers.{least_below}
use Rattle.sched_model.specs.Plan.{Plan, plan_of, count}
use Rattle.edf_demand.specs.Walk.{due_of}
use Rattle.edf_demand.proofs.LowestEntry.{within_limits}
use Rattle.edf_demand.proofs.Calendars.{Taken, taken-start, taken-on, falls, low-due, taken-work, taken-moved}
use Rattle.edf_demand.proofs.walk.take_due.Goals as goal

pub loop-next-init : goal.loop-next-init
loop-next-init c =
    let p : Plan = plan_of c.args.tasks.now c.args.machine.now Edf in
    record {
      queue = c.requires.queue;
      taken = taken-start p (due_of c.args.next.now.entries) c.args.now
          (c.requires.first ∙ ap (λ (n : ℕ). least_below n (due_of c.args.next.now.entries)) c.requires.queue.one_each);
    }

pub overflow_add-work : goal.overflow_add-work
overflow_add-work c =
    let p : Plan = plan_of c.args.tasks.now c.args.machine.now Edf in
    let lim = within_limits p c.as_slice-task_limits.ensures.limits c.as_slice-machine_limits.ensures.limits in
    let work = c.loop-next.invariant.taken.work_is in
    omega (arith, work, low-due p lim (due_of c.args.next.now.entries) c.args.now, c.from-work.ensures)

pub loop-next-preserved : goal.loop-next-preserved
loop-next-preserved c =
    let p : Plan = plan_of c.args.tasks.now c.args.machine.now Edf in
    let lim = within_limits p c.as_slice-task_limits.ensures.limits c.as_slice-machine_limits.ensures.limits in
    let l = c.loop-next in
    let next = due_of l.next.entries in
    let old = due_of c.args.next.now.entries in
    let after = due_of c.take_first.new.next.entries in
    let is : least_below (count p) next ≡ c.args.now =
    ap (λ (n : ℕ). least_below n next) (sym l.invariant.queue.one_each) ∙ sym c.earliest.ensures ∙ c.loop-next-test.true in
    let on = taken-on p lim old next after c.args.now l.work c.take_first.result l.invariant.taken
    c.take_first.ensures.taken is in
    record {
      queue = c.take_first.ensures.queue;
      taken = subst (λ (n : ℕ). Taken p old after c.args.now (l.work + n)) (sym c.from-work.ensures) on;
    }

pub loop-next-smaller : goal.loop-next-smaller
loop-next-smaller c =
    let p : Plan = plan_of c.args.tasks.now c.args.machine.now Edf in
    let lim = within_limits p c.as_slice-task_limits.ensures.limits c.as_slice-machine_limits.ensures.limits in
    let l = c.loop-next in
    let next = due_of l.next.entries in
    let is : least_below (count p) next ≡ c.args.now =
    ap (λ (n : ℕ). least_below n next) (sym l.invariant.queue.one_each) ∙ sym c.earliest.ensures ∙ c.loop-next-test.true in
    falls p lim (due_of c.args.next.now.entries) next (due_of c.take_first.new.next.entries) c.args.now l.work
    c.take_first.result l.invariant.taken c.take_first.ensures.taken is

pub returns : goal.returns
returns c =
    let p : Plan = plan_of c.args.tasks.now c.args.machine.now Edf in
    let lim = within_limits p c.as_slice-task_limits.ensures.limits c.as_slice-machine_limits.ensures.limits in
    let l = c.loop-next in
    let next = due_of l.next.entries in
    let old = due_of c.args.next.now.entries in
    let other : least_below (count p) next ≢ c.args.now =
    λ same. c.loop-next-test.false
    (c.earliest.ensures ∙ ap (λ (n : ℕ). least_below n next) l.invariant.queue.one_each ∙ same) in
    record {
      queue = l.invariant.queue;
      later = taken-moved p lim old next c.args.now l.work l.invariant.taken other;
      work = taken-work p lim old next c.args.now l.work l.invariant.taken other;
    }
