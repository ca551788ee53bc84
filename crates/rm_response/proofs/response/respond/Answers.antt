use Rattle.std.proofs.Common.{ℕ, ◌+◌, ◌^◌, ◌≤◌, List, length, ap, ap₂, ◌∙◌, sym, subst, arith}
use Rattle.std.specs.Prelude.{slice_index, slice_set, vec_len, vec_capacity, ◌≡◌}
use Rattle.dvs_base.specs.declared.kind.Scheduler.TheVariants.{Rm}
use Rattle.task_model.specs.declared.task.Task.{Task}
use Rattle.sched_model.specs.Plan.{Plan, plan_of, count, period}
use Rattle.sched_model.specs.Admission.{IsWithinLimits}
use Rattle.sched_model.proofs.Limits.{some_period}
use Rattle.sched_model.proofs.Orders.{length-in_order}
use Rattle.rm_response_laws.specs.Responses.{HasResponse, response}
use Rattle.rm_response.specs.declared.inputs.Load.{Load}
use Rattle.rm_response.specs.Loads.{work_of, IsAdded}
use Rattle.rm_response.proofs.OrderPlaces.{at-below}
use Rattle.rm_response.proofs.KnownResponses.{AreKnown, earlier, known-next, known-all}
use Rattle.rm_response.proofs.LoadsBefore.{first-before, first-low, first-more, own-work}
use Rattle.rm_response.proofs.response.respond.Goals as goal

pub response_of-response-requires : goal.response_of-response-requires
response_of-response-requires c =
    let p : Plan = plan_of c.args.tasks.now c.args.machine.now Rm in
    let lim : IsWithinLimits p = record { tasks = c.as_slice-task_limits.ensures.limits; machine = c.as_slice-machine_limits.ensures.limits } in
    let js = c.args.order.now in
    let k = c.loop-task.task-index in
    record {
      task = at-below (period p) (count p) js c.requires.order k c.loop-task-test.true;
      before = first-before p lim js c.requires.order k c.loop-task.earlier.loads.items c.loop-task.invariant.loads
          c.loop-task-test.true;
      nodes = c.loop-task.invariant.nodes;
      some = c.loop-task.invariant.known.some;
      unserved = c.loop-task.invariant.known.unserved k (omega arith) c.loop-task-test.true;
    }

pub work_of-requires-clause-few : goal.work_of-requires-clause-few
work_of-requires-clause-few c =
    let p : Plan = plan_of c.args.tasks.now c.args.machine.now Rm in
    let lim : IsWithinLimits p = record { tasks = c.as_slice-task_limits.ensures.limits; machine = c.as_slice-machine_limits.ensures.limits } in
    let before = first-before p lim c.args.order.now c.requires.order c.loop-task.task-index c.loop-task.earlier.loads.items
    c.loop-task.invariant.loads c.loop-task-test.true in
    let same : c.deref.result.now ≡ c.loop-task.earlier.loads.items = cc in
    omega (arith, ap (length {A = Load}) same, before.few)

pub returns-then-response-period-clause-work : goal.returns-then-response-period-clause-work
returns-then-response-period-clause-work c =
    let p : Plan = plan_of c.args.tasks.now c.args.machine.now Rm in
    let lim : IsWithinLimits p = record { tasks = c.as_slice-task_limits.ensures.limits; machine = c.as_slice-machine_limits.ensures.limits } in
    let js = c.args.order.now in
    let k = c.loop-task.task-index in
    let j = slice_index js k in
    let xs = c.loop-task.earlier.loads.items in
    let before = first-before p lim js c.requires.order k xs c.loop-task.invariant.loads c.loop-task-test.true in
    let some = some_period p lim j (at-below (period p) (count p) js c.requires.order k c.loop-task-test.true) in
    let same : c.deref.result.now ≡ xs = cc in
    let beside : c.work_of.result ≡ work_of xs (period p j) =
    c.work_of.ensures.value ∙ ap₂ work_of same (ap (λ (t : Task). t.period) c.task-period.ensures.task) in
    omega (arith, c.from.ensures, c.worst.ensures.value, beside, before.work (period p j), own-work p j xs before (period p j) some (omega arith))

pub task-period-requires : goal.task-period-requires
task-period-requires c =
    let p : Plan = plan_of c.args.tasks.now c.args.machine.now Rm in
    at-below (period p) (count p) c.args.order.now c.requires.order c.loop-task.task-index c.loop-task-test.true

pub returns-then-response-period-clause-late : goal.returns-then-response-period-clause-late
returns-then-response-period-clause-late c =
    let p : Plan = plan_of c.args.tasks.now c.args.machine.now Rm in
    let js = c.args.order.now in
    let k = c.loop-task.task-index in
    record {
      task = at-below (period p) (count p) js c.requires.order k c.loop-task-test.true;
      late = (let long = ap (λ (t : Task). t.period) c.task-period.ensures.task in
          omega (arith, c.if-response-period.true, c.response_of-response.ensures.response, long));
      first = earlier p js c.requires.order k c.loop-task.from c.loop-task.entries.items c.loop-task.invariant.known
          c.loop-task-test.true;
    }

pub loop-task-preserved : goal.loop-task-preserved
loop-task-preserved c =
    let p : Plan = plan_of c.args.tasks.now c.args.machine.now Rm in
    let js = c.args.order.now in
    let k = c.loop-task.task-index in
    let j = slice_index js k in
    let lim : IsWithinLimits p = record { tasks = c.as_slice-task_limits.ensures.limits; machine = c.as_slice-machine_limits.ensures.limits } in
    let x = c.load_of.result in
    let old = c.loop-task.earlier.loads.items in
    let new = c.add.new.self.loads.items in
    let entries = c.loop-task.entries.items in
    let found = c.response_of-response.ensures.response in
    let same : c.response_of-response.new.earlier.loads.items ≡ old = cc in
    let long = ap (λ (t : Task). t.period) c.task-period.ensures.task in
    let has : HasResponse p (slice_index js k) = omega (arith, c.if-response-period.false, found, long) in
    record {
      known = subst (λ (r : ℕ). AreKnown p js (k + 1) r (slice_set entries (slice_index js k) r)) (sym found)
          (known-next p js c.requires.order k c.loop-task.from entries c.loop-task.invariant.known c.loop-task-test.true has);
      loads = first-more p lim js c.requires.order k old c.loop-task.invariant.loads c.loop-task-test.true x c.load_of.ensures has new
          (subst (λ (xs : List Load). IsAdded (response p j) x xs new) same
          (subst (λ (r : ℕ). IsAdded r x c.response_of-response.new.earlier.loads.items new) found c.add.ensures.added));
      nodes = λ s full. c.add.ensures.nodes s (c.response_of-response.ensures.nodes s full);
      room =
          let room : vec_capacity c.response_of-response.new.earlier.loads ≡ vec_capacity c.loop-task.earlier.loads = cc in
          omega (arith, room, c.add.ensures.capacity, c.loop-task.invariant.room);
    }

pub returns-clause-known : goal.returns-clause-known
returns-clause-known c =
    let p : Plan = plan_of c.args.tasks.now c.args.machine.now Rm in
    known-all p c.args.order.now c.requires.order c.loop-task.task-index c.loop-task.from c.loop-task.entries.items
    c.loop-task.invariant.known c.loop-task-test.false

pub add-requires : goal.add-requires
add-requires c =
    let p : Plan = plan_of c.args.tasks.now c.args.machine.now Rm in
    let lim : IsWithinLimits p = record { tasks = c.as_slice-task_limits.ensures.limits; machine = c.as_slice-machine_limits.ensures.limits } in
    let js = c.args.order.now in
    let k = c.loop-task.task-index in
    let limit = ap (λ (t : Task). t.period) c.task-period.ensures.task in
    let has : HasResponse p (slice_index js k) = omega (arith, c.if-response-period.false, c.response_of-response.ensures.response, limit) in
    let all = ap (length {A = ℕ}) c.requires.order in
    let at = c.loop-task.invariant in
    let old = c.loop-task.earlier.loads in
    let new = c.response_of-response.new.earlier.loads in
    let items : new.items ≡ old.items = cc in
    let long : vec_len new ≡ vec_len old = cc in
    let room : vec_capacity new ≡ vec_capacity old = cc in
    record {
      room = omega (arith, long, room, old.ok, at.loads.long, at.room, all, length-in_order (period p) (count p), c.loop-task-test.true);
      low = subst (λ (xs : List Load). c.load_of.result.worst + work_of xs 1 ≤ 2 ^ 61) (sym items)
          (first-low p lim js c.requires.order k old.items at.loads c.loop-task-test.true c.load_of.result c.load_of.ensures has);
    }
