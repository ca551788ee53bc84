use Rattle.std.proofs.Common.{◌≡◌, ℕ, ◌+◌, ◌<◌, length, get_or, true, false, sym, ◌∙◌, ap₂, arith, nat_eq}
use Rattle.std.proofs.lemmas.Bool.{and_right}
use Rattle.sched_model.specs.declared.state.Row.{Row}
use Rattle.sched_model.specs.Plan.{period}
use Rattle.sched_model.proofs.States.{row_read}
use Rattle.look_ahead_laws.specs.Ahead.{deadline_at}
use Rattle.look_ahead.specs.Counters.{stands_before_due}
use Rattle.look_ahead.proofs.AheadCounters.{order-released}
use Rattle.look_ahead.proofs.MovedTask.{passing_end, passing_moves, passing_stays, stays_other}
use Rattle.look_ahead.proofs.WalkLoop.{tasks_long}
use Rattle.look_ahead.proofs.order.move_to_place.Goals as goal
use Rattle.look_ahead.proofs.order.move_to_place.Goals.{then-order-k+then-stands_before_due, else-order-k, else-order-k-via-then-order-k+else-stands_before_due, else-order-k-via-else-order-k}

pub overflow_sub-k-end : goal.overflow_sub-k-end
overflow_sub-k-end c =
    let long = tasks_long c.args.plan.now c.args.view.now c.args.order.now c.requires.order in
    omega (arith, long, c.requires.can.below)

pub loop-k-preserved : goal.loop-k-preserved
loop-k-preserved c =
    let i = c.args.task in
    let test = stands_before_due (deadline_at c.args.view.now) i (c.index.result.now.deadline + c.period.result) in
    let old = c.args.order.now in
    let order = c.loop-k.order in
    let k = c.loop-k.k in
    let here = get_or order k 0 in
    let next = get_or order (k + 1) 0 in
    let lt : k + 1 < length order = omega arith in
    let was = c.loop-k.invariant in
    elim c.if-order-k.branch [
      | then-order-k+then-stands_before_due w ↦
          let moves : test next ≡ true = sym w.stands_before_due.ensures ∙ w.if-stands_before_due.true in
          rw w.order-is (passing_moves test i old order k lt was w.if-order-k.true moves)
      | else-order-k w ↦
          elim w.else-order-k.branch [
            | else-order-k-via-then-order-k+else-stands_before_due w' ↦
                let first : test next ≡ false = sym w'.stands_before_due.ensures ∙ w'.if-stands_before_due.false in
                rw w.order-is (passing_stays test i old order k lt was (and_right (nat_eq here i) (test next) first))
            | else-order-k-via-else-order-k w' ↦
                let other = stays_other here i (test next) w'.if-order-k.false in
                rw w.order-is (passing_stays test i old order k lt was other)
          ]
    ]

pub returns : goal.returns
returns c =
    let plan = c.args.plan.now in
    let s = c.args.view.now in
    let i = c.args.task in
    let due = c.index.result.now.deadline + c.period.result in
    let row = row_read s _ i c.index.result.now c.view.view_is c.requires.can.task c.index.ensures in
    let later : due ≡ deadline_at s i + period plan i =
    ap₂ (λ (r : Row) (p : ℕ). r.deadline + p) row c.period.ensures.period in
    let last : c.loop-k.k + 1 ≡ length c.loop-k.order =
    omega (arith, tasks_long plan s c.args.order.now c.requires.order, c.requires.can.below) in
    let test = stands_before_due (deadline_at s) i due in
    passing_end test i c.args.order.now c.loop-k.order c.loop-k.k last c.loop-k.invariant
    ∙ order-released plan s i c.requires.can due c.args.order.now later c.requires.order
