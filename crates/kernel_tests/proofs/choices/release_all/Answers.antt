use Rattle.std.proofs.Common.{◌≡◌, ◌+◌, ◌<◌, true, false, arith, sym, subst, ◌∙◌}
use Rattle.sched_model.specs.Plan.{count, offset}
use Rattle.sched_model.specs.States.{StateView, IsOfPlan}
use Rattle.governor.specs.Steps.{IsAtDecision}
use Rattle.kernel_tests.proofs.FirstReleases.{HasFirstReleased, none-released, next-can_release, next-released, next-passed, marked-of, marked-decision, unmarked-decision}
use Rattle.kernel_tests.proofs.choices.release_all.Goals as goal
use Rattle.kernel_tests.proofs.choices.release_all.Goals.{then-offset-eq0, else-offset-eq0}

pub loop-task-init : goal.loop-task-init
loop-task-init g c = record { released = none-released c.args.plan.now c.args.state.now c.requires.state; counters = c.requires.counters }

pub released-requires-clause-of : goal.released-requires-clause-of
released-requires-clause-of g c = c.loop-task.invariant.released.of

pub released-requires-clause-can : goal.released-requires-clause-can
released-requires-clause-can g c =
    let lt : c.loop-task.task < count c.args.plan.now = omega (arith, c.loop-task-test.true, c.count-task-end.ensures.count) in
    let first : offset c.args.plan.now c.loop-task.task ≡ 0 = omega (arith, c.offset.ensures.offset, c.if-offset-eq0.true) in
    next-can_release c.args.plan.now c.scheduler-admitted.ensures.admitted c.loop-task.task c.loop-task.any c.loop-task.state
    c.loop-task.invariant.released lt first

pub release-requires : goal.release-requires
release-requires g c =
    let lt : c.loop-task.task < count c.args.plan.now = omega (arith, c.loop-task-test.true, c.count-task-end.ensures.count) in
    let first : offset c.args.plan.now c.loop-task.task ≡ 0 = omega (arith, c.offset.ensures.offset, c.if-offset-eq0.true) in
    next-can_release c.args.plan.now c.scheduler-admitted.ensures.admitted c.loop-task.task c.loop-task.any c.loop-task.state
    c.loop-task.invariant.released lt first

pub loop-task-preserved : goal.loop-task-preserved
loop-task-preserved g c =
    let p = c.args.plan.now in
    let i = c.loop-task.task in
    let lt : i < count p = omega (arith, c.loop-task-test.true, c.count-task-end.ensures.count) in
    elim c.if-offset-eq0.branch [
      | then-offset-eq0 w ↦ (let first : offset p i ≡ 0 = omega (arith, c.offset.ensures.offset, w.if-offset-eq0.true) in
          rw (w.any-is, w.state-is, w.governor-is) (record {
            released = subst (HasFirstReleased p (i + 1) true) (sym w.release.ensures)
                (next-released p c.scheduler-admitted.ensures.admitted i c.loop-task.any c.loop-task.state c.loop-task.invariant.released lt first);
            counters = subst (λ (s : StateView). g.G.Governor.stands w.released.new.self p s) (sym w.release.ensures) w.released.ensures;
          }))
      | else-offset-eq0 w ↦ (let late : offset p i ≡ 0 → ⊥ = (λ e. w.if-offset-eq0.false (c.offset.ensures.offset ∙ e)) in
          rw (w.any-is, w.state-is, w.governor-is) (record {
            released = next-passed p c.scheduler-admitted.ensures.admitted i c.loop-task.any c.loop-task.state c.loop-task.invariant.released lt late;
            counters = c.loop-task.invariant.counters;
          }))
    ]

pub settled-requires-clause-of : goal.settled-requires-clause-of
settled-requires-clause-of g c = c.loop-task.invariant.released.of

pub returns-then-any-clause-of : goal.returns-then-any-clause-of
returns-then-any-clause-of g c =
    let p = c.args.plan.now in
    let whole : c.loop-task.task ≡ count p = omega (arith, c.count-task-end.ensures.count) in
    let some : HasFirstReleased p c.loop-task.task true c.loop-task.state =
    subst (λ b. HasFirstReleased p c.loop-task.task b c.loop-task.state) c.if-any.true c.loop-task.invariant.released in
    subst (IsOfPlan p) (sym c.mark.ensures) (marked-of p c.scheduler-admitted.ensures.admitted c.loop-task.task c.loop-task.state whole some)

pub returns-else-any-clause-of : goal.returns-else-any-clause-of
returns-else-any-clause-of g c = c.loop-task.invariant.released.of

pub returns-then-any-clause-decision : goal.returns-then-any-clause-decision
returns-then-any-clause-decision g c =
    let p = c.args.plan.now in
    let whole : c.loop-task.task ≡ count p = omega (arith, c.count-task-end.ensures.count) in
    let some : HasFirstReleased p c.loop-task.task true c.loop-task.state =
    subst (λ b. HasFirstReleased p c.loop-task.task b c.loop-task.state) c.if-any.true c.loop-task.invariant.released in
    subst (IsAtDecision p) (sym c.mark.ensures) (marked-decision p c.scheduler-admitted.ensures.admitted c.loop-task.task c.loop-task.state whole some)

pub returns-else-any-clause-decision : goal.returns-else-any-clause-decision
returns-else-any-clause-decision g c =
    let p = c.args.plan.now in
    let whole : c.loop-task.task ≡ count p = omega (arith, c.count-task-end.ensures.count) in
    let none : HasFirstReleased p c.loop-task.task false c.loop-task.state =
    subst (λ b. HasFirstReleased p c.loop-task.task b c.loop-task.state) c.if-any.false c.loop-task.invariant.released in
    unmarked-decision p c.scheduler-admitted.ensures.admitted c.loop-task.task c.loop-task.state whole none
