use Rattle.std.proofs.Common.{◌+◌, ◌<◌, min, arith, refl, ap, ◌∙◌, inl, inr, nat_eq}
use Rattle.sched_model.specs.States.{after_advance}
use Rattle.event_kernel.specs.Segment.{after_units}
use Rattle.event_kernel.proofs.UnitLoop.{begin, can-enter, ready, turned, idle, finished}
use Rattle.event_kernel.proofs.progress.Progress.work.Goals as goal
use Rattle.event_kernel.proofs.progress.Progress.work.Goals.{else-loop-rest-test, then-loop-rest-test+in_default}

pub loop-rest-init : goal.loop-rest-init
loop-rest-init g c = record { so_far = begin c.requires.at; current = c.requires.current }

pub lacking-lacks-requires-clause-within : goal.lacking-lacks-requires-clause-within
lacking-lacks-requires-clause-within g c =
    (ready c.requires.at c.loop-rest.invariant.so_far c.in-Some.task _ c.in-Some.ensures.first refl).1

pub enter-requires : goal.enter-requires
enter-requires g c = can-enter c.requires.at c.loop-rest.invariant.so_far (omega (arith, c.min-share.ensures))

pub loop-rest-smaller : goal.loop-rest-smaller
loop-rest-smaller g c =
    let share_is = c.min-share.ensures ∙ ap (λ u. min c.loop-rest.rest u) c.lacking-lacks.ensures in
    let some : 0 < c.min-share.result =
    (ready c.requires.at c.loop-rest.invariant.so_far c.in-Some.task c.min-share.result c.in-Some.ensures.first share_is).2 c.loop-rest-test.true in
    omega (arith, c.loop-rest-test.true, some)

pub loop-rest-preserved : goal.loop-rest-preserved
loop-rest-preserved g c =
    let share = c.min-share.result in
    record {
      so_far = turned c.requires.at c.loop-rest.invariant.so_far c.in-Some.task share c.in-Some.ensures.first
          (c.min-share.ensures ∙ ap (λ u. min c.loop-rest.rest u) c.lacking-lacks.ensures)
          (nat_eq share c.lacking-lacks.result) _ c.serve.new.self.state c.serve.new.self.trace c.loop-rest-test.true
          (ap (λ u. nat_eq share u) c.lacking-lacks.ensures) refl c.serve.ensures.state
          (c.serve.ensures.trace ∙ (c.enter.ensures ∙ ap
          (λ h. after_units c.args.set.now.plan.now c.loop-rest.self.state c.args.force h share c.loop-rest.self.trace) c.holder_of-holder.ensures));
      current = c.serve.ensures.current;
    }

pub idle-requires : goal.idle-requires
idle-requires g c = can-enter c.requires.at c.loop-rest.invariant.so_far (omega arith)

pub returns-clause-worked : goal.returns-clause-worked
returns-clause-worked g c =
    let so_far = c.loop-rest.invariant.so_far in
    finished c.requires.at so_far (elim c.loop-rest-test.branch [
      | else-loop-rest-test w ↦ inl (omega arith)
      | then-loop-rest-test+in_default w ↦ inr w.in_default.ensures.none
    ]) c.advance.new.self.trace c.advance.new.self.state (idle c.requires.at so_far _ (c.advance.ensures.trace ∙ c.idle.ensures))
    (c.advance.ensures.state ∙ ap (λ n. after_advance c.loop-rest.self.state (n + 1)) c.now-now.ensures)

pub returns-clause-current : goal.returns-clause-current
returns-clause-current g c =
    let i = c.loop-rest.invariant.current in
    c.advance.ensures.current c.args.set.now (record { of = i.of; counters = i.counters; agenda = i.agenda; demands = i.demands })
