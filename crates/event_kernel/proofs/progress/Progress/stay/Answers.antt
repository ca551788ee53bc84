use Rattle.std.proofs.Common.{◌≡◌, ℕ, ◌+◌, ◌*◌, arith, ap, ap₂, ◌∙◌, sym}
use Rattle.std.specs.Prelude.{Option}
use Rattle.sched_model.specs.States.{after_advance, StateView}
use Rattle.event_kernel.specs.Segment.{after_units, holder_at, IsFirst}
use Rattle.event_kernel.specs.Tickwork.{gives}
use Rattle.event_kernel.specs.Settings.{next_event}
use Rattle.event_kernel.proofs.QuietTicks.{is-first, can-enter-quiet, can-run-first}
use Rattle.event_kernel.proofs.QuietStep.{stays, event-on}
use Rattle.event_kernel.proofs.progress.Progress.stay.Given.{Over}
use Rattle.event_kernel.proofs.progress.Progress.stay.Goals as goal

pub overflow_mul-units : goal.overflow_mul-units
overflow_mul-units g c = omega (arith, (can-enter-quiet c.requires.at c.quiet_ticks-quiet.ensures).fits)

pub enter-requires : goal.enter-requires
enter-requires g c = can-enter-quiet c.requires.at c.quiet_ticks-quiet.ensures

pub serve_first-requires-clause-can : goal.serve_first-requires-clause-can
serve_first-requires-clause-can g c =
    can-run-first c.requires.at c.first_ready-first.result
    (is-first c.args.set.now.plan.now c.args.self.now.state _ c.first_ready-first.ensures.none c.first_ready-first.ensures.first) c.quiet_ticks-quiet.ensures

-- the quiet ticks as one step
module _ (g : Over) (c : goal.After-advance g) where
  abbrev st : StateView
  st = c.args.self.now.state

  abbrev first : Option ℕ
  first = c.first_ready-first.result

  abbrev units : ℕ
  units = c.quiet_ticks-quiet.result * c.args.force.speed

  is : IsFirst c.args.set.now.plan.now st first
  is = is-first c.args.set.now.plan.now st first c.first_ready-first.ensures.none c.first_ready-first.ensures.first

  moved : c.advance.new.self.state ≡ after_advance (gives st first units) (st.now + c.quiet_ticks-quiet.result)
  moved =
      c.advance.ensures.state ∙ ap₂ (λ (v : StateView) t. after_advance v (t + c.quiet_ticks-quiet.result))
      c.serve_first.ensures.state c.now-now.ensures

  traces : c.advance.new.self.trace ≡ after_units c.args.set.now.plan.now st c.args.force (holder_at st first) units c.args.self.now.trace
  traces =
      c.advance.ensures.trace ∙ (c.serve_first.ensures.trace ∙ (c.enter.ensures
      ∙ ap (λ h. after_units c.args.set.now.plan.now st c.args.force h units c.args.self.now.trace) c.holder_of-holder.ensures))

pub returns-clause-in_span : goal.returns-clause-in_span
returns-clause-in_span g c =
    stays c.requires.at (first g c) (is g c) c.quiet_ticks-quiet.ensures
    (omega (arith, c.if-quiet-eq0.false)) c.advance.new.self.state c.advance.new.self.trace (moved g c) (traces g c)

pub returns-clause-later : goal.returns-clause-later
returns-clause-later g c = omega (arith, ap (λ (v : StateView). v.now) (moved g c))

pub returns-clause-event : goal.returns-clause-event
returns-clause-event g c =
    c.requires.event
    ∙ (event-on c.args.set.now (st g c) (units g c) (c.args.self.now.state.now + c.quiet_ticks-quiet.result) (first g c)
    c.requires.current.of.rows (is g c) ∙ sym (ap (next_event c.args.set.now) (moved g c)))
