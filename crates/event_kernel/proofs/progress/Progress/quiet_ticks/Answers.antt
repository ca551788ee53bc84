use Rattle.std.proofs.Common.{ℕ, ◌-◌, arith, ap, sym, subst}
use Rattle.std.specs.Prelude.{Option}
use Rattle.sched_model.specs.States.{StateView}
use Rattle.event_kernel.specs.Segment.{IsFirst}
use Rattle.event_kernel.specs.Settings.{AreQuiet}
use Rattle.event_kernel.proofs.UnitLoop.{some-speed}
use Rattle.event_kernel.proofs.QuietTicks.{first-event, needs, quiet-held, quiet-idle}
use Rattle.event_kernel.proofs.progress.Progress.quiet_ticks.Goals as goal

pub overflow_sub-most : goal.overflow_sub-most
overflow_sub-most g c =
    omega (arith, first-event c.requires.at, c.requires.event)

pub overflow_sub-most-2 : goal.overflow_sub-most-2
overflow_sub-most-2 g c =
    omega (arith, first-event c.requires.at, ap (λ (v : StateView). v.now) c.state.view_is, c.requires.event)

pub lacking-requires-clause-rows : goal.lacking-requires-clause-rows
lacking-requires-clause-rows g c = c.requires.current.of.rows

pub lacking-requires-clause-within : goal.lacking-requires-clause-within
lacking-requires-clause-within g c =
    let first = subst (IsFirst c.args.set.now.plan.now c.args.self.now.state) c.in-Some.is c.requires.first in
    omega (arith, needs c.requires.at c.in-Some.task first)

pub overflow_sub-lacking : goal.overflow_sub-lacking
overflow_sub-lacking g c =
    let first = subst (IsFirst c.args.set.now.plan.now c.args.self.now.state) c.in-Some.is c.requires.first in
    omega (arith, needs c.requires.at c.in-Some.task first, c.lacking.ensures)

pub nonzero_div-lacking : goal.nonzero_div-lacking
nonzero_div-lacking g c = omega (arith, some-speed c.requires.at)

pub returns-in-Some : goal.returns-in-Some
returns-in-Some g c =
    let first = subst (IsFirst c.args.set.now.plan.now c.args.self.now.state) c.in-Some.is c.requires.first in
    subst (λ (r : Option ℕ). AreQuiet c.args.set.now c.args.force c.args.self.now.state r c.min.result) (sym c.in-Some.is)
    (quiet-held c.requires.at c.in-Some.task first c.min.result c.lacking.result c.lacking.ensures
    (omega (arith, ap (λ (v : StateView). v.now) c.state.view_is, c.requires.event, c.min.ensures)))

pub returns-in-None : goal.returns-in-None
returns-in-None g c =
    let n = c.args.event - 1 - c.state.inside.now in
    subst (λ (r : Option ℕ). AreQuiet c.args.set.now c.args.force c.args.self.now.state r n) (sym c.in-None.is)
    (quiet-idle c.requires.at n
    (omega (arith, ap (λ (v : StateView). v.now) c.state.view_is, c.requires.event)))
