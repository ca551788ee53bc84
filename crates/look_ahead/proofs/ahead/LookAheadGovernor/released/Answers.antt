use Rattle.std.proofs.Common.{◌≡◌, ◌++◌, ◌∙◌, List, ℕ, length, take, drop, ap, sym, subst}
use Rattle.std.specs.Prelude.{slice_set}
use Rattle.sched_model.specs.declared.state.Row.{Row}
use Rattle.sched_model.specs.States.{after_release}
use Rattle.sched_model.proofs.States.{row_read}
use Rattle.look_ahead.specs.Counters.{Keeps}
use Rattle.look_ahead.proofs.AheadCounters.{keeps-released}
use Rattle.look_ahead.proofs.MovedTask.{written_back}
use Rattle.look_ahead.proofs.ahead.LookAheadGovernor.released.Goals as goal

pub returns : goal.returns
returns c =
    let plan = c.args.plan.now in
    let s = c.args.view.now in
    let left = c.args.self.now.left.items in
    let order = c.args.self.now.order in
    let rates = c.args.self.now.rates.items in
    let moved = c.move_to_place.new.order in
    let i = c.args.task in
    let worst = c.index.result.now.worst in
    let row = row_read s _ i c.index.result.now c.view.view_is c.requires.can.task c.index.ensures in
    let long : length moved ≡ length order.items =
    c.move_to_place.auto.order ∙ ap (λ (xs : List ℕ). length xs) c.deref_mut.ensures.value in
    let whole : take order.len (moved ++ drop (length moved) order.items) ≡ moved =
    written_back order.len order.items moved order.ok.0 long in
    subst (λ (xs : List ℕ). Keeps (slice_set left i worst) xs rates plan (after_release plan s i)) (sym whole)
    (keeps-released plan s left order.items rates c.requires.counters i worst moved
    (ap (λ (r : Row). r.worst) row) c.move_to_place.ensures)
