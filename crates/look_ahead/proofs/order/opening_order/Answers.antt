use Rattle.std.proofs.Common.{◌≡◌, ◌∙◌, ℕ, List, ap, subst, IsPermutation}
use Rattle.std.specs.Prelude.{map}
use Rattle.sched_model.specs.Plan.{count, offset}
use Rattle.sched_model.specs.States.{opening}
use Rattle.sched_model.proofs.SortedKeys.{sorted_keys}
use Rattle.look_ahead_laws.specs.Ahead.{edf_order}
use Rattle.look_ahead.proofs.AheadCounters.{order-opening}
use Rattle.look_ahead.proofs.order.opening_order.Goals as goal

pub returns : goal.returns
returns c =
    let plan = c.args.plan.now in
    let sorted = c.sort_unstable.new.self.items in
    let permuted = c.sort_unstable.ensures.permutation in
    let moved = subst (λ (ks : List (ℕ × ℕ)). IsPermutation ks sorted) c.in_ok-offsets.ensures permuted in
    let tasks : map (λ k. k.1) c.deref.result.now ≡ edf_order plan (opening plan) =
    ap (map (λ k. k.1)) c.deref.ensures.value
    ∙ (sorted_keys (offset plan) (count plan) sorted moved c.sort_unstable.ensures.sorted ∙ order-opening plan) in
    rw (← tasks) c.tasks_of.ensures
