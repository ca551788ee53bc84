use Rattle.std.proofs.Common.{[], arith, ◌∙◌, ap, sym, subst}
use Rattle.std.proofs.Math.ListN.{replicate}
use Rattle.std.proofs.lemmas.Result.{IfOk-at_ok}
use Rattle.sched_model.specs.States.{IsOfPlan, StateView}
use Rattle.agenda.specs.Stands.{Stands}
use Rattle.event_kernel.specs.Current.{latest_demands}
use Rattle.event_kernel.proofs.StatesOfPlan.{of-prior}
use Rattle.event_kernel.proofs.LatestDemands.{demands-opening}
use Rattle.event_kernel.proofs.progress.Progress.new.Goals as goal

pub returns-clause-current : goal.returns-clause-current
returns-clause-current g c =
    let set = c.args.set.now in
    let opened = sym c.in_ok-state.ensures in
    record {
      of = subst (IsOfPlan set.plan.now) opened (of-prior set.plan.now (λ i k. 0) [] (λ i k lt. omega arith));
      counters = subst (λ (s : StateView). g.G.Governor.stands c.args.governor set.plan.now s) opened c.requires;
      agenda = subst (λ (s : StateView). Stands set.plan.now s c.in_ok-agenda.agenda) opened c.in_ok-agenda.ensures;
      demands = IfOk-at_ok _ c.in_ok-needs.was c.vec.ensures.items_if_clones_equal (λ y e. e)
          ∙ (ap (λ n. replicate n 0) c.count.ensures.count ∙ (demands-opening set ∙ ap (λ (s : StateView). latest_demands set s) opened));
    }
