use Rattle.std.proofs.Common.{ap, sym, subst, ◌∙◌}
use Rattle.sched_model.specs.States.{IsOfPlan, StateView}
use Rattle.agenda.proofs.StateQueues.{stands-rows}
use Rattle.event_kernel.specs.Current.{latest_demands}
use Rattle.event_kernel.proofs.progress.Progress.advance.Goals as goal

pub returns-clause-current : goal.returns-clause-current
returns-clause-current g c = λ set before.
    let run = c.args.self.now in
    let p = set.plan.now in
    record {
      of = subst (IsOfPlan p) (sym c.advance.ensures)
          (record { rows = before.of.rows; base = before.of.base; worst = before.of.worst; used = before.of.used });
      counters = subst (λ (s : StateView). g.G.Governor.stands run.governor p s) (sym c.advance.ensures)
          (g.met.G.Governor.waits run.governor p run.state c.args.to c.requires before.counters);
      agenda = stands-rows p run.state _ run.agenda (ap (λ (v : StateView). v.rows) c.advance.ensures) before.agenda;
      demands = before.demands ∙ ap (λ (v : StateView). latest_demands set v) (sym c.advance.ensures);
    }
