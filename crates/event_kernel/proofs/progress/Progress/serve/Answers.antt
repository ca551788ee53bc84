use Rattle.std.proofs.Common.{◌≡◌, ℕ, ◌+◌, ◌<◌, true, length, set, refl, ap, ◌∙◌, get_or-set_same, sym, subst, rules}
use Rattle.std.proofs.lemmas.List.{set-set}
use Rattle.sched_model.specs.declared.state.Row.{Row}
use Rattle.sched_model.specs.States.{no_row, row_at, after_run, after_finish, StateView}
use Rattle.agenda.specs.Stands.{Stands}
use Rattle.event_kernel.specs.Current.{latest_demands}
use Rattle.event_kernel.specs.Tickwork.{after_service}
use Rattle.event_kernel.proofs.LatestDemands.{demands-kept}
use Rattle.event_kernel.proofs.progress.Progress.serve.Goals as goal

served-ended : (s : StateView) (i units : ℕ) → i < length s.rows → after_finish (after_run s i units) i ≡ after_service s i units true
served-ended s i units lt =
    let row : Row = record (row_at s i) { used = (row_at s i).used + units } in
    let read : row_at (after_run s i units) i ≡ row = get_or-set_same s.rows i row no_row lt in
    ap (λ (r : Row). record s { rows = set (set s.rows i row) i (record r { done = true }) }) read
    ∙ ap (λ rows. record s { rows = rows }) (set-set s.rows i row (record row { done = true }))

pub returns-then-ends-clause-state : goal.returns-then-ends-clause-state
returns-then-ends-clause-state g c =
    c.finish.ensures
    ∙ (ap (λ (s : StateView). after_finish s c.args.task) c.run.ensures
    ∙ (served-ended c.args.self.now.state c.args.task c.args.units c.requires.can.task
    ∙ ap (λ b. after_service c.args.self.now.state c.args.task c.args.units b) (sym c.if-ends.true)))

pub complete-requires-clause-stand : goal.complete-requires-clause-stand
complete-requires-clause-stand g c =
    subst (λ (s : StateView). Stands c.args.set.now.plan.now s c.serve.new.self) (sym c.run.ensures) c.serve.ensures

pub returns-then-ends-clause-current : goal.returns-then-ends-clause-current
returns-then-ends-clause-current g c =
    let s = c.args.self.now.state in
    let row : Row = record (row_at s c.args.task) { used = (row_at s c.args.task).used + c.args.units; done = c.args.ends } in
    record {
      of = search rules;
      counters = search rules;
      agenda = search rules;
      demands = c.requires.current.demands ∙ (demands-kept c.args.set.now s c.args.task row c.requires.can.task refl
          ∙ ap (λ (v : StateView). latest_demands c.args.set.now v) (sym (returns-then-ends-clause-state g c)));
    }

pub returns-else-ends-clause-current : goal.returns-else-ends-clause-current
returns-else-ends-clause-current g c =
    let s = c.args.self.now.state in
    let row : Row = record (row_at s c.args.task) { used = (row_at s c.args.task).used + c.args.units } in
    record {
      of = search rules;
      counters = search rules;
      agenda = subst (λ (s : StateView). Stands c.args.set.now.plan.now s c.serve.new.self) (sym c.run.ensures) c.serve.ensures;
      demands = c.requires.current.demands ∙ (demands-kept c.args.set.now s c.args.task row c.requires.can.task refl
          ∙ ap (λ (v : StateView). latest_demands c.args.set.now v) (sym c.run.ensures));
    }
