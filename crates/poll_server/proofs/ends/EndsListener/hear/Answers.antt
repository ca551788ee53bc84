use Rattle.std.proofs.Common.{ℕ, ap, ◌∙◌, sym, subst}
use Rattle.dvs_base.specs.declared.note.Note.{Note}
use Rattle.dvs_base.specs.declared.note.Note.TheVariants.{Done}
use Rattle.poll_server.specs.Walks.{Hears}
use Rattle.poll_server.proofs.ends.EndsListener.hear.Goals as goal

pub returns-then-task-self-clause-heard : goal.returns-then-task-self-clause-heard
returns-then-task-self-clause-heard c =
    let d = c.in-Done in
    let is = d.is ∙ ap (λ (task : ℕ). Done d.at task d.job d.used) c.if-task-self.true in
    subst (λ (n : Note). Hears c.args.self.now n c.keep.new.self) (sym is) (c.keep.ensures d.used)
