use Rattle.std.proofs.Common.{◌≡◌, None, rules, sym, ap, subst, ◌∙◌}
use Rattle.std.proofs.Math.ListN.{replicate}
use Rattle.std.proofs.lemmas.Result.{IfOk-at_ok}
use Rattle.grid_fraction.proofs.Tables.{same-table}
use Rattle.deadline_list.specs.DeadlineFile.{none_given, AreGiven}
use Rattle.deadline_list.proofs.GivenDeadlines.{none-are}
use Rattle.deadline_list.proofs.read.none_given.Goals as goal

-- one None for each task
all : (c : goal.In_ok-given) → c.in_ok-given.given.items ≡ none_given c.args.tasks.now
all c =
    IfOk-at_ok _ c.in_ok-given.was c.vec.ensures.items_if_clones_equal (λ y e. search rules)
    ∙ ap (λ n. replicate n None) c.count.ensures.count
    ∙ sym (same-table _ None)

pub returns-clause-none : goal.returns-clause-none
returns-clause-none c = all c

pub returns-clause-given : goal.returns-clause-given
returns-clause-given c = subst (AreGiven c.args.tasks.now) (sym (all c)) (none-are c.args.tasks.now)
