use Rattle.std.proofs.Common.{◌≡◌, ◌++◌, ◌∷◌, [], refl, sym, subst, ap, ◌∙◌, not, is_some}
use Rattle.task_model.specs.DemandRows.{demand_row, named_units}
use Rattle.demand_list.specs.Demands.{rows_of, with_row}
use Rattle.demand_list.specs.Kept.{AllPrecede, AreAscending, kept_rows}
use Rattle.demand_list.proofs.Ascending.{AreAscending-pushed, rows_of-pushed, named-last}
use Rattle.demand_list.proofs.kept.KeptRows.add.Goals as goal

before : (c : goal.In_ok-push-in-InOrder) → AllPrecede (demand_row c.args.task c.args.job c.args.units) (rows_of c.in-InOrder.rows.items)
before c = rw c.deref.ensures.value at (c.if-is_next.ensures refl)

-- the row is pushed after the others
pushed : (c : goal.In_ok-push-in-InOrder)
    → c.push.new.self.items ≡ c.in-InOrder.rows.items ++ ((c.args.task, c.args.job), c.args.units) ∷ []
pushed c =
    rw c.in_ok-push-in-InOrder.was at c.push.ensures.items

pub returns-then-is_next-clause-in_order : goal.returns-then-is_next-clause-in_order
returns-then-is_next-clause-in_order c =
    subst (λ es. AreAscending (rows_of es)) (sym (pushed c))
    (AreAscending-pushed _ c.in-InOrder.rows.items (before c) (rw c.in-InOrder.is at c.requires))

pub returns-then-is_next-clause-answer : goal.returns-then-is_next-clause-answer
returns-then-is_next-clause-answer c =
    sym (ap (λ kept. not (is_some (named_units (kept_rows kept) c.args.task c.args.job))) c.in-InOrder.is
    ∙ ap (λ found. not (is_some found)) (named-last (demand_row c.args.task c.args.job c.args.units) (rows_of c.in-InOrder.rows.items) (before c)))

pub returns-then-is_next-clause-added : goal.returns-then-is_next-clause-added
returns-then-is_next-clause-added c _ =
    ap rows_of (pushed c) ∙ rows_of-pushed _ c.in-InOrder.rows.items (before c)
    ∙ sym (ap (λ kept. with_row (kept_rows kept) (demand_row c.args.task c.args.job c.args.units)) c.in-InOrder.is)
