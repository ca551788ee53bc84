use Rattle.std.proofs.Common.{sym, ◌∙◌}
use Rattle.demand_list.proofs.Rows.{named-rows_of}
use Rattle.demand_list.proofs.kept.KeptRows.units.Goals as goal

pub returns-in-AnyOrder : goal.returns-in-AnyOrder
returns-in-AnyOrder c =
    rw c.in-AnyOrder.is (c.copied.ensures ∙ c.get.ensures.value ∙ sym (named-rows_of c.in-AnyOrder.rows.entries c.args.task c.args.job))
