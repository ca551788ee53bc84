use Rattle.std.proofs.Common.{◌≡◌, ◌-◌, length, true, sym, refl, arith}
use Rattle.std.proofs.lemmas.Bool.Decides.{nat_tests}
use Rattle.std.proofs.lemmas.Option.{get_or_from_slice_get}
use Rattle.task_model.specs.DemandRows.{demand_row}
use Rattle.demand_list.specs.Demands.{precedes}
use Rattle.demand_list.proofs.Ascending.{AllPrecede-last, row}
use Rattle.demand_list.proofs.kept.is_next.Goals as goal

pub returns-in-Some : goal.returns-in-Some
returns-in-Some c less =
    let last = get_or_from_slice_get c.args.rows.now (length c.args.rows.now - 1) c.in-Some.last.now ((0, 0), 0) (sym c.in-Some.ensures.value) in
    let before : precedes (row c.in-Some.last.now) (demand_row c.args.task c.args.job 0) ≡ true = grind (arith, nat_tests, c.lt.ensures, less) in
    AllPrecede-last (demand_row c.args.task c.args.job 0) c.args.rows.now _ ((0, 0), 0) c.requires refl (rw last before)
