use Rattle.std.proofs.Common.{◌≡◌, Option, Some, None, ℕ, List, not, is_some, refl, sym, ap, ◌∙◌}
use Rattle.std.specs.BTreeMap.{insert_entry, is_at}
use Rattle.std.specs.Map.{lookup, keys_of}
use Rattle.task_model.specs.DemandRows.{named_units}
use Rattle.demand_list.specs.Demands.{rows_of}
use Rattle.dvs_base.proofs.PairOrders.{pair_cmp}
use Rattle.std.proofs.lemmas.Result.{IfOk-at_ok}
use Rattle.demand_list.proofs.Rows.{named-rows_of, rows_of-insert_entry, insert_entry-back}
use Rattle.demand_list.proofs.kept.add_row.Goals as goal

pub returns-in_default-clause-answer : goal.returns-in_default-clause-answer
returns-in_default-clause-answer c =
    let found : named_units (rows_of c.args.rows.now.entries) c.args.task c.args.job ≡ None =
    named-rows_of c.args.rows.now.entries c.args.task c.args.job ∙ sym (IfOk-at_ok _ c.in_ok-earlier.was c.insert.ensures.old) ∙ c.in_default.is in
    sym (ap (λ (o : Option ℕ). not (is_some o)) found)

pub returns-in_default-clause-added : goal.returns-in_default-clause-added
returns-in_default-clause-added c _ =
    let found : named_units (rows_of c.args.rows.now.entries) c.args.task c.args.job ≡ None =
    named-rows_of c.args.rows.now.entries c.args.task c.args.job ∙ sym (IfOk-at_ok _ c.in_ok-earlier.was c.insert.ensures.old) ∙ c.in_default.is in
    ap rows_of (IfOk-at_ok _ c.in_ok-earlier.was c.insert.ensures.entries)
    ∙ rows_of-insert_entry c.args.rows.now.entries c.args.task c.args.job c.args.units found

pub returns-clause-answer : goal.returns-clause-answer
returns-clause-answer c =
    let found : named_units (rows_of c.args.rows.now.entries) c.args.task c.args.job ≡ Some c.in-Some.kept =
    named-rows_of c.args.rows.now.entries c.args.task c.args.job ∙ sym (IfOk-at_ok _ c.in_ok-earlier.was c.insert.ensures.old) ∙ c.in-Some.is in
    sym (ap (λ (o : Option ℕ). not (is_some o)) found)

pub returns-clause-stays : goal.returns-clause-stays
returns-clause-stays c _ =
    let key : ℕ × ℕ = (c.args.task, c.args.job) in
    let es : List ((ℕ × ℕ) × ℕ) = c.args.rows.now.entries in
    let first : c.insert.new.self.entries ≡ insert_entry pair_cmp es key c.args.units = IfOk-at_ok _ c.in_ok-earlier.was c.insert.ensures.entries in
    let second : c.insert-2.new.self.entries ≡ insert_entry pair_cmp c.insert.new.self.entries key c.in-Some.kept =
    IfOk-at_ok _ c.in_ok-insert.was c.insert-2.ensures.entries in
    let same : keys_of c.insert.new.self.entries ≡ keys_of es = (rw c.in-Some.is at (IfOk-at_ok _ c.in_ok-earlier.was c.insert.ensures.keys_stay)) refl in
    let found : lookup (is_at (pair_cmp key)) es ≡ Some c.in-Some.kept = sym (IfOk-at_ok _ c.in_ok-earlier.was c.insert.ensures.old) ∙ c.in-Some.is in
    second ∙ ap (λ (e : List ((ℕ × ℕ) × ℕ)). insert_entry pair_cmp e key c.in-Some.kept) first
    ∙ insert_entry-back pair_cmp key c.args.units c.in-Some.kept es (ap keys_of (sym first) ∙ same) found
