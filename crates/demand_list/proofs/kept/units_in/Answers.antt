use Rattle.std.proofs.Common.{rules, sym, ◌∙◌}
use Rattle.std.proofs.lemmas.List.Sorted.{answers_always}
use Rattle.demand_list.proofs.Ascending.{row, key-Equal, named-at, named-between, comparisons-rise}
use Rattle.std.specs.Prelude.{slice_index_or}
use Rattle.demand_list.proofs.kept.units_in.Goals as goal

pub returns-then-eq : goal.returns-then-eq
returns-then-eq c =
    let same = sym c.eq.ensures ∙ c.if-eq.true in
    sym (named-at c.args.task c.args.job c.args.rows.now c.saturating_sub-near.result ((0, 0), 0) c.requires c.if-near-rows.true same)

pub returns-in-Ok : goal.returns-in-Ok
returns-in-Ok c =
    let found = c.in-Ok.ensures.position (λ entry. entry.0) (answers_always _ _ _ (λ f a r g called. search rules)) ((0, 0), 0) in
    let same = key-Equal (row (slice_index_or c.args.rows.now c.in-Ok.at ((0, 0), 0))) c.args.task c.args.job found in
    sym (named-at c.args.task c.args.job c.args.rows.now c.in-Ok.at ((0, 0), 0) c.requires c.in-Ok.ensures.bound same)

pub returns-in-Err : goal.returns-in-Err
returns-in-Err c =
    let rises = comparisons-rise c.args.task c.args.job c.args.rows.now c.requires in
    let parted = c.in-Err.ensures.position (λ entry. entry.0) (answers_always _ _ _ (λ f a r g called. search rules)) rises in
    sym (named-between c.args.task c.args.job c.args.rows.now c.in-Err.field-0 parted.0 parted.1)
