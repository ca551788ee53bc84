use Rattle.std.proofs.Common.{◌≡◌, ◌+◌, suc, arith}
use Rattle.std.proofs.lemmas.Result.{IfOk-at_ok}
use Rattle.demand_list.proofs.Ascending.{insert_entry-next}
use Rattle.demand_list.proofs.kept.map_of.Goals as goal

pub loop-key-preserved : goal.loop-key-preserved
loop-key-preserved c =
    let next : suc c.loop-key.key-index ≡ c.loop-key.key-index + 1 = omega arith in
    rw (IfOk-at_ok _ c.in_ok-insert.was c.insert.ensures.entries, c.loop-key.invariant, ← next)
    (insert_entry-next c.args.rows.now c.loop-key.key-index ((0, 0), 0) c.requires c.loop-key-test.true)
