use Rattle.std.proofs.Common.{◌≡◌, take}
use Rattle.demand_list.proofs.kept.map_of.Given as goal

abbrev pub invariant-loop-key : goal.invariant-loop-key
invariant-loop-key l = l.map.entries ≡ take l.key-index l.rows
