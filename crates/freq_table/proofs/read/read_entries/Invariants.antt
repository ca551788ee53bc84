use Rattle.std.proofs.Common.{◌≡◌, [], drop, vec_len}
use Rattle.toml.specs.View.{items_view}
use Rattle.freq_table.specs.Limits.{ArePoints}
use Rattle.freq_table.specs.MachineFile.{points_from}
use Rattle.freq_table.proofs.read.read_entries.Given as goal

-- the points so far, followed by the entries that are left, give what all the entries give
abbrev pub invariant-loop-entry : goal.invariant-loop-entry
invariant-loop-entry l = record {
  count : vec_len l.points ≡ l.entry-index;
  limits : ArePoints l.points.items;
  rest : points_from [] (items_view l.entries) ≡ points_from l.points.items (items_view (drop l.entry-index l.entries));
}
