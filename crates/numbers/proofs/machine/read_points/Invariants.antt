use Rattle.std.proofs.Common.{◌≡◌, [], drop, vec_len}
use Rattle.freq_table.specs.Limits.{ArePoints}
use Rattle.numbers.specs.Given.{given_points_from}
use Rattle.numbers.proofs.machine.read_points.Given as goal

-- the points so far, followed by the numbers that are left, give what all the numbers give
abbrev pub invariant-loop-one : goal.invariant-loop-one
invariant-loop-one l = record {
  count : vec_len l.points ≡ l.one-index;
  limits : ArePoints l.points.items;
  rest : given_points_from [] l.given ≡ given_points_from l.points.items (drop l.one-index l.given);
}
