use Rattle.std.proofs.Common.{◌≡◌, ◌≤◌, length, take}
use Rattle.rm_response.specs.declared.relaxed.TheConstants.{MOST_HEAVY}
use Rattle.rm_response.specs.Fits.{IsRelaxed}
use Rattle.rm_response.proofs.nodes.relaxed_by.Given as goal

abbrev pub invariant-loop-k : goal.invariant-loop-k
invariant-loop-k l = record {
  long : length l.heavy ≡ MOST_HEAVY;
  room : l.count ≤ MOST_HEAVY;
  relaxed : IsRelaxed l.fn.supply (take l.k l.loads) l.units (take l.count l.heavy);
}
