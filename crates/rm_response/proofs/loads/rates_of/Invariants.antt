use Rattle.std.proofs.Common.{◌≡◌, ◌*◌, ◌^◌, ◌≤◌, take}
use Rattle.rm_response.specs.Loads.{rates_of}
use Rattle.rm_response.proofs.loads.rates_of.Given as goal

abbrev pub invariant-loop-load : goal.invariant-loop-load
invariant-loop-load l = (l.sum ≡ rates_of (take l.load-index l.loads)) × (l.sum ≤ l.load-index * 2 ^ 109)
