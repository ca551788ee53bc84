use Rattle.std.specs.Prelude.{All}
use Rattle.std.proofs.Common.{◌≤◌, take}
use Rattle.rm_response.proofs.loads.place_among.Given as goal

abbrev pub invariant-loop-k : goal.invariant-loop-k
invariant-loop-k l = All (λ x. l.response ≤ x.period) (take l.k l.loads)
