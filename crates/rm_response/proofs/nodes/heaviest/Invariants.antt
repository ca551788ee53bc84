use Rattle.std.proofs.Common.{◌<◌, IfSome, length}
use Rattle.rm_response.proofs.nodes.heaviest.Given as goal

abbrev pub invariant-loop-k : goal.invariant-loop-k
invariant-loop-k l = IfSome l.place (λ k. k < length l.loads)
