use Rattle.std.proofs.Common.{◌≡◌, ◌+◌, ◌-◌, vec_len}
use Rattle.rm_response.specs.Earlier.{HasNodes}
use Rattle.rm_response.proofs.earlier.Earlier.make_nodes.Given as goal

abbrev pub invariant-loop-supply : goal.invariant-loop-supply
invariant-loop-supply l = (l.self.loads ≡ l.fn.self.loads) × HasNodes l.supply l.self

abbrev pub decreases-loop-supply : goal.decreases-loop-supply
decreases-loop-supply l = vec_len l.self.loads + 1 - vec_len l.self.nodes
