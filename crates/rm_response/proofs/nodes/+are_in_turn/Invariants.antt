-- Each call is for fewer loads.
use Rattle.std.proofs.Common.{length}
use Rattle.rm_response.proofs.nodes.+are_in_turn.Given as goal

abbrev pub decreases-are_in_turn : goal.decreases-are_in_turn
decreases-are_in_turn l = length l.loads.now
