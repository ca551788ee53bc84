-- Each call is for fewer loads.
use Rattle.std.proofs.Common.{length}
use Rattle.rm_response.proofs.nodes.+tail_of.Given as goal

abbrev pub decreases-tail_of : goal.decreases-tail_of
decreases-tail_of l = length l.loads.now
