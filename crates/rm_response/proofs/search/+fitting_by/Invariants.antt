-- Each call is for fewer loads, or for the same with one supply.
use Rattle.std.proofs.Common.{length, ◌+◌, ◌-◌}
use Rattle.rm_response.proofs.search.+fitting_by.Given as goal

abbrev pub decreases-fitting_by : goal.decreases-fitting_by
decreases-fitting_by l = length l.left.loads.now + length l.left.loads.now + (1 - (1 - l.search.tail))
