-- None of the ticks before `low` is a fit, and `high` is one.
use Rattle.std.proofs.Common.{◌≤◌, ◌-◌}
use Rattle.rm_response.specs.Fits.{Fits, NoneFits}
use Rattle.rm_response.proofs.search.first_fitting.Given as goal

abbrev pub invariant-loop-low : goal.invariant-loop-low
invariant-loop-low l = record {
  from : l.fn.span.first ≤ l.low;
  none : NoneFits l.supply l.left.loads.now l.rest l.fn.span.first l.low;
  fit : Fits l.supply l.left.loads.now l.rest l.low l.fn.span.last l.high;
}

abbrev pub decreases-loop-low : goal.decreases-loop-low
decreases-loop-low l = l.high - l.low
