use Rattle.std.proofs.Common.{◌≤◌}
use Rattle.rm_response.specs.Fits.{NoneFits}
use Rattle.rm_response.proofs.search.raised.Given as goal

abbrev pub invariant-loop : goal.invariant-loop
invariant-loop l = record {
  low : l.span.first ≤ l.first;
  within : l.first ≤ l.span.last;
  none : NoneFits l.supply l.loads l.rest l.span.first l.first;
}
