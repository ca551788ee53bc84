use Rattle.std.proofs.Common.{◌≡◌, List}
use Rattle.dvs_base.specs.declared.note.Note.{Note}
use Rattle.grid_fraction.specs.Numbers.{list_below}
use Rattle.poll_server.specs.EachOutcome.{outcome_of}
use Rattle.poll_server.specs.Walks.{HasReached, AreEnds}
use Rattle.poll_server.proofs.outcomes.outcomes.Given as goal

abbrev pub invariant-loop-m : goal.invariant-loop-m
invariant-loop-m l = record {
  reached : HasReached l.jobs.server.now l.jobs.count l.m l.reached;
  so_far : (notes : List Note) → AreEnds l.jobs.server.now notes l.jobs.count l.jobs.ends.now.ends.items
      → l.list.items ≡ list_below l.m (outcome_of l.jobs.server.now notes);
}
