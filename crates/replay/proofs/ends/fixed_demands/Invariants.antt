use Rattle.event_kernel.specs.Runs.{IsListOf}
use Rattle.replay.proofs.FixedByNotes.{AreFixedFrom}
use Rattle.replay.proofs.ends.fixed_demands.Given as goal

abbrev pub invariant-loop-note : goal.invariant-loop-note
invariant-loop-note l = record {
  list : IsListOf l.plan l.demands;
  rows : AreFixedFrom l.plan l.notes l.note-index l.demands;
}
