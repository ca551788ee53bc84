use Rattle.std.proofs.Common.{◌≡◌, drop}
use Rattle.replay.specs.Replays.{first_over}
use Rattle.replay.proofs.ends.first_over.Given as goal

abbrev pub invariant-loop-note : goal.invariant-loop-note
invariant-loop-note l = first_over l.plan (drop l.note-index l.notes) ≡ first_over l.plan l.notes
