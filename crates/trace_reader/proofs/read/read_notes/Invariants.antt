use Rattle.std.proofs.Common.{◌≡◌, ◌≤◌, length}
use Rattle.trace_reader.specs.Fields.{parts}
use Rattle.trace_reader.specs.Heads.{MayBeNext}
use Rattle.trace_reader.specs.Sums.{HasSums}
use Rattle.trace_reader.specs.TraceFile.{nothing_yet, notes_from}
use Rattle.trace_reader.proofs.read.read_notes.Given as goal

-- the notes so far, and those of the text that is left, are those of the whole text
abbrev pub invariant-loop-notes : goal.invariant-loop-notes
invariant-loop-notes l = record {
  few : MayBeNext l.number;
  energies_read : l.energies_read ≤ l.number;
  sums : HasSums l.notes.items l.shares.sums;
  left : notes_from l.version l.names l.number (record { notes = l.notes.items; energies_read = l.energies_read }) (parts 10 l.rest)
      ≡ notes_from l.version l.names l.first nothing_yet (parts 10 l.bytes);
}

abbrev pub decreases-loop-notes : goal.decreases-loop-notes
decreases-loop-notes l = length l.rest
