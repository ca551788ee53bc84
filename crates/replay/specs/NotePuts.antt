-- The lines that are put for a note of a trace; only for proofs.
use Rattle.std.specs.Prelude.{ℕ, List, [], ◌∷◌, ◌++◌}
use Rattle.dvs_base.specs.declared.kind.Version.{Version}
use Rattle.dvs_base.specs.declared.note.Note.{Note}
use Rattle.dvs_base.specs.declared.note.Note.TheVariants.{End}
use Rattle.sched_model.specs.Plan.{Plan, names}
use Rattle.trace_text.specs.TraceText.{NotedLine, line_of_note}
use Rattle.trace_writer.specs.UnnotedLines.{sum_lines}

-- the lines before that of a note, by the energies of the tasks: those of the energies before the end of the run
abbrev pub sums_before : Version → Plan → List ℕ → Note → List NotedLine
sums_before v p energies (End t run idle) = sum_lines v p energies
sums_before v p energies n = []

-- the lines of a note, by the energies of the tasks: those before its own, and its own
abbrev pub lines_with : Version → Plan → List ℕ → Note → List NotedLine
lines_with v p energies n = sums_before v p energies n ++ line_of_note (names p) n ∷ []
