-- The lines that show no note, and how they are written; only for proofs.
use Rattle.std.specs.Prelude.{ℕ, List, slice_index, Result}
use Rattle.grid_fraction.specs.Numbers.{list_below}
use Rattle.dvs_base.specs.declared.kind.Version.{Version}
use Rattle.dvs_base.specs.Outside.{SinkView}
use Rattle.dvs_base.specs.Parts.{name_of}
use Rattle.sched_model.specs.Plan.{Plan, count, names}
use Rattle.trace_text.specs.TraceText.{NotedLine, share_text, for_tasks}
use Rattle.probes.specs.Tallies.{ProbeView}
use Rattle.probes.specs.Outputs.{Outputs}
use Rattle.trace_writer.specs.Lines.{WroteLines, StoppedIn, WritesLines}

-- the texts of the lines of a plan's tasks with these energies
abbrev pub sum_texts : Plan → List ℕ → List (List ℕ)
sum_texts p energies = list_below (count p) (λ i. share_text (name_of (names p) i) (slice_index energies i))

-- the lines of the tasks' energies, in a version that has such lines
abbrev pub sum_lines : Version → Plan → List ℕ → List NotedLine
sum_lines v p energies = for_tasks v (sum_texts p energies)

-- what a sink shows beside these probes
abbrev pub beside : List ProbeView → SinkView → Outputs
beside probes sink = record { sink = sink; probes = probes }

-- lines of no note were written, and no probe was told a note
abbrev pub WroteUnnoted : SinkView → SinkView → List NotedLine → Type 0
WroteUnnoted old new lines = (probes : List ProbeView) → WroteLines (beside probes old) (beside probes new) lines

-- the writing of lines of no note stopped in one of them
abbrev pub StoppedUnnoted : SinkView → SinkView → List NotedLine → Type 0
StoppedUnnoted old new lines = (probes : List ProbeView) → StoppedIn (beside probes old) (beside probes new) lines

-- lines of no note were written, all at Ok and some at an error; no probe was told a note
abbrev pub WritesUnnoted : {T E : Type 0} → SinkView → SinkView → List NotedLine → Result T E → Type 0
WritesUnnoted old new lines r = (probes : List ProbeView) → WritesLines (beside probes old) (beside probes new) lines r
