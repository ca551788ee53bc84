-- What writing the lines of a trace does to a sink and to probes.
use Rattle.std.specs.Prelude.{List, ◌∷◌, ◌++◌, ◌≡◌, Result, Ok, Err}
use Rattle.dvs_base.specs.Outside.{SinkView}
use Rattle.dvs_base.specs.WritesText.{Wrote, WroteSome}
use Rattle.trace_text.specs.TraceText.{NotedLine, text_of_lines, notes_of_lines}
use Rattle.probes.specs.Tallies.{told_notes}
use Rattle.probes.specs.Outputs.{Outputs}

-- all lines were written, and the probes were told their notes
pub record WroteLines (old new : Outputs) (lines : List NotedLine) : Type 0 where
  pub wrote : Wrote old.sink new.sink (text_of_lines lines)
  pub told : new.probes ≡ told_notes (notes_of_lines lines) old.probes

-- the writing stopped in one line: the lines before it were written, the line itself in part, and the probes were told
-- the notes of the lines before it
pub record StoppedIn (old new : Outputs) (lines : List NotedLine) : Type 0 where
  pub done : List NotedLine
  pub line : NotedLine
  pub rest : List NotedLine
  pub whole : lines ≡ done ++ line ∷ rest
  pub middle : SinkView
  pub before : WroteLines old (record new { sink = middle }) done
  pub part : WroteSome middle new.sink line.text

-- lines were written: all of them at Ok, and at an error those before one that was written in part
abbrev pub WritesLines : {T E : Type 0} → Outputs → Outputs → List NotedLine → Result T E → Type 0
WritesLines old new lines (Ok v) = WroteLines old new lines
WritesLines old new lines (Err e) = StoppedIn old new lines
