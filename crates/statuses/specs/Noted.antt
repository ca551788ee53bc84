-- What is put to `notes` at the end of a call: the lines of its status, or those of probes.
use Rattle.std.specs.Prelude.{ℕ, List, Bool, true, ◌⊎◌}
use Rattle.statuses.specs.declared.status.Status.{Status}
use Rattle.statuses.specs.declared.status.Status.TheVariants as status
use Rattle.dvs_base.specs.Outside.{SinkView}
use Rattle.dvs_base.specs.WritesText.{Wrote, WroteSome}
use Rattle.probes.specs.Tallies.{ProbeView}
use Rattle.statuses.specs.StatusLines.{status_text}
use Rattle.statuses.specs.ProbeLines.{probe_lines}

-- what is put to `notes` at the end: the lines of the status, or of the probes if a run that asked for them is done
abbrev pub noted_text : Bool → List (List ℕ) → List ProbeView → Status → List ℕ
noted_text true names ps status.Done = probe_lines names 1 ps
noted_text asks names ps s = status_text names s

-- the text was put to the sink: whole, or a first part of it if the count of faults rose
abbrev pub NotedAs : SinkView → SinkView → List ℕ → Type 0
NotedAs old new text = Wrote old new text ⊎ WroteSome old new text
