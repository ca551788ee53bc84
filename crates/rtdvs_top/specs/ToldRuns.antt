-- What a run tells the probes that it is given.
use Rattle.std.specs.Prelude.{Bool, false, ◌≡◌, List, ⊤, true}
use Rattle.dvs_base.specs.declared.kind.Version.{Version}
use Rattle.dvs_base.specs.declared.kind.GovernorKind.{GovernorKind}
use Rattle.dvs_base.specs.declared.note.Note.{Note}
use Rattle.sched_model.specs.RunNotes.{run_notes}
use Rattle.event_kernel.specs.Runs.{Run, demands_of}
use Rattle.trace_writer.specs.RunText.{run_lines}
use Rattle.trace_writer.specs.Lines.{StoppedIn}
use Rattle.probes.specs.Tallies.{told_notes}
use Rattle.probes.specs.Outputs.{Outputs}
use Rattle.statuses.specs.declared.status.Status.{Status}
use Rattle.statuses.specs.declared.status.Status.TheVariants as status

-- the notes of a run's schedule, by the published demand of the governor's kind
abbrev pub notes_under : GovernorKind → Run → List Note
notes_under kind r = run_notes r.plan kind (demands_of r.plan r.demands) r.ticks

-- A run told probes the notes of its schedule. If it is done they were told the notes, one by one. If a write
-- failed they were told those of the lines before the one that was put.
abbrev pub TellsRun : Version → GovernorKind → Run → Outputs → Outputs → Status → Type 0
TellsRun v kind r old new status.Done = new.probes ≡ told_notes (notes_under kind r) old.probes
TellsRun v kind r old new status.Write = StoppedIn old new (run_lines v r.plan kind r.ticks (notes_under kind r))
TellsRun v kind r old new s = ⊤

-- X holds, if it is asked for
abbrev pub IfAsked : Bool → Type 0 → Type 0
IfAsked true X = X
IfAsked false X = ⊤
