-- What is put to `notes` at the end, with the names of the command's tasks.
use Rattle.std.proofs.Common.{◌≡◌, ℕ, Bool, true, false, List, Option, Some, None, refl, ap, sym, subst}
use Rattle.dvs_base.specs.Outside.{Files, SinkView}
use Rattle.task_model.specs.declared.task.Task.{Task}
use Rattle.probes.specs.Tallies.{ProbeView}
use Rattle.words.specs.Commands.{CommandView, asks_probes}
use Rattle.task_model.specs.Tasks.{names_of}
use Rattle.command_files.specs.Files.{names_by}
use Rattle.rtdvs_top.specs.Asked.{asked_with}
use Rattle.rtdvs_top.specs.Prepared.{HasTaskNames}
use Rattle.statuses.specs.ProbeLines.{probe_lines}
use Rattle.statuses.specs.Noted.{NotedAs, noted_text}
use Rattle.rtdvs_top.specs.ToldRuns.{IfAsked}
use Rattle.rtdvs_top.specs.Promises.{PutsNotes}
use Rattle.statuses.specs.declared.status.Status.{Status}
use Rattle.statuses.specs.declared.status.Status.TheVariants as status

module _ (files : Files) (c : CommandView) (tasks : Option (List Task)) (ps : List ProbeView) where
  same-noted : (asks : Bool) (s : Status) → asks_probes c ≡ asks → HasTaskNames (Some files) c tasks s
      → noted_text asks (names_of tasks) ps s ≡ noted_text asks (names_by c files) ps s
  same-noted true status.Done is named =
      ap (λ (ns : List (List ℕ)). probe_lines ns 1 ps)
      (subst (λ (b : Bool). IfAsked b (names_of tasks ≡ names_by c files)) is named)
  same-noted false status.Done is named = refl
  same-noted asks s is named = named

-- what was put to `notes` is what the call promises
pub puts-notes : (files : Option Files) (c : CommandView) (tasks read : Option (List Task)) (ps qs : List ProbeView) (s : Status)
    (old new : SinkView) (asks : Bool) → asks ≡ asks_probes c → read ≡ tasks → qs ≡ ps → HasTaskNames files c tasks s
    → NotedAs old new (noted_text asks (names_of read) qs s) → PutsNotes (asked_with files c) ps s old new
puts-notes None c tasks read ps qs s old new asks a r q named h = (names_of read, rw (sym a, sym q) h)
puts-notes (Some files) c tasks read ps qs s old new asks a r q named h =
    subst (λ (t : List ℕ). NotedAs old new t) (same-noted files c tasks ps (asks_probes c) s refl named) (rw (sym a, sym r, sym q) h)
