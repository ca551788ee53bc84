-- What driving a run says of its notes, of its totals and of its listener.
use Rattle.std.specs.Prelude.{ℕ, ◌≡◌, ◌≤◌, Result, OnOk, OnErr, IfOk}
use Rattle.dvs_base.specs.declared.kind.GovernorKind.{GovernorKind}
use Rattle.dvs_base.specs.declared.note.Note.{Note}
use Rattle.dvs_base.specs.declared.note.Totals.{Totals}
use Rattle.dvs_base.specs.Outside.{Rose}
use Rattle.sched_model.specs.Demand.{IsAlwaysMet}
use Rattle.sched_model.specs.Totals.{totals_of}
use Rattle.note_laws.specs.LineCounts.{AreFew}
use Rattle.governor.specs.Meanings.{OwnDemand}
use Rattle.event_kernel.specs.Heard.{HasHeard, HasBalked}
use Rattle.event_kernel.specs.Runs.{Run, notes_of_run, MeetsDeadlines, MeetsDemands}

-- A listener, which was `old` and is `new`, was driven through a run under a governor of this kind and demand: at Ok with
-- the totals, and at an error where it stopped.
pub record Drives {L E : Type 0} (heard balked : L → Note → L → Type 0) (stops : L → ℕ) (kind : GovernorKind)
    (demand : OwnDemand) (r : Run) (old new : L) (result : Result Totals E) : Type 0 where
  -- the totals are those of the notes
  pub totals : IfOk result (λ t. t ≡ totals_of (notes_of_run demand r))
  -- at most one more decision than releases and completions together, so at most one more than two a job
  pub few : IfOk result AreFew
  -- every deadline within the run is met
  pub deadlines : MeetsDeadlines demand r
  -- so is the published demand at each decision, if the kind's is always met
  pub demands : IsAlwaysMet kind → MeetsDemands demand r
  -- at Ok the listener heard all notes
  pub ran : OnOk result (HasHeard heard old (notes_of_run demand r) new)
  -- at an error it balked after a proper prefix of them
  pub broke_off : OnErr result (HasBalked heard balked old (notes_of_run demand r) new)
  -- its count of stops never falls, and an error comes only if it rose
  pub never_falls : stops old ≤ stops new
  pub rose : OnErr result (Rose (stops old) (stops new))
