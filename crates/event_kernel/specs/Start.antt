-- What a kernel is before its run.
use Rattle.std.specs.Prelude.{ℕ, ◌≡◌, []}
use Rattle.dvs_base.specs.declared.kind.GovernorKind.{GovernorKind}
use Rattle.sched_model.specs.Plan.{Plan}
use Rattle.sched_model.specs.States.{opening, StateView}
use Rattle.energy.specs.Books.{Books}
use Rattle.governor.specs.Meanings.{OwnDemand}
use Rattle.event_kernel.specs.declared.progress.Setting.{Setting}
use Rattle.event_kernel.specs.declared.progress.Progress.{Progress}
use Rattle.event_kernel.specs.Current.{IsCurrent}
use Rattle.event_kernel.specs.MetRun.{IsMetRun}
use Rattle.event_kernel.specs.Runs.{Run, run_for}
use Rattle.event_kernel.specs.SpanNotes.{HasBooked}

-- the run of a setting
abbrev pub run_of : Setting → Run
run_of set = run_for set.plan.now set.demands.now set.ticks

-- a governor's run is at its start
pub record IsAtStart {G : Type 0} (stands : G → Plan → StateView → Type 0) (kind : GovernorKind) (demand : OwnDemand)
    (set : Setting) (progress : Progress G) (account : Books) : Type 0 where
  -- no job is released yet
  pub state : progress.state ≡ opening set.plan.now
  -- the governor's counters, the agenda and the demands of the latest jobs are right for that state
  pub current : IsCurrent stands set progress
  -- the account has no note yet
  pub booked : HasBooked set.plan.now account []
  -- for any number of ticks, every deadline will be met, and so will the demands if the kind's always are
  pub met : (t : ℕ) → IsMetRun kind demand (run_for set.plan.now set.demands.now t)
