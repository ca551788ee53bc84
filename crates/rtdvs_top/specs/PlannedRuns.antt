-- The admitted plan and the demands of `run`, and the run that they make.
use Rattle.std.specs.Prelude.{List, Result, Ok, ◌≤◌}
use Rattle.dvs_base.specs.Checks.{◌>>=◌}
use Rattle.dvs_base.specs.Outside.{Files}
use Rattle.dvs_base.specs.PlanWords.{IsPair}
use Rattle.dvs_base.specs.declared.kind.GovernorKind.{GovernorKind}
use Rattle.dvs_base.specs.declared.limits.TheConstants.{MOST_TICKS}
use Rattle.task_model.specs.declared.task.Task.{Task}
use Rattle.demand_list.specs.Demands.{DemandsView, IsWithinWorsts}
use Rattle.sched_model.specs.Admission.{IsAdmitted}
use Rattle.sched_model.specs.Plan.{Plan, plan_of}
use Rattle.event_kernel.specs.Runs.{Run, IsListOf}
use Rattle.words.specs.Commands.{RunView}
use Rattle.statuses.specs.declared.status.Status.{Status}
use Rattle.command_files.specs.Admissions.{admission}
use Rattle.command_files.specs.Meanings.{machine_at, demands_at}

-- the admitted plan and the demands of `run`, after its tasks were read
abbrev pub prepared_of : RunView → List Task → Files → Result (Plan × DemandsView) Status
prepared_of r tasks files = do
  machine ← machine_at r.machine files
  demands ← demands_at tasks r.demands files
  p ← admission (plan_of tasks machine r.scheduler)
  Ok (p, demands)

-- the demands of a run are those of its plan's tasks, and its number of ticks is within the limits
pub record IsRunnable (r : Run) : Type 0 where
  pub list : IsListOf r.plan r.demands
  pub some_ticks : 1 ≤ r.ticks
  pub low_ticks : r.ticks ≤ MOST_TICKS

-- A run that the governor of a kind is made for: the plan is admitted and its scheduler makes a pair with the kind, and
-- no listed demand exceeds its worst case.
pub record IsReadyRun (kind : GovernorKind) (r : Run) : Type 0 where
  pub admitted : IsAdmitted r.plan
  pub pair : IsPair r.plan.scheduler kind
  pub worsts : IsWithinWorsts r.demands
  pub runnable : IsRunnable r
