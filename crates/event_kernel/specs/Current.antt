-- What a run looks up follows its state.
use Rattle.std.specs.Prelude.{ℕ, ◌≡◌, List}
use Rattle.grid_fraction.specs.Numbers.{list_below}
use Rattle.sched_model.specs.Plan.{Plan, count}
use Rattle.sched_model.specs.States.{IsOfPlan, StateView, row_at}
use Rattle.agenda.specs.Stands.{Stands}
use Rattle.event_kernel.specs.declared.progress.Setting.{Setting}
use Rattle.event_kernel.specs.declared.progress.Progress.{Progress}
use Rattle.event_kernel.specs.Runs.{demands_of}

-- the demand of each task's latest job
abbrev pub latest_demands : Setting → StateView → List ℕ
latest_demands set s = list_below (count set.plan.now) (λ i. demands_of set.plan.now set.demands.now i (row_at s i).job)

-- A run's counters, its agenda and its demands are right for its state: the ready queue holds exactly the incomplete
-- latest jobs with their keys, and the calendar each task with its next release. The state fits the plan.
pub record IsCurrent {G : Type 0} (stands : G → Plan → StateView → Type 0) (set : Setting) (run : Progress G) : Type 0 where
  pub of : IsOfPlan set.plan.now run.state
  pub counters : stands run.governor set.plan.now run.state
  pub agenda : Stands set.plan.now run.state run.agenda
  pub demands : run.needs.items ≡ latest_demands set run.state
