-- What holds of each run of a kernel: its deadlines and its demands are met.
use Rattle.dvs_base.specs.declared.kind.GovernorKind.{GovernorKind}
use Rattle.sched_model.specs.Demand.{IsAlwaysMet}
use Rattle.governor.specs.Meanings.{OwnDemand}
use Rattle.event_kernel.specs.Runs.{Run, MeetsDeadlines, MeetsDemands}

-- every deadline within a run is met, and so is the published demand at each decision if the kind's is always met
pub record IsMetRun (kind : GovernorKind) (demand : OwnDemand) (r : Run) : Type 0 where
  pub deadlines : MeetsDeadlines demand r
  pub demands : IsAlwaysMet kind → MeetsDemands demand r
