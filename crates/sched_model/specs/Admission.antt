-- What holds of every admitted plan.
use Rattle.std.specs.Prelude.{◌≡◌, ℕ, List}
use Rattle.grid_fraction.specs.declared.Frac.{Frac}
use Rattle.dvs_base.specs.declared.kind.Scheduler.{Scheduler}
use Rattle.task_model.specs.Tasks.{IsTaskSet}
use Rattle.freq_table.specs.Tables.{IsTable}
use Rattle.sched_model.specs.Plan.{Plan, count, names, period, hyper, top_speed}
use Rattle.sched_model.specs.StaticDemand.{static_demand}
use Rattle.sched_model.specs.Tests.{PassesAt}
use Rattle.sched_model.specs.Priority.{in_order}

-- the tasks and the machine are within the limits
pub record IsWithinLimits (p : Plan) : Type 0 where
  pub tasks : IsTaskSet p.tasks
  pub machine : IsTable p.machine

-- the test of a scheduler, at the highest speed
abbrev pub PassesTest : Scheduler → Plan → Type 0
PassesTest s p = PassesAt (top_speed p) s p

-- an admitted plan: within the limits, and its scheduler's test passes
pub record IsAdmitted (p : Plan) : Type 0 where
  pub limits : IsWithinLimits p
  pub test : PassesTest p.scheduler p

-- what an admitted plan stores beside its parts: names, RM order, hyperperiod and static demand
pub record HoldsPlan (p : Plan) (name_list : List (List ℕ)) (rm_order : List ℕ) (hyperperiod : ℕ) (static_fraction : Frac) : Type 0 where
  pub admitted : IsAdmitted p
  pub names_are : name_list ≡ names p
  pub order_is : rm_order ≡ in_order (period p) (count p)
  pub hyper_is : hyperperiod ≡ hyper p
  pub static_is : static_fraction ≡ static_demand p
