-- What a type of governors means, over plain data.
use Rattle.std.specs.Prelude.{ℕ}
use Rattle.dvs_base.specs.declared.kind.Scheduler.{Scheduler}
use Rattle.grid_fraction.specs.declared.Frac.{Frac}
use Rattle.sched_model.specs.Plan.{Plan}
use Rattle.sched_model.specs.States.{StateView}

-- the schedulers that a governor serves
abbrev pub Serving : Type 1
Serving = Scheduler → Type 0

-- a governor's published demand in a state of a plan, in units per tick
abbrev pub OwnDemand : Type 0
OwnDemand = Plan → StateView → Frac

-- a condition on the states of a plan's runs
abbrev pub Condition : Type 1
Condition = Plan → StateView → Type 0

-- a condition on the states of a plan's runs and the entry in force
abbrev pub EntryCondition : Type 1
EntryCondition = Plan → StateView → ℕ → Type 0
