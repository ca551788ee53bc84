-- The two conditions of a governor whose speed is one number, by the plan's scheduler.
use Rattle.std.specs.Prelude.{ℕ}
use Rattle.dvs_base.specs.declared.kind.Scheduler.{Scheduler}
use Rattle.dvs_base.specs.declared.kind.Scheduler.TheVariants.{Edf, Rm}
use Rattle.sched_model.specs.Plan.{Plan}
use Rattle.sched_model.specs.States.{StateView}
use Rattle.governor.specs.Edf.{EdfCalm, EdfSafe}
use Rattle.governor.specs.Rm.{RmCalm, RmSafe}

-- the calm condition at speed F: under EDF the load fits; under RM each level is done or in a busy stretch
abbrev pub CalmBy : Scheduler → ℕ → Plan → StateView → Type 0
CalmBy Edf F plan s = EdfCalm F plan s
CalmBy Rm F plan s = RmCalm F plan s

-- the safe condition at speed F under a scheduler, with the entry k in force
abbrev pub SafeBy : Scheduler → ℕ → Plan → StateView → ℕ → Type 0
SafeBy Edf F plan s k = EdfSafe F plan s k
SafeBy Rm F plan s k = RmSafe F plan s k

-- the calm condition under the plan's scheduler, at the speed that F gives the plan
abbrev pub CalmAt : (Plan → ℕ) → Plan → StateView → Type 0
CalmAt F plan s = CalmBy plan.scheduler (F plan) plan s

-- the safe condition under the plan's scheduler, at the speed that F gives the plan and with the entry k in force
abbrev pub SafeAt : (Plan → ℕ) → Plan → StateView → ℕ → Type 0
SafeAt F plan s k = SafeBy plan.scheduler (F plan) plan s k
