-- The schedulers that a governor serves.
use Rattle.std.specs.Prelude.{◌≡◌}
use Rattle.dvs_base.specs.declared.kind.Scheduler.{Scheduler}
use Rattle.dvs_base.specs.declared.kind.Scheduler.TheVariants.{Edf, Rm}

-- a governor serves only EDF
abbrev pub ServesEdf : Scheduler → Type 0
ServesEdf scheduler = scheduler ≡ Edf

-- a governor serves only RM
abbrev pub ServesRm : Scheduler → Type 0
ServesRm scheduler = scheduler ≡ Rm

-- a governor serves EDF and RM
abbrev pub ServesBoth : Scheduler → Type 0
ServesBoth scheduler = Unit {0}
