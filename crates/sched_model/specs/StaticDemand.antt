-- The demands that no run changes: no governor, and static scaling (Pillai and Shin 2001).
-- Fractions of units per tick, not reduced.
use Rattle.std.specs.Prelude.{ℕ, ◌*◌, Bool, ◌||◌, ◌&&◌, nat_lt, nat_eq, not}
use Rattle.dvs_base.specs.declared.kind.Scheduler.{Scheduler}
use Rattle.dvs_base.specs.declared.kind.Scheduler.TheVariants.{Edf, Rm}
use Rattle.grid_fraction.specs.declared.Frac.{Frac}
use Rattle.grid_fraction.specs.Numbers.{any_below, first_from}
use Rattle.freq_table.specs.Tables.{speed_at, lowest_entry}
use Rattle.sched_model.specs.Plan.{Plan, top_speed, hyper, period, count}
use Rattle.sched_model.specs.Priority.{stands_before}
use Rattle.sched_model.specs.Tests.{total_rate, level_work}

-- the demand with no governor: always the highest speed
abbrev pub full_demand : Plan → Frac
full_demand p = record { num = top_speed p; den = 1 }

-- the static demand under EDF: the sum of the rates, over H
abbrev pub edf_static : Plan → Frac
edf_static p = record { num = total_rate p; den = hyper p }

-- whether Sj/Pj is greater than Si/Pi, or equal to it with task j before task i in RM order
abbrev pub outweighs : Plan → ℕ → ℕ → Bool
outweighs p j i =
    let a = level_work p j * period p i in
    let b = level_work p i * period p j in
    nat_lt b a || (nat_eq a b && stands_before (period p) j i)

-- Si/Pi, the share of its period that the level of task i asks for
abbrev pub level_share : Plan → ℕ → Frac
level_share p i = record { num = level_work p i; den = period p i }

-- the task whose level asks for the greatest share of its period; of equal ones the first in RM order
abbrev pub heaviest : Plan → ℕ
heaviest p = first_from (count p) 0 (λ i. not (any_below (count p) (λ j. outweighs p j i)))

-- the static demand under RM: the greatest share that a level asks for
abbrev pub rm_static : Plan → Frac
rm_static p = level_share p (heaviest p)

-- the static demand under scheduler s
abbrev pub static_demand_of : Scheduler → Plan → Frac
static_demand_of Edf p = edf_static p
static_demand_of Rm p = rm_static p

-- the static demand of a plan under its own scheduler
abbrev pub static_demand : Plan → Frac
static_demand p = static_demand_of p.scheduler p

-- fs, the speed of the lowest entry that meets the RM static demand
abbrev pub static_speed : Plan → ℕ
static_speed p = speed_at p.machine (lowest_entry p.machine (rm_static p))
