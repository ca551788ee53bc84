-- What a schedule costs, tick by tick, and the bound on every schedule.
use Rattle.std.specs.Prelude.{◌≡◌, ℕ, ◌+◌, ◌*◌, ◌≤◌, List, length, map, sum_by}
use Rattle.dvs_base.specs.declared.note.Note.{Note}
use Rattle.dvs_base.specs.declared.note.Note.TheVariants.{Run}
use Rattle.grid_fraction.specs.Numbers.{sum_below}
use Rattle.freq_table.specs.Tables.{Table}
use Rattle.sched_model.specs.Plan.{Plan, count}
use Rattle.sched_model.specs.Jobs.{JobDemands}
use Rattle.sched_model.specs.Ticks.{PublishedDemand, Tick, share}
use Rattle.sched_model.specs.Schedule.{IsScheduleBy}
use Rattle.sched_model.specs.Notes.{notes_of}
use Rattle.sched_model.specs.Totals.{totals_of}
use Rattle.energy_bound.specs.declared.least.Least.{Least}
use Rattle.energy_bound.specs.Choices.{Choice, AreChoices, total_units, total_cost}
use Rattle.energy_bound.specs.Bounds.{BoundsChoices, IsReached, HavePrices}

-- the choice of a tick of a schedule: its entry, and the units that the jobs get
abbrev pub choice_of : Plan → Tick → Choice
choice_of p x = record { entry = x.entry; units = sum_below (count p) (share x) }

-- the choices of all ticks of a schedule
abbrev pub choices_of : Plan → List Tick → List Choice
choices_of p ticks = map (choice_of p) ticks

-- the units of a note if it is a running segment
abbrev pub run_units : Note → ℕ
run_units (Run from to i k units energy) = units
run_units _ = 0

-- the units of the running segments among some notes
abbrev pub units_run : List Note → ℕ
units_run notes = sum_by run_units notes

-- the energy of the segments among some notes, idle ones included
abbrev pub energy_spent : List Note → ℕ
energy_spent notes = (totals_of notes).run + (totals_of notes).idle

-- the ticks of a plan are choices, whose units are those of the running segments and whose cost is the energy of all
-- segments
pub record CostsItsTicks (p : Plan) (ticks : List Tick) (notes : List Note) : Type 0 where
  pub choices : AreChoices p.machine (choices_of p ticks)
  pub units : units_run notes ≡ total_units (choices_of p ticks)
  pub cost : energy_spent notes ≡ total_cost p.machine (choices_of p ticks)

-- every schedule on the machine costs what its ticks do, for any demands and any published demand
abbrev pub SchedulesCostTheirTicks : Table → Type 0
SchedulesCostTheirTicks m =
    (p : Plan) (dem : JobDemands) (ask : PublishedDemand) (ticks : List Tick) → p.machine ≡ m
    → IsScheduleBy p dem ask ticks → CostsItsTicks p ticks (notes_of p dem ask ticks)

-- every schedule on the machine that runs `units` units in `ticks` ticks spends, times `rounds`, at least the energy
abbrev pub BoundsSchedules : Table → ℕ → ℕ → Least → Type 0
BoundsSchedules m units ticks l =
    (p : Plan) (dem : JobDemands) (ask : PublishedDemand) (past : List Tick) → p.machine ≡ m
    → IsScheduleBy p dem ask past → length past ≡ ticks → units_run (notes_of p dem ask past) ≡ units
    → l.energy ≤ l.rounds * energy_spent (notes_of p dem ask past)

-- the answer is the least energy: its prices show that no choice and no schedule costs less, and it is reached over
-- `rounds` repetitions
pub record IsLeast (m : Table) (units ticks : ℕ) (l : Least) : Type 0 where
  pub prices : HavePrices m units ticks l
  pub choices : BoundsChoices m units ticks l
  pub reached : IsReached m units ticks l
  pub schedules : BoundsSchedules m units ticks l
