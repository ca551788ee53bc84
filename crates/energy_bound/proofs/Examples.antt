-- Least energies with their certificates, and what is no bound on choices or on schedules, by evaluation.
use Rattle.std.proofs.Common.{◌≡◌, ℕ, true, false, [], ◌∷◌, List, Ok, Err, refl, codes, arith}
use Rattle.std.proofs.lemmas.List.Elements.{All-from_recursion}
use Rattle.dvs_base.specs.declared.kind.Scheduler.TheVariants.{Edf}
use Rattle.dvs_base.specs.declared.note.Note.TheVariants.{Run}
use Rattle.freq_table.specs.Tables.{Table}
use Rattle.sched_model.specs.Plan.{Plan}
use Rattle.sched_model.specs.Jobs.{release, due, latest, worst_demand}
use Rattle.sched_model.specs.Ticks.{PublishedDemand, Tick}
use Rattle.sched_model.specs.Priority.{in_order}
use Rattle.sched_model.specs.Schedule.{schedule_by}
use Rattle.sched_model.specs.Notes.{notes_before_end, notes_of}
use Rattle.sched_model.proofs.Schedules.{schedule_exists}
use Rattle.sched_model.proofs.Examples.{entry_of, three_speeds, task_of}
use Rattle.energy_bound.specs.declared.least.Least.{Least}
use Rattle.energy_bound.specs.Choices.{Choice, IsChoice}
use Rattle.energy_bound.specs.Bounds.{BoundsChoices, IsReachedAt}
use Rattle.energy_bound.specs.Schedules.{energy_spent, BoundsSchedules, CostsItsTicks}
use Rattle.energy_bound.specs.FirstPairs.{least_energy_of}

-- a full tick costs 18, 48 or 100, times 1000000000; 40 units in 16 ticks take 8 ticks at speed 2 and 8 at speed 3, which
-- cost 8 * 18 + 8 * 48; the price of a unit is 48 - 18 = 30, and that of a tick 18 - 2 * 30 = -42
two_speeds : least_energy_of three_speeds 40 16 ≡ Ok (record {
  rounds = 1;
  low = 2;
  low_ticks = 8;
  high = 3;
  high_ticks = 8;
  energy = 528000000000;
  unit_price = 30000000000;
  tick_minus = true;
  tick_price = 42000000000;
})
two_speeds = refl

-- 32 units in 16 ticks take speed 2 throughout; of the two pairs of corners that hold, idle with 2 and 2 with 3, the
-- answer is of the first; the price 0 of a tick has no minus
two_pairs : least_energy_of three_speeds 32 16 ≡ Ok (record {
  rounds = 2;
  low = 0;
  low_ticks = 0;
  high = 2;
  high_ticks = 32;
  energy = 576000000000;
  unit_price = 18000000000;
  tick_minus = false;
  tick_price = 0;
})
two_pairs = refl

-- 64 units in 16 ticks take speed 4 throughout; the price of a unit is 100 - 48 = 52, and that of a tick 48 - 3 * 52
all_units : least_energy_of three_speeds 64 16 ≡ Ok (record {
  rounds = 1;
  low = 3;
  low_ticks = 0;
  high = 4;
  high_ticks = 16;
  energy = 1600000000000;
  unit_price = 52000000000;
  tick_minus = true;
  tick_price = 108000000000;
})
all_units = refl

-- 65 units are more than speed 4 does in 16 ticks
one_more : least_energy_of three_speeds 65 16 ≡ Err (record { num = 65; cap = 64 })
one_more = refl

-- two speeds, and idle units that cost nothing: a unit costs 1 at the first and 4 at the second, times 1000000000
abbrev one_and_three : Table
one_and_three = record { points = entry_of 1 1000 ∷ entry_of 3 2000 ∷ []; idle = 0; charge = 0 }

abbrev choice : ℕ → ℕ → Choice
choice entry units = record { entry = entry; units = units }

-- a certificate for one repetition, at speed 3, with this energy
abbrev at_once : ℕ → Least
at_once energy = record {
  rounds = 1;
  low = 1;
  low_ticks = 0;
  high = 3;
  high_ticks = 1;
  energy = energy;
  unit_price = 0;
  tick_minus = false;
  tick_price = 0;
}

-- each choice of one tick that does 2 units costs 8, but two ticks that do 4 units may cost 13, so 8 is no bound
bound_of_one_repetition : BoundsChoices one_and_three 2 1 (at_once 8000000000) → ⊥
bound_of_one_repetition bounds =
    omega (arith, bounds 2 choices (All-from_recursion (IsChoice one_and_three) choices each) refl refl)
  where
    choices : List Choice
    choices = choice 0 1 ∷ choice 1 3 ∷ []

    each : IsChoice one_and_three (choice 0 1) × (IsChoice one_and_three (choice 1 3) × Unit {0})
    each = (
      record { entry = omega arith; units = omega arith },
      (record { entry = omega arith; units = omega arith }, tt),
    )

-- 3 units in a tick cost 12 at speed 3, so one more is no bound
one_above_a_choice : BoundsChoices one_and_three 3 1 (at_once 12000000001) → ⊥
one_above_a_choice bounds =
    omega (arith, bounds 1 choices (All-from_recursion (IsChoice one_and_three) choices each) refl refl)
  where
    choices : List Choice
    choices = choice 1 3 ∷ []

    each : IsChoice one_and_three (choice 1 3) × Unit {0}
    each = (record { entry = omega arith; units = omega arith }, tt)

-- one task on that machine, which needs 2 units in each tick
abbrev two_a_tick : Plan
two_a_tick = record { tasks = task_of (codes "a") 1 2 ∷ []; machine = one_and_three; scheduler = Edf }

-- the published demand is the highest speed
abbrev highest : PublishedDemand
highest past = record { num = 3; den = 1 }

abbrev one_tick : List Tick
one_tick = schedule_by two_a_tick (worst_demand two_a_tick) highest 1

-- its schedule of one tick runs 2 units at speed 3, which cost 8, so one more is no bound
one_above_a_schedule : BoundsSchedules one_and_three 2 1 (at_once 8000000001) → ⊥
unfolding schedule_by release due latest in_order notes_before_end
one_above_a_schedule bounds =
    let dem = worst_demand two_a_tick in
    let exists = schedule_exists two_a_tick dem highest 1 in
    let spent : energy_spent (notes_of two_a_tick dem highest one_tick) ≡ 8000000000 = refl in
    omega (arith, bounds two_a_tick dem highest one_tick refl exists.0 exists.1 refl, spent)

-- these units in these ticks are reached at speed 3, with this energy, at corners a and b
abbrev Reaches : ℕ → ℕ → ℕ → ℕ → ℕ → Type 0
Reaches units ticks energy a b = IsReachedAt one_and_three units ticks (at_once energy) a b

-- 3 units in a tick are, at corners 1 and 2: no other energy, units or ticks, nor another corner
reached : (Reaches 3 1 12000000001 1 2 → ⊥) × (Reaches 2 1 12000000000 1 2 → ⊥) × (Reaches 3 2 12000000000 1 2 → ⊥) × (Reaches 3 1 12000000000 0 2 → ⊥)
    × (Reaches 3 1 12000000000 3 2 → ⊥) × (Reaches 3 1 12000000000 1 1 → ⊥) × (Reaches 3 1 12000000000 1 3 → ⊥)
reached = (
  λ r. omega (arith, r.cost),
  λ r. omega (arith, r.all_units),
  λ r. omega (arith, r.all_ticks),
  λ r. omega (arith, r.low),
  λ r. omega (arith, r.low_corner),
  λ r. omega (arith, r.high),
  λ r. omega (arith, r.high_corner),
)

-- a tick with 2 units at speed 3 has this running segment, of these units and this energy
abbrev HasRun : ℕ → ℕ → Type 0
HasRun units energy = CostsItsTicks two_a_tick (record { entry = 1; shares = 2 ∷ [] } ∷ [])
    (Run (record { tick = 0; offset = 0 }) (record { tick = 0; offset = 2 }) 0 1 units energy ∷ [])

-- neither a unit less nor another energy than 8
cost_of_a_tick : (HasRun 1 8000000000 → ⊥) × (HasRun 2 8000000001 → ⊥)
cost_of_a_tick = (λ c. omega (arith, c.units), λ c. omega (arith, c.cost))
