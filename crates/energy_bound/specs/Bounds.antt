-- What a certificate of least energy bounds, and how the bound is reached.
use Rattle.std.specs.Prelude.{◌≡◌, ℕ, ◌+◌, ◌*◌, ◌≤◌, List, ◌++◌, length, replicate, if◌then◌else◌}
use Rattle.freq_table.specs.Tables.{Table}
use Rattle.energy_bound.specs.declared.least.Least.{Least}
use Rattle.energy_bound.specs.Choices.{Choice, IsChoice, AreChoices, choice_cost, total_units, total_cost}
use Rattle.energy_bound.specs.Corners.{corner, corner_units, last_corner}

-- every choice for n times the ticks and n times the units costs, times `rounds`, at least n times the energy
abbrev pub BoundsChoices : Table → ℕ → ℕ → Least → Type 0
BoundsChoices m units ticks l =
    (n : ℕ) (xs : List Choice) → AreChoices m xs → length xs ≡ n * ticks → total_units xs ≡ n * units
    → n * l.energy ≤ l.rounds * total_cost m xs

-- the choice of the low ticks at corner a, and then the high ticks at corner b
abbrev pub mix_of : Table → Least → ℕ → ℕ → List Choice
mix_of m l a b = replicate l.low_ticks (corner m a) ++ replicate l.high_ticks (corner m b)

-- the choice at corners a and b, with the low and the high speed, does the units in the ticks, `rounds` times each,
-- and costs the energy
pub record IsReachedAt (m : Table) (units ticks : ℕ) (l : Least) (a b : ℕ) : Type 0 where
  pub low_corner : a ≤ last_corner m
  pub low : corner_units m a ≡ l.low
  pub high_corner : b ≤ last_corner m
  pub high : corner_units m b ≡ l.high
  pub choices : AreChoices m (mix_of m l a b)
  pub all_ticks : length (mix_of m l a b) ≡ l.rounds * ticks
  pub all_units : total_units (mix_of m l a b) ≡ l.rounds * units
  pub cost : total_cost m (mix_of m l a b) ≡ l.energy

-- the bound is reached over `rounds` repetitions, which are at least one
pub record IsReached (m : Table) (units ticks : ℕ) (l : Least) : Type 0 where
  pub some : 1 ≤ l.rounds
  pub low : ℕ
  pub high : ℕ
  pub reached : IsReachedAt m units ticks l low high

-- the part of a tick's price that is paid for it: the price, and 0 if it is below 0
abbrev pub tick_due : Least → ℕ
tick_due l = if l.tick_minus then 0 else l.tick_price

-- the part of a tick's price that is given back: the price if it is below 0, otherwise 0
abbrev pub tick_refund : Least → ℕ
tick_refund l = if l.tick_minus then l.tick_price else 0

-- at the prices of a unit and of a tick, each tick of a choice costs, times `rounds`, at least its units and itself;
-- and the energy is the price of all units and ticks
pub record HavePrices (m : Table) (units ticks : ℕ) (l : Least) : Type 0 where
  pub each : (x : Choice) → IsChoice m x
      → l.unit_price * x.units + tick_due l ≤ l.rounds * choice_cost m x + tick_refund l
  pub all : l.energy + tick_refund l * ticks ≡ l.unit_price * units + tick_due l * ticks
