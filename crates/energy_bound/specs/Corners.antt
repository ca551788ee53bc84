-- The corners of a machine, and which two of them hold.
use Rattle.std.specs.Prelude.{◌≡◌, ◌⊎◌, ℕ, zero, suc, ◌+◌, ◌*◌, ◌-◌, ◌<◌, ◌≤◌, length}
use Rattle.freq_table.specs.Tables.{Table, speed_at}
use Rattle.energy_bound.specs.Choices.{Choice, choice_cost}

-- corner 0 is an idle tick at the first entry; the corners from 1 on are full ticks at the entries
abbrev pub corner : Table → ℕ → Choice
corner m zero = record { entry = 0; units = 0 }
corner m (suc e) = record { entry = e; units = speed_at m e }

-- the number of the last corner, a full tick at the highest entry
abbrev pub last_corner : Table → ℕ
last_corner m = length m.points

-- the units of corner k
abbrev pub corner_units : Table → ℕ → ℕ
corner_units m k = (corner m k).units

-- the cost of corner k
abbrev pub corner_cost : Table → ℕ → ℕ
corner_cost m k = choice_cost m (corner m k)

-- corner k has `units` units
abbrev pub HasUnits : Table → ℕ → ℕ → Type 0
HasUnits m units k = (k ≤ last_corner m) × (corner_units m k ≡ units)

-- the point (x, y) lies on or above the line through (p, c) and (q, d), where p ≤ q and c ≤ d
abbrev pub IsAbove : (p c q d x y : ℕ) → Type 0
IsAbove p c q d x y = (d - c) * x + c * q ≤ (q - p) * y + d * p

-- no corner lies below the line through corners a and b, by units and cost
abbrev pub IsSupporting : Table → ℕ → ℕ → Type 0
IsSupporting m a b =
    (k : ℕ) → k ≤ last_corner m
    → IsAbove (corner_units m a) (corner_cost m a) (corner_units m b) (corner_cost m b)
    (corner_units m k) (corner_cost m k)

-- a slower corner and a faster one hold for `units` units in `ticks` ticks: the units lie between what the two do in
-- these ticks, and no corner lies below the line through the two
pub record Holds (m : Table) (units ticks a b : ℕ) : Type 0 where
  pub slower : corner_units m a < corner_units m b
  pub low : a ≤ last_corner m
  pub high : b ≤ last_corner m
  pub enough : ticks * corner_units m a ≤ units
  pub within : units ≤ ticks * corner_units m b
  pub supporting : IsSupporting m a b

-- corner b is the first that holds with corner a
pub record IsFirstPartner (m : Table) (units ticks a b : ℕ) : Type 0 where
  pub holds : Holds m units ticks a b
  pub first : (c : ℕ) → c < b → Holds m units ticks a c → ⊥

-- no corner holds with corner a
abbrev pub HasNoPartner : Table → ℕ → ℕ → ℕ → Type 0
HasNoPartner m units ticks a = (b : ℕ) → Holds m units ticks a b → ⊥

-- of two pairs of corners, (a, b) has the slower low corner, or an equally fast one and no faster high corner
abbrev pub IsNoLater : Table → ℕ → ℕ → ℕ → ℕ → Type 0
IsNoLater m a b c d =
    (corner_units m a < corner_units m c)
    ⊎ ((corner_units m a ≡ corner_units m c) × (corner_units m b ≤ corner_units m d))

-- the pair that holds with the least speed of the low corner, and then the least of the high one
pub record IsFirstPair (m : Table) (units ticks a b : ℕ) : Type 0 where
  pub holds : Holds m units ticks a b
  pub first : (c d : ℕ) → Holds m units ticks c d → IsNoLater m a b c d
