-- The answer as a function of the machine, the units and the ticks: the pairs of corners are tried in their order.
use Rattle.std.specs.Prelude.{ℕ, ◌+◌, ◌*◌, ◌-◌, Bool, ◌&&◌, nat_lt, nat_le, if◌then◌else◌, Result, Ok, Err}
use Rattle.grid_fraction.specs.Numbers.{all_below, any_below, first_from}
use Rattle.freq_table.specs.Tables.{Table, highest_speed}
use Rattle.energy_bound.specs.declared.least.Least.{Least}
use Rattle.energy_bound.specs.declared.least.Over.{Over}
use Rattle.energy_bound.specs.Corners.{corner_units, corner_cost, last_corner}
use Rattle.energy_bound.specs.Certificates.{least_of}

-- how many corners a machine has
abbrev pub corner_count : Table → ℕ
corner_count m = last_corner m + 1

-- whether the point (x, y) lies on or above the line through (p, c) and (q, d), where p ≤ q and c ≤ d
abbrev pub is_above : (p c q d x y : ℕ) → Bool
is_above p c q d x y = nat_le ((d - c) * x + c * q) ((q - p) * y + d * p)

-- whether no corner lies below the line through corners a and b
abbrev pub is_supporting : Table → ℕ → ℕ → Bool
is_supporting m a b =
    all_below (corner_count m) (λ k.
    is_above (corner_units m a) (corner_cost m a) (corner_units m b) (corner_cost m b)
    (corner_units m k) (corner_cost m k))

-- whether corners a and b hold for `units` units in `ticks` ticks
abbrev pub is_holding : Table → ℕ → ℕ → ℕ → ℕ → Bool
is_holding m units ticks a b =
    nat_lt (corner_units m a) (corner_units m b)
    && (nat_le (ticks * corner_units m a) units
    && (nat_le units (ticks * corner_units m b) && is_supporting m a b))

-- the first corner that holds with corner a, and one past the last if none does
abbrev pub high_corner : Table → ℕ → ℕ → ℕ → ℕ
high_corner m units ticks a = first_from (corner_count m) 0 (is_holding m units ticks a)

-- the first corner with which some corner holds, and one past the last if none does
abbrev pub low_corner : Table → ℕ → ℕ → ℕ
low_corner m units ticks =
    first_from (corner_count m) 0 (λ a. any_below (corner_count m) (is_holding m units ticks a))

-- the least energy for `units` units in `ticks` ticks: the certificate of the first two corners that hold, unless the
-- units are more than the highest speed does in the ticks
abbrev pub least_energy_of : Table → ℕ → ℕ → Result Least Over
least_energy_of m units ticks =
    let cap = ticks * highest_speed m in
    let a = low_corner m units ticks in
    if nat_lt cap units then Err (record { num = units; cap = cap })
    else Ok (least_of m units ticks a (high_corner m units ticks a))
