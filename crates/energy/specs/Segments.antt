-- The energy of a segment.
use Rattle.std.specs.Prelude.{ℕ, ◌*◌, Bool, if◌then◌else◌}
use Rattle.freq_table.specs.Tables.{Table, point_at}

-- what a unit costs, in thousandths: 1000 if a job runs, and the machine's idle share if none does
abbrev pub thousandths : Table → Bool → ℕ
thousandths m idle = if idle then m.idle else 1000

-- the energy of a segment of `units` units at an entry: each costs the square of the millivolts times its thousandths
abbrev pub segment_energy : Table → ℕ → ℕ → Bool → ℕ
segment_energy m e units idle = let mv = (point_at m e).millivolts in units * mv * mv * thousandths m idle
