-- Positions that are in time for a tick.
use Rattle.std.specs.Prelude.{◌≡◌, ◌⊎◌, ℕ, ◌<◌}
use Rattle.dvs_base.specs.declared.note.Pos.{Pos}

-- the position is not after the beginning of tick t
abbrev pub IsBy : ℕ → Pos → Type 0
IsBy t at_end = (at_end.tick < t) ⊎ ((at_end.tick ≡ t) × (at_end.offset ≡ 0))
