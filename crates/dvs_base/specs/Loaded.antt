-- The loads that a shelf answered with bytes.
use Rattle.std.specs.Prelude.{ℕ, List}

-- a load that gave bytes: the name of the file, the room for its bytes, and the bytes
abbrev pub Load : Type 0
Load = List ℕ × ℕ × List ℕ
