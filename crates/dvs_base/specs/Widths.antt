-- What the types of numbers hold.
use Rattle.std.specs.Prelude.{ℕ, ◌^◌}

-- the first number above `u64::MAX`: a u64 holds the numbers below it
abbrev pub u64_end : ℕ
u64_end = 2 ^ 64
