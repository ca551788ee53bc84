-- The stream of numbers that a workload is drawn from.
use Rattle.std.specs.Prelude.{ℕ, zero, suc, ◌+◌, ◌*◌, ◌/◌, ◌%◌, ◌^◌}

-- the state that a seed begins with
abbrev pub first_state : ℕ → ℕ
first_state seed = seed % 2 ^ 31

-- the state after one more draw
abbrev pub next_state : ℕ → ℕ
next_state x = (1103515245 * x + 12345) % 2 ^ 31

-- the number from 0 to 32767 that is drawn with this state after it
abbrev pub draw_of : ℕ → ℕ
draw_of x = x / 65536

-- the state after n draws from state x
abbrev pub state_after : ℕ → ℕ → ℕ
state_after x zero = x
state_after x (suc n) = next_state (state_after x n)

-- draw n from state x, counted from 0
abbrev pub draw : ℕ → ℕ → ℕ
draw x n = draw_of (state_after x (suc n))
