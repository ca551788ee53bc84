-- The work of the jobs that some ticks can hold.
use Rattle.std.specs.Prelude.{ℕ, ◌*◌}
use Rattle.grid_fraction.specs.Numbers.{ceil_div}
use Rattle.sched_model.specs.Plan.{Plan, period, worst}

-- the work of the jobs of task j that t ticks can hold, each at its worst case
abbrev pub held_work : Plan → ℕ → ℕ → ℕ
held_work p t j = ceil_div t (period p j) * worst p j
