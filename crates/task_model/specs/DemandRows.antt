-- The rows of a demand list: the units that single jobs really need.
use Rattle.std.specs.Prelude.{ℕ, ◌&&◌, nat_eq, List, [], ◌∷◌, Option, Some, None, if◌then◌else◌}

-- one line of a demand list: the units of job k of task i
pub record DemandRow : Type 0 where
  pub task : ℕ
  pub job : ℕ
  pub units : ℕ

-- the row that names `units` for job `job` of task `task`
abbrev pub demand_row : ℕ → ℕ → ℕ → DemandRow
demand_row task job units = record { task = task; job = job; units = units }

-- the units that a demand list names for job k of task i: those of the first row with that job
abbrev pub named_units : List DemandRow → ℕ → ℕ → Option ℕ
named_units [] i k = None
named_units (r ∷ rows) i k = if nat_eq r.task i && nat_eq r.job k then Some r.units else named_units rows i k
