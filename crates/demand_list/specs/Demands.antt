-- A demand list: the declared worst cases, and the units of single jobs.
use Rattle.std.specs.Prelude.{◌≡◌, ℕ, ◌<◌, ◌≤◌, ◌^◌, ◌&&◌, ◌||◌, Bool, List, [], ◌∷◌, length, map, slice_index, unwrap_or, nat_eq, nat_lt, None, Some, if◌then◌else◌}
use Rattle.std.specs.List.{AllByRecursion}
use Rattle.task_model.specs.declared.task.Task.{Task}
use Rattle.task_model.specs.DemandRows.{DemandRow, named_units}

-- what contracts see of a demand list: the declared worst case of each task, and the rows
pub record DemandsView : Type 0 where
  pub worsts : List ℕ
  pub rows : List DemandRow

-- the list has the declared worst cases of these tasks
abbrev pub HasWorstsOf : List Task → DemandsView → Type 0
HasWorstsOf tasks d = d.worsts ≡ map (λ t. t.worst) tasks

-- the units of a job without the charge: its row's, otherwise the task's declared worst case
abbrev pub units_of : DemandsView → ℕ → ℕ → ℕ
units_of d i k = unwrap_or (named_units d.rows i k) (slice_index d.worsts i)

-- no row exceeds the worst case of its task
abbrev pub IsWithinWorsts : DemandsView → Type 0
IsWithinWorsts d = (i k : ℕ) → i < length d.worsts → units_of d i k ≤ slice_index d.worsts i

-- a row for a job of a task, with at most the task's worst case of units; jobs count from 1
pub record IsRow (worsts : List ℕ) (r : DemandRow) : Type 0 where
  pub task : r.task < length worsts
  pub job : 1 ≤ r.job
  pub units : r.units ≤ slice_index worsts r.task

-- a demand list: fewer than 2^32 tasks, and each row is for a job of one of them
pub record IsDemands (d : DemandsView) : Type 0 where
  pub few : length d.worsts < 2 ^ 32
  pub each : AllByRecursion (IsRow d.worsts) d.rows

-- the rows of a map from tasks and jobs to units
abbrev pub rows_of : List ((ℕ × ℕ) × ℕ) → List DemandRow
rows_of entries = map (λ e. record { task = e.0.0; job = e.0.1; units = e.1 }) entries

-- whether a row comes before another: by task, and then by job
abbrev pub precedes : DemandRow → DemandRow → Bool
precedes r s = nat_lt r.task s.task || (nat_eq r.task s.task && nat_lt r.job s.job)

-- the rows with one more, ascending by task and then by job
abbrev pub with_row : List DemandRow → DemandRow → List DemandRow
with_row [] r = r ∷ []
with_row (s ∷ rows) r = if precedes r s then r ∷ s ∷ rows else s ∷ with_row rows r

-- the list has one more row, for a job that had none; every other job keeps its units
pub record AddsRow (old new : DemandsView) (r : DemandRow) : Type 0 where
  pub worsts : new.worsts ≡ old.worsts
  pub free : named_units old.rows r.task r.job ≡ None
  pub row : named_units new.rows r.task r.job ≡ Some r.units
  pub others : (i k : ℕ) → ((i ≡ r.task) → (k ≡ r.job) → ⊥) → named_units new.rows i k ≡ named_units old.rows i k
