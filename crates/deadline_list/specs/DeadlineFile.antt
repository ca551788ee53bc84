-- The meaning of a deadline file: the relative deadline of each task, or the first refusal.
use Rattle.std.specs.Prelude.{◌≡◌, ℕ, ◌+◌, ◌<◌, ◌≤◌, ◌==◌, ◌||◌, nat_lt, List, [], ◌∷◌, length, codes, slice_set, Option, Some, None, ok_or, unwrap_or, Result, Ok, Err, if◌then◌else◌}
use Rattle.std.specs.List.{slice_index_or}
use Rattle.dvs_base.specs.Widths.{u64_end}
use Rattle.dvs_base.specs.Checks.{◌>>=◌, ◌>>◌, none_found}
use Rattle.dvs_base.specs.Text.{number_below, short_of}
use Rattle.dvs_base.specs.Parts.{two_of}
use Rattle.csv_text.specs.Rows.{TextReader, IsDefault, AreCountedFrom, text_rows}
use Rattle.grid_fraction.specs.Numbers.{list_below}
use Rattle.task_model.specs.declared.task.Task.{Task}
use Rattle.task_model.specs.Tasks.{task_at}
use Rattle.task_model.specs.TaskFile.{place_of}
use Rattle.deadline_list.specs.declared.fault.DeadlineFault.{DeadlineFault}
use Rattle.deadline_list.specs.declared.fault.DeadlineFault.TheVariants as fault

-- the deadline n of a row, from 1 to the period, or the refusal
abbrev pub deadline_from : ℕ → ℕ → ℕ → Result ℕ DeadlineFault
deadline_from row period n = if n == 0 || nat_lt period n then Err (fault.Range row) else Ok n

-- the task and the deadline of a row; each step that gives nothing is a refusal
abbrev pub deadline_of_row : List Task → ℕ → List (List ℕ) → Result (ℕ × ℕ) DeadlineFault
deadline_of_row tasks row fields = do
  two ← ok_or (two_of fields) (fault.Fields row (length fields))
  task ← ok_or (place_of tasks two.0) (fault.UnknownTask row (short_of two.0))
  number ← ok_or (number_below u64_end two.1) (fault.BadNumber row)
  deadline ← deadline_from row (task_at tasks task).period number
  Ok (task, deadline)

-- the deadline that the rows so far give task i, if any
abbrev pub given_to : List (Option ℕ) → ℕ → Option ℕ
given_to given i = slice_index_or given i None

-- the deadlines with one more row, or the refusal of a second row of its task
abbrev pub with_deadline : List (Option ℕ) → ℕ → ℕ → ℕ → Result (List (Option ℕ)) DeadlineFault
with_deadline given row task deadline = do
  none_found (λ earlier. fault.Repeated row task) (given_to given task)
  Ok (slice_set given task (Some deadline))

-- the deadlines of the rows so far with those of the remaining rows, the first of which has the number `row`
abbrev pub given_from : List Task → ℕ → List (Option ℕ) → List (List (List ℕ)) → Result (List (Option ℕ)) DeadlineFault
given_from tasks row given [] = Ok given
given_from tasks row given (fields ∷ rest) = do
  r ← deadline_of_row tasks row fields
  more ← with_deadline given row r.0 r.1
  given_from tasks (row + 1) more rest

-- the deadlines before the first row: none
abbrev pub none_given : List Task → List (Option ℕ)
none_given tasks = list_below (length tasks) (λ i. None)

-- the relative deadline of task i: its row's, or its period if it has no row
abbrev pub relative_deadline : List Task → List (Option ℕ) → ℕ → ℕ
relative_deadline tasks given i = unwrap_or (given_to given i) (task_at tasks i).period

-- the deadlines of all tasks, in their order
abbrev pub all_deadlines : List Task → List (Option ℕ) → List ℕ
all_deadlines tasks given = list_below (length tasks) (relative_deadline tasks given)

-- the fields of a deadline file's header
abbrev pub deadline_header : List (List ℕ)
deadline_header = codes "task" ∷ codes "deadline" ∷ []

-- the deadlines that the rows of a file give, counted from 1 after the header
abbrev pub given_in : List Task → List ℕ → Result (List (Option ℕ)) DeadlineFault
given_in tasks bytes = do
  rows ← ok_or (text_rows deadline_header bytes) fault.Header
  given_from tasks 1 (none_given tasks) rows

-- the meaning of a deadline file for these tasks
abbrev pub deadline_file : List Task → List ℕ → Result (List ℕ) DeadlineFault
deadline_file tasks bytes = do
  given ← given_in tasks bytes
  Ok (all_deadlines tasks given)

-- the reader has the default settings and can go on, and the row numbers of the records left, from `row` on, fit in 64 bits
pub record IsAtRow (row : ℕ) (reader : TextReader) : Type 0 where
  pub default_reader : IsDefault reader
  pub few : AreCountedFrom row reader

-- one place for each task, and each given deadline from 1 to the task's period
pub record AreGiven (tasks : List Task) (given : List (Option ℕ)) : Type 0 where
  pub one_each : length given ≡ length tasks
  pub some : (i n : ℕ) → i < length tasks → given_to given i ≡ Some n → 1 ≤ n
  pub within : (i n : ℕ) → i < length tasks → given_to given i ≡ Some n → n ≤ (task_at tasks i).period
