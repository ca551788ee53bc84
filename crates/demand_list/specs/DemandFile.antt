-- The meaning of a demand file: the demand list, or the first refusal.
use Rattle.std.specs.Prelude.{ℕ, ◌+◌, ◌==◌, List, [], ◌∷◌, length, map, nat_lt, slice_index, codes, ok_or, ⊤, Result, Ok, Err, if◌then◌else◌}
use Rattle.dvs_base.specs.Widths.{u64_end}
use Rattle.dvs_base.specs.Checks.{◌>>=◌, ◌>>◌, none_found, IsUnlessMemory}
use Rattle.dvs_base.specs.Text.{number_below, short_of}
use Rattle.dvs_base.specs.Parts.{three_of}
use Rattle.csv_text.specs.Rows.{text_rows}
use Rattle.task_model.specs.declared.task.Task.{Task}
use Rattle.task_model.specs.DemandRows.{demand_row, named_units}
use Rattle.task_model.specs.TaskFile.{place_of}
use Rattle.demand_list.specs.Demands.{DemandsView, with_row}
use Rattle.demand_list.specs.declared.fault.Column.TheVariants as column
use Rattle.demand_list.specs.declared.fault.DemandFault.{DemandFault}
use Rattle.demand_list.specs.declared.fault.DemandFault.TheVariants as fault

-- the result, its value seen through `shown`, is the meaning, unless memory ran out
abbrev pub MeansDemands : {T A : Type 0} → (T → A) → Result T DemandFault → Result A DemandFault → Type 0
MeansDemands shown = IsUnlessMemory fault.NoMemory shown

-- the number of a job, which is refused if it is 0
abbrev pub job_from : ℕ → ℕ → Result ℕ DemandFault
job_from row job = if job == 0 then Err (fault.JobZero row) else Ok job

-- the task, the job and the units of a row, or its first refusal, checked without the rows before it
abbrev pub demand_of_row : List Task → ℕ → List (List ℕ) → Result (ℕ × ℕ × ℕ) DemandFault
demand_of_row tasks row fields = do
  three ← ok_or (three_of fields) (fault.Fields row (length fields))
  task ← ok_or (place_of tasks three.0) (fault.UnknownTask row (short_of three.0))
  number ← ok_or (number_below u64_end three.1) (fault.BadNumber row column.Job)
  job ← job_from row number
  units ← ok_or (number_below u64_end three.2) (fault.BadNumber row column.Units)
  Ok (task, job, units)

-- the check against the declared worst case, which refuses units above it
abbrev pub within_worst : ℕ → ℕ → ℕ → ℕ → Result ⊤ DemandFault
within_worst task job units worst = if nat_lt worst units then Err (fault.OverWorst task job units worst) else Ok tt

-- the list with one more row, after the checks that need the list
abbrev pub with_checked : DemandsView → ℕ → ℕ → ℕ → ℕ → Result DemandsView DemandFault
with_checked d row task job units = do
  none_found (λ earlier. fault.Repeated row task job) (named_units d.rows task job)
  within_worst task job units (slice_index d.worsts task)
  Ok (record { worsts = d.worsts; rows = with_row d.rows (demand_row task job units) })

-- the list so far with the rows from number `row` on, or the first refusal
abbrev pub demands_from : List Task → ℕ → DemandsView → List (List (List ℕ)) → Result DemandsView DemandFault
demands_from tasks row d [] = Ok d
demands_from tasks row d (fields ∷ rest) = do
  r ← demand_of_row tasks row fields
  more ← with_checked d row r.0 r.1 r.2
  demands_from tasks (row + 1) more rest

-- the list without rows, in which every job needs its declared worst case
abbrev pub worst_list : List Task → DemandsView
worst_list tasks = record { worsts = map (λ t. t.worst) tasks; rows = [] }

-- the fields of a demand file's header
abbrev pub demand_header : List (List ℕ)
demand_header = codes "task" ∷ codes "job" ∷ codes "units" ∷ []

-- the meaning of a demand file's bytes for these tasks: its header first, and then its rows, counted from 1
abbrev pub demand_file : List Task → List ℕ → Result DemandsView DemandFault
demand_file tasks bytes = do
  rows ← ok_or (text_rows demand_header bytes) fault.Header
  demands_from tasks 1 (worst_list tasks) rows
