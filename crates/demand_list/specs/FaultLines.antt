-- The lines of a refused demand file.
use Rattle.std.specs.Prelude.{ℕ, List, [], ◌∷◌, codes}
use Rattle.std.specs.Fmt.{decimal}
use Rattle.dvs_base.specs.Parts.{joined, name_of}
use Rattle.csv_text.specs.FaultLines.{row_text, fields_text, unknown_task_text, bad_number_text}
use Rattle.demand_list.specs.declared.fault.Column.{Column}
use Rattle.demand_list.specs.declared.fault.Column.TheVariants as column
use Rattle.demand_list.specs.declared.fault.DemandFault.{DemandFault}
use Rattle.demand_list.specs.declared.fault.DemandFault.TheVariants as fault

-- the word of a demand file's column
abbrev pub column_word : Column → List ℕ
column_word column.Job = codes "job"
column_word column.Units = codes "units"

-- the line of a demand over its worst case: the task's name, the job, its units and the declared worst case
abbrev pub over_worst_text : List ℕ → ℕ → ℕ → ℕ → List ℕ
over_worst_text name job units worst =
    joined (
    codes "over worst: " ∷ name ∷ codes " " ∷ decimal job ∷ codes " " ∷ decimal units
    ∷ codes " " ∷ decimal worst ∷ codes "\n" ∷ [])

-- the line of a demand file's refusal, with the tasks' names
abbrev pub demand_fault_text : List (List ℕ) → DemandFault → List ℕ
demand_fault_text names fault.Header = codes "demands: wrong header\n"
demand_fault_text names (fault.Fields row count) = fields_text (codes "demands") row count
demand_fault_text names (fault.UnknownTask row word) = unknown_task_text (codes "demands") row word
demand_fault_text names (fault.BadNumber row at) = bad_number_text (codes "demands") row (column_word at)
demand_fault_text names (fault.JobZero row) = row_text (codes "demands") row (codes "job 0\n" ∷ [])
demand_fault_text names (fault.Repeated row task job) =
    row_text (codes "demands") row
    (codes "task " ∷ name_of names task ∷ codes " job " ∷ decimal job ∷ codes " stands twice\n" ∷ [])
demand_fault_text names (fault.OverWorst task job units worst) = over_worst_text (name_of names task) job units worst
demand_fault_text names fault.NoMemory = codes "no memory\n"
