-- The lines of a refused deadline file.
use Rattle.std.specs.Prelude.{ℕ, List, [], ◌∷◌, codes}
use Rattle.dvs_base.specs.Parts.{name_of}
use Rattle.csv_text.specs.FaultLines.{row_text, fields_text, unknown_task_text, bad_number_text}
use Rattle.deadline_list.specs.declared.fault.DeadlineFault.{DeadlineFault}
use Rattle.deadline_list.specs.declared.fault.DeadlineFault.TheVariants as fault

-- the line of a deadline file's refusal, with the tasks' names
abbrev pub deadline_fault_text : List (List ℕ) → DeadlineFault → List ℕ
deadline_fault_text names fault.Header = codes "deadlines: wrong header\n"
deadline_fault_text names (fault.Fields row count) = fields_text (codes "deadlines") row count
deadline_fault_text names (fault.UnknownTask row word) = unknown_task_text (codes "deadlines") row word
deadline_fault_text names (fault.BadNumber row) = bad_number_text (codes "deadlines") row (codes "deadline")
deadline_fault_text names (fault.Range row) = row_text (codes "deadlines") row (codes "deadline out of range\n" ∷ [])
deadline_fault_text names (fault.Repeated row task) =
    row_text (codes "deadlines") row (codes "task " ∷ name_of names task ∷ codes " stands twice\n" ∷ [])
deadline_fault_text names fault.NoMemory = codes "no memory\n"
