-- The lines of a refused task file.
use Rattle.std.specs.Prelude.{ℕ, List, codes, [], ◌∷◌}
use Rattle.std.specs.Fmt.{decimal}
use Rattle.dvs_base.specs.Parts.{joined}
use Rattle.dvs_base.specs.FaultLines.{settings_text, too_many_text}
use Rattle.dvs_base.specs.declared.limits.TheConstants.{MOST_TASKS}
use Rattle.task_model.specs.declared.limits.TheConstants.{LONGEST_HYPERPERIOD}
use Rattle.task_model.specs.declared.fault.Field.{Field}
use Rattle.task_model.specs.declared.fault.Field.TheVariants as field
use Rattle.task_model.specs.declared.fault.TaskFault.{TaskFault}
use Rattle.task_model.specs.declared.fault.TaskFault.TheVariants as fault

-- the word of a task file's field
abbrev pub task_field_word : Field → List ℕ
task_field_word field.Task = codes "task"
task_field_word field.Entry = codes "entry"
task_field_word field.Name = codes "name"
task_field_word field.Period = codes "period"
task_field_word field.Worst = codes "worst"
task_field_word field.Offset = codes "offset"

-- the line of a refusal in a task file: place 0 is the document, and each other place is a task
abbrev pub at_task : ℕ → List ℕ → List ℕ → List ℕ
at_task = settings_text (codes "tasks") (codes "task")

-- the line of a task file's refusal
abbrev pub task_fault_text : TaskFault → List ℕ
task_fault_text fault.NotToml = codes "tasks: not TOML\n"
task_fault_text (fault.UnknownKey place key) = at_task place (codes "unknown key ") key
task_fault_text fault.NoTasks = codes "tasks: no tasks\n"
task_fault_text (fault.TooMany count) = too_many_text (codes "tasks") count (codes "tasks") MOST_TASKS
task_fault_text (fault.Missing place key) = at_task place (codes "missing ") (task_field_word key)
task_fault_text (fault.Kind place key) = at_task place (codes "wrong kind of ") (task_field_word key)
task_fault_text (fault.Range place key) = at_task place (task_field_word key) (codes " out of range")
task_fault_text (fault.BadName place) = joined (codes "tasks: task " ∷ decimal place ∷ codes ": bad name\n" ∷ [])
task_fault_text (fault.SameName first second) =
    joined (codes "tasks: tasks " ∷ decimal first ∷ codes " and " ∷ decimal second ∷ codes " have one name\n" ∷ [])
task_fault_text fault.Hyper =
    joined (codes "tasks: periods have no common multiple up to " ∷ decimal LONGEST_HYPERPERIOD ∷ codes "\n" ∷ [])
task_fault_text fault.NoMemory = codes "no memory\n"
