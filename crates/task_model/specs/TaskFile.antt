-- What a task file means: the tasks, or the first refusal.
use Rattle.std.specs.Prelude.{ℕ, List, [], ◌∷◌, codes, Option, Some, None, Result, Err, Ok, if◌then◌else◌, position, ◌+◌, ◌++◌, length, nat_le, nat_lt}
use Rattle.std.specs.Str.{bytes_eq}
use Rattle.dvs_base.specs.Text.{short_of, is_name}
use Rattle.toml.specs.Data.{Data, Members, get_member, as_table, Items, no_items, item, as_array}
use Rattle.dvs_base.specs.declared.settings.MemberFault.{MemberFault}
use Rattle.dvs_base.specs.declared.settings.MemberFault.TheVariants as member_fault
use Rattle.dvs_base.specs.Checks.{◌>>=◌, ◌>>◌, none_found, or_refusal}
use Rattle.dvs_base.specs.Settings.{text_at, unknown_key, number_at, number_or_zero, count_of, document_of}
use Rattle.dvs_base.specs.declared.limits.TheConstants.{MOST_TASKS}
use Rattle.task_model.specs.declared.limits.TheConstants.{LATEST_OFFSET, LONGEST_PERIOD, MOST_WORK, LONGEST_HYPERPERIOD}
use Rattle.task_model.specs.declared.task.Task.{Task}
use Rattle.task_model.specs.declared.fault.Field.{Field}
use Rattle.task_model.specs.declared.fault.Field.TheVariants as field
use Rattle.task_model.specs.declared.fault.TaskFault.{TaskFault}
use Rattle.task_model.specs.declared.fault.TaskFault.TheVariants as fault
use Rattle.task_model.specs.Tasks.{hyper_of}

-- the known keys of the document
abbrev pub task_file_keys : List (List ℕ)
task_file_keys = codes "task" ∷ []

-- the known keys of a task
abbrev pub task_keys : List (List ℕ)
task_keys = codes "name" ∷ codes "period" ∷ codes "worst" ∷ codes "offset" ∷ []

-- the refusal of an unknown key in the table at this place
abbrev pub unknown_task_key : ℕ → List ℕ → TaskFault
unknown_task_key place key = fault.UnknownKey place (short_of key)

-- the refusal for an error at a key of the task at this place
abbrev pub task_fault_at : ℕ → Field → MemberFault → TaskFault
task_fault_at place field member_fault.Missing = fault.Missing place field
task_fault_at place field member_fault.Kind = fault.Kind place field
task_fault_at place field member_fault.Range = fault.Range place field

-- the text as the name of the task at this place, or the refusal if it is not a name
abbrev pub checked_name : ℕ → List ℕ → Result (List ℕ) TaskFault
checked_name place text = if is_name text then Ok text else Err (fault.BadName place)

-- the name of the task at this place, of the value at its key `name`
abbrev pub name_at : ℕ → Option Data → Result (List ℕ) TaskFault
name_at place value = do
  text ← or_refusal (task_fault_at place field.Name) (text_at value)
  checked_name place text

-- the task of the table at this place: its unknown keys, its name, period, worst case and offset, in this order
abbrev pub task_of_members : ℕ → Members → Result Task TaskFault
task_of_members place ms = do
  none_found (unknown_task_key place) (unknown_key task_keys ms)
  name ← name_at place (get_member (codes "name") ms)
  period ← or_refusal (task_fault_at place field.Period) (number_at 1 LONGEST_PERIOD (get_member (codes "period") ms))
  worst ← or_refusal (task_fault_at place field.Worst) (number_at 1 MOST_WORK (get_member (codes "worst") ms))
  offset ← or_refusal (task_fault_at place field.Offset) (number_or_zero LATEST_OFFSET (get_member (codes "offset") ms))
  Ok record { name = name; period = period; worst = worst; offset = offset }

-- the task at this place, of an entry that is a table; another entry is refused
abbrev pub task_of_table : ℕ → Option Members → Result Task TaskFault
task_of_table place None = Err (fault.Kind place field.Entry)
task_of_table place (Some ms) = task_of_members place ms

-- the task at this place, of any entry of the array
abbrev pub task_of : ℕ → Data → Result Task TaskFault
task_of place value = task_of_table place (as_table value)

-- the place of the first task with this name, counted from 0
abbrev pub place_of : List Task → List ℕ → Option ℕ
place_of tasks name = position (λ t. bytes_eq t.name name) tasks

-- the tasks before, with those of the entries after them, or the first refusal
abbrev pub tasks_from : List Task → Items → Result (List Task) TaskFault
tasks_from tasks no_items = Ok tasks
tasks_from tasks (item value rest) = do
  task ← task_of (length tasks + 1) value
  none_found (λ first. fault.SameName (first + 1) (length tasks + 1)) (place_of tasks task.name)
  tasks_from (tasks ++ task ∷ []) rest

-- the check that the least common multiple of the periods is within its limit
abbrev pub within_hyper : List Task → Result (List Task) TaskFault
within_hyper tasks = if nat_le (hyper_of tasks) LONGEST_HYPERPERIOD then Ok tasks else Err fault.Hyper

-- the tasks of a value that is an array, or the refusal of a value that is not
abbrev pub tasks_of_array : Option Items → Result (List Task) TaskFault
tasks_of_array None = Err (fault.Kind 0 field.Task)
tasks_of_array (Some no_items) = Err fault.NoTasks
tasks_of_array (Some (item value rest)) =
    if nat_lt MOST_TASKS (count_of (item value rest)) then Err (fault.TooMany (count_of (item value rest)))
    else (tasks_from [] (item value rest) >>= within_hyper)

-- the tasks of the value at the document's key `task`
abbrev pub entries_at : Option Data → Result (List Task) TaskFault
entries_at None = Err fault.NoTasks
entries_at (Some value) = tasks_of_array (as_array value)

-- the tasks of a document: its unknown keys first, and then its array
abbrev pub tasks_of_document : Option Members → Result (List Task) TaskFault
tasks_of_document None = Err fault.NotToml
tasks_of_document (Some ms) = do
  none_found (unknown_task_key 0) (unknown_key task_file_keys ms)
  entries_at (get_member (codes "task") ms)

-- the meaning of a task file's bytes: the tasks, or the first refusal
abbrev pub task_file : List ℕ → Result (List Task) TaskFault
task_file bytes = tasks_of_document (document_of bytes)
