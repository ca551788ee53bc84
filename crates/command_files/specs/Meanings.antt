-- What a command's files mean.
use Rattle.std.specs.Prelude.{ℕ, List, length, nat_lt, Option, Some, None, Result, Ok, Err, if◌then◌else◌}
use Rattle.dvs_base.specs.Checks.{◌>>=◌}
use Rattle.dvs_base.specs.Outside.{Files, file_of}
use Rattle.dvs_base.specs.Text.{short_of}
use Rattle.task_model.specs.declared.task.Task.{Task}
use Rattle.task_model.specs.TaskFile.{task_file, place_of}
use Rattle.freq_table.specs.Tables.{Table}
use Rattle.freq_table.specs.MachineFile.{machine_file}
use Rattle.demand_list.specs.Demands.{DemandsView}
use Rattle.demand_list.specs.DemandFile.{demand_file, worst_list}
use Rattle.dvs_base.specs.declared.limits.TheConstants.{LONGEST_FILE, LONGEST_TRACE}
use Rattle.statuses.specs.declared.status.FileKind.{FileKind}
use Rattle.statuses.specs.declared.status.FileKind.TheVariants as file
use Rattle.statuses.specs.declared.status.TextFault.TheVariants as text
use Rattle.statuses.specs.declared.status.Status.{Status}
use Rattle.statuses.specs.declared.status.Status.TheVariants as status
use Rattle.statuses.specs.Refused.{or_status, task_status, machine_status, demand_status}

-- the longest file of a kind that is read, in bytes
abbrev pub longest : FileKind → ℕ
longest file.Tasks = LONGEST_FILE
longest file.Machine = LONGEST_FILE
longest file.Demands = LONGEST_FILE
longest file.Trace = LONGEST_TRACE
longest file.Deadlines = LONGEST_FILE
longest file.Requests = LONGEST_FILE

-- the bytes of a file, if the shelf holds it and it is not too long
abbrev pub bytes_from : FileKind → Option (List ℕ) → Result (List ℕ) Status
bytes_from kind None = Err (status.Load kind)
bytes_from kind (Some bytes) = if nat_lt (longest kind) (length bytes) then Err (status.Text (text.TooLong kind)) else Ok bytes

-- the bytes of a named file
abbrev pub bytes_at : FileKind → List ℕ → Files → Result (List ℕ) Status
bytes_at kind name files = bytes_from kind (file_of files name)

-- the tasks of a named file
abbrev pub tasks_at : List ℕ → Files → Result (List Task) Status
tasks_at name files = do
  bytes ← bytes_at file.Tasks name files
  or_status task_status (task_file bytes)

-- the machine of a named file
abbrev pub machine_at : List ℕ → Files → Result Table Status
machine_at name files = do
  bytes ← bytes_at file.Machine name files
  or_status machine_status (machine_file bytes)

-- the demands of a file; if none is named, every job needs its worst case
abbrev pub demands_at : List Task → Option (List ℕ) → Files → Result DemandsView Status
demands_at tasks None files = Ok (worst_list tasks)
demands_at tasks (Some name) files = do
  bytes ← bytes_at file.Demands name files
  or_status demand_status (demand_file tasks bytes)

-- the place of the server, if a task has its name
abbrev pub server_from : List ℕ → Option ℕ → Result ℕ Status
server_from name None = Err (status.Text (text.Server (short_of name)))
server_from name (Some i) = Ok i

-- the place of the task of this name
abbrev pub server_at : List ℕ → List Task → Result ℕ Status
server_at name tasks = server_from name (place_of tasks name)
