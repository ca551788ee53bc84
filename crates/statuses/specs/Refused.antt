-- A refusal as a status.
use Rattle.std.specs.Prelude.{Result, Ok, Err, ◌≡◌, ⊤}
use Rattle.task_model.specs.declared.fault.TaskFault.{TaskFault}
use Rattle.freq_table.specs.declared.fault.MachineFault.{MachineFault}
use Rattle.demand_list.specs.declared.fault.DemandFault.{DemandFault}
use Rattle.trace_reader.specs.declared.trace.TraceFault.{TraceFault}
use Rattle.deadline_list.specs.declared.fault.DeadlineFault.{DeadlineFault}
use Rattle.request_list.specs.declared.fault.RequestFault.{RequestFault}
use Rattle.statuses.specs.declared.status.TextFault.TheVariants as text
use Rattle.statuses.specs.declared.status.Status.{Status}
use Rattle.statuses.specs.declared.status.Status.TheVariants as status
use Rattle.statuses.specs.Status.{text_status, IsText}

-- the status refuses a file and shows its cause, or memory ran out
abbrev pub RefusesFile : Status → Type 0
RefusesFile (status.Text why) = IsText (text_status why)
RefusesFile status.NoMemory = ⊤
RefusesFile s = ⊥

-- the status is this one, and it refuses a file
pub record IsRefusedAs (own s : Status) : Type 0 where
  pub is : s ≡ own
  pub of_file : RefusesFile s

-- the value, or the refusal as a status
abbrev pub or_status : {A F : Type 0} → (F → Status) → Result A F → Result A Status
or_status status_of_refusal (Ok value) = Ok value
or_status status_of_refusal (Err why) = Err (status_of_refusal why)

-- a refusal of a task file as a status
abbrev pub task_status : TaskFault → Status
task_status why = text_status (text.Tasks why)

-- a refusal of a machine file as a status
abbrev pub machine_status : MachineFault → Status
machine_status why = text_status (text.Machine why)

-- a refusal of a demand file as a status
abbrev pub demand_status : DemandFault → Status
demand_status why = text_status (text.Demands why)

-- a refusal of a trace file as a status
abbrev pub trace_status : TraceFault → Status
trace_status why = text_status (text.Trace why)

-- a refusal of a deadline file as a status
abbrev pub deadline_status : DeadlineFault → Status
deadline_status why = text_status (text.Deadlines why)

-- a refusal of a request file as a status
abbrev pub request_status : RequestFault → Status
request_status why = text_status (text.Requests why)
