-- Statuses, their exit statuses, and what they show.
use Rattle.std.specs.Prelude.{◌≤◌, ◌≡◌, ℕ, Bool, true, ⊤, ◌<◌, ◌≢◌, false}
use Rattle.statuses.specs.declared.status.Status.{Status}
use Rattle.statuses.specs.declared.status.Status.TheVariants as status
use Rattle.dvs_base.specs.declared.limits.TheConstants.{MOST_JOBS}
use Rattle.statuses.specs.declared.status.FileKind.{FileKind}
use Rattle.statuses.specs.declared.status.TextFault.{TextFault}
use Rattle.statuses.specs.declared.status.TextFault.TheVariants as text
use Rattle.statuses.specs.declared.status.Denied.{Denied}
use Rattle.statuses.specs.declared.status.Denied.TheVariants as denied
use Rattle.task_model.specs.declared.fault.TaskFault.TheVariants as task_fault
use Rattle.freq_table.specs.declared.fault.MachineFault.TheVariants as machine_fault
use Rattle.demand_list.specs.declared.fault.DemandFault.TheVariants as demand_fault
use Rattle.trace_reader.specs.declared.trace.TraceFault.TheVariants as trace_fault
use Rattle.deadline_list.specs.declared.fault.DeadlineFault.TheVariants as deadline_fault
use Rattle.request_list.specs.declared.fault.RequestFault.TheVariants as request_fault
use Rattle.dvs_base.specs.Outside.{Rose}

-- the exit status of the program
abbrev pub code_of : Status → ℕ
code_of status.Done = 0
code_of (status.NotAdmitted denied) = 1
code_of (status.Words why) = 2
code_of (status.Load file) = 3
code_of (status.Text why) = 4
code_of (status.Limit jobs) = 5
code_of (status.OverWorst task job units worst) = 6
code_of (status.Differs line wanted found) = 7
code_of status.Write = 8
code_of status.NoMemory = 9

-- if the status is `Load`, this holds of its kind
abbrev pub OfLoad : (FileKind → Type 0) → Status → Type 0
OfLoad Holds (status.Load kind) = Holds kind
OfLoad Holds s = ⊤

-- a shelf's count of failed loads stays, unless the status says that a load failed
abbrev pub CountsLoads : ℕ → ℕ → Status → Type 0
CountsLoads before now (status.Load kind) = ⊤
CountsLoads before now s = now ≡ before

-- a sink's count of failed puts never falls, rises if the status is `Write`, and otherwise stays
abbrev pub CountsPuts : ℕ → ℕ → Status → Type 0
CountsPuts before now status.Write = Rose before now × (before ≤ now)
CountsPuts before now s = now ≡ before

-- a file wasn't loaded or is refused, or memory ran out: the status says nothing of a test
abbrev pub IsOfFile : Status → Type 0
IsOfFile (status.Load kind) = ⊤
IsOfFile (status.Text why) = ⊤
IsOfFile status.NoMemory = ⊤
IsOfFile s = ⊥

-- the work asked for exceeds what the highest speed does; an offset shows nothing of it
abbrev pub IsShownDenial : Denied → Type 0
IsShownDenial (denied.Edf num cap) = cap < num
IsShownDenial (denied.Rm task num cap) = cap < num
IsShownDenial (denied.Offset task) = ⊤
IsShownDenial (denied.Response task num cap) = cap < num
IsShownDenial (denied.Demand at num cap) = cap < num
IsShownDenial (denied.Units num cap) = cap < num

-- a refusal of a file as a status: `NoMemory`, and a demand over its worst case, are statuses of their own
abbrev pub text_status : TextFault → Status
text_status (text.Tasks task_fault.NoMemory) = status.NoMemory
text_status (text.Machine machine_fault.NoMemory) = status.NoMemory
text_status (text.Demands demand_fault.NoMemory) = status.NoMemory
text_status (text.Demands (demand_fault.OverWorst task job units worst)) = status.OverWorst task job units worst
text_status (text.Trace trace_fault.NoMemory) = status.NoMemory
text_status (text.Deadlines deadline_fault.NoMemory) = status.NoMemory
text_status (text.Requests request_fault.NoMemory) = status.NoMemory
text_status why = status.Text why

-- the status is the refusal of a file
abbrev pub IsText : Status → Type 0
IsText (status.Text why) = ⊤
IsText s = ⊥

-- the numbers and the notes of a status show its cause; a refusal of a file is none that is a status of its own
abbrev pub IsShown : Status → Type 0
IsShown (status.NotAdmitted why) = IsShownDenial why
IsShown (status.Limit jobs) = MOST_JOBS < jobs
IsShown (status.OverWorst task job units worst) = worst < units
IsShown (status.Differs line wanted found) = wanted ≢ found
IsShown (status.Text why) = IsText (text_status why)
IsShown s = ⊤

-- every status but `Done` and `Write` leaves a thing as it was
abbrev pub Leaves : {W : Type 0} → Status → W → W → Type 0
Leaves status.Done old new = ⊤
Leaves status.Write old new = ⊤
Leaves s old new = new ≡ old

-- if no probes are asked for their list is as before; otherwise every status but `Done` and `Write` leaves it as it was
abbrev pub LeavesProbes : {V : Type 0} → Bool → Status → V → V → Type 0
LeavesProbes true s old new = Leaves s old new
LeavesProbes false s old new = new ≡ old
