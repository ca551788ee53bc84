-- The lines of a status.
use Rattle.std.specs.Prelude.{ℕ, List, codes, [], ◌∷◌, ◌++◌, ⊤}
use Rattle.statuses.specs.declared.status.Status.{Status}
use Rattle.statuses.specs.declared.status.Status.TheVariants as status
use Rattle.std.specs.Fmt.{decimal}
use Rattle.dvs_base.specs.Parts.{name_of, joined}
use Rattle.dvs_base.specs.FaultLines.{too_many_text}
use Rattle.dvs_base.specs.declared.limits.TheConstants.{MOST_JOBS}
use Rattle.dvs_base.specs.declared.note.Note.{Note}
use Rattle.trace_text.specs.TraceLines.{note_text}
use Rattle.task_model.specs.FaultLines.{task_fault_text}
use Rattle.freq_table.specs.FaultLines.{machine_fault_text}
use Rattle.words.specs.FaultLines.{word_fault_text}
use Rattle.trace_reader.specs.FaultLines.{trace_fault_text}
use Rattle.demand_list.specs.FaultLines.{demand_fault_text, over_worst_text}
use Rattle.request_list.specs.FaultLines.{request_fault_text}
use Rattle.deadline_list.specs.FaultLines.{deadline_fault_text}
use Rattle.statuses.specs.declared.status.FileKind.{FileKind}
use Rattle.statuses.specs.declared.status.FileKind.TheVariants as file
use Rattle.statuses.specs.declared.status.TextFault.{TextFault}
use Rattle.statuses.specs.declared.status.TextFault.TheVariants as text
use Rattle.statuses.specs.declared.status.Denied.{Denied}
use Rattle.statuses.specs.declared.status.Denied.TheVariants as denied

-- the word of a file
abbrev pub file_word : FileKind → List ℕ
file_word file.Tasks = codes "tasks"
file_word file.Machine = codes "machine"
file_word file.Demands = codes "demands"
file_word file.Trace = codes "trace"
file_word file.Deadlines = codes "deadlines"
file_word file.Requests = codes "requests"

-- the lines of a difference: its line, and the lines of the two notes
abbrev pub difference_text : List (List ℕ) → ℕ → Note → Note → List ℕ
difference_text names n wanted found =
    joined (codes "differs: line " ∷ decimal n ∷ codes "\n" ∷ [])
    ++ ((codes "wanted: " ++ note_text names wanted) ++ (codes "found: " ++ note_text names found))

-- the line of a refused file
abbrev pub text_fault_text : List (List ℕ) → TextFault → List ℕ
text_fault_text names (text.TooLong kind) = joined (file_word kind ∷ codes ": too long\n" ∷ [])
text_fault_text names (text.Tasks why) = task_fault_text why
text_fault_text names (text.Machine why) = machine_fault_text why
text_fault_text names (text.Demands why) = demand_fault_text names why
text_fault_text names (text.Trace why) = trace_fault_text why
text_fault_text names (text.Deadlines why) = deadline_fault_text names why
text_fault_text names (text.Requests why) = request_fault_text why
text_fault_text names (text.Server name) = joined (codes "tasks: no task " ∷ name ∷ codes "\n" ∷ [])

-- the line that says `what` of a task, with two numbers
abbrev pub numbers_text : List ℕ → List ℕ → ℕ → ℕ → List ℕ
numbers_text what name num cap =
    joined (what ∷ name ∷ codes " " ∷ decimal num ∷ codes " " ∷ decimal cap ∷ codes "\n" ∷ [])

-- the line of too much work due: the ticks, the work, and what the highest speed does in these ticks
abbrev pub demand_text : ℕ → ℕ → ℕ → List ℕ
demand_text ticks num cap =
    joined (
    codes "denied demand " ∷ decimal ticks ∷ codes " " ∷ decimal num ∷ codes " " ∷ decimal cap ∷ codes "\n" ∷ [])

-- the line of a denial
abbrev pub denied_text : List (List ℕ) → Denied → List ℕ
denied_text names (denied.Edf num cap) =
    joined (codes "denied edf " ∷ decimal num ∷ codes " " ∷ decimal cap ∷ codes "\n" ∷ [])
denied_text names (denied.Rm task num cap) = numbers_text (codes "denied rm ") (name_of names task) num cap
denied_text names (denied.Offset task) = joined (codes "denied offset " ∷ name_of names task ∷ codes "\n" ∷ [])
denied_text names (denied.Response task num cap) = numbers_text (codes "misses ") (name_of names task) num cap
denied_text names (denied.Demand at num cap) = demand_text at num cap
denied_text names (denied.Units num cap) =
    joined (codes "denied units " ∷ decimal num ∷ codes " " ∷ decimal cap ∷ codes "\n" ∷ [])

-- the line or the lines of a status; `Done` has none
abbrev pub status_text : List (List ℕ) → Status → List ℕ
status_text names status.Done = []
status_text names (status.NotAdmitted why) = denied_text names why
status_text names (status.Words why) = word_fault_text why
status_text names (status.Load kind) = joined (codes "load: " ∷ file_word kind ∷ codes "\n" ∷ [])
status_text names (status.Text why) = text_fault_text names why
status_text names (status.Limit jobs) = too_many_text (codes "limit") jobs (codes "jobs") MOST_JOBS
status_text names (status.OverWorst task job units worst) = over_worst_text (name_of names task) job units worst
status_text names (status.Differs n wanted found) = difference_text names n wanted found
status_text names status.Write = codes "write: out failed\n"
status_text names status.NoMemory = codes "no memory\n"

-- the status has at most one line
abbrev pub HasOneLine : Status → Type 0
HasOneLine (status.Differs n wanted found) = ⊥
HasOneLine s = ⊤
