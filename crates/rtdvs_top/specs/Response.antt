-- The answer of `response`, and what it proves (Joseph and Pandya 1986).
use Rattle.std.specs.Prelude.{◌≡◌, false, List, Ok, ⊤, ◌⊎◌, ℕ, Result, [], ◌∷◌, slice_index, codes, decimal, length}
use Rattle.dvs_base.specs.Outside.{Files}
use Rattle.dvs_base.specs.declared.kind.Scheduler.TheVariants.{Rm}
use Rattle.task_model.specs.declared.task.Task.{Task}
use Rattle.freq_table.specs.Tables.{Table}
use Rattle.sched_model.specs.Plan.{Plan, count, offset, period, plan_of}
use Rattle.task_model.specs.Tasks.{NoneOffset, IsFirstOffset, task_at}
use Rattle.rm_response_laws.specs.Responses.{AllRespond, MeetsAllDeadlines, is_first_done}
use Rattle.rm_response.specs.Denials.{responses, AreLeast, IsFirstMiss, exact_answer}
use Rattle.words.specs.Commands.{ResponseView}
use Rattle.statuses.specs.declared.status.Denied.{Denied}
use Rattle.statuses.specs.declared.status.Denied.TheVariants as denied
use Rattle.statuses.specs.declared.status.Status.{Status}
use Rattle.statuses.specs.declared.status.Status.TheVariants as status
use Rattle.grid_fraction.specs.Numbers.{list_below}
use Rattle.dvs_base.specs.Checks.{◌>>=◌}
use Rattle.dvs_base.specs.Parts.{joined}
use Rattle.trace_text.specs.TraceLines.{line}
use Rattle.rm_response.specs.declared.response.ResponseFault.{ResponseFault}
use Rattle.rm_response.specs.declared.response.ResponseFault.TheVariants as response_fault
use Rattle.command_files.specs.Meanings.{tasks_at, machine_at}
use Rattle.statuses.specs.Refused.{or_status}

-- what holds of a plan whose tasks all have responses
pub record Responds (p : Plan) : Type 0 where
  pub no_offset : NoneOffset (offset p) (count p)
  pub each : AllRespond p
  -- for any demands of the jobs within their worst cases, in the schedule under RM and none of every length each job
  -- that is due has had exactly its demand by its deadline
  pub deadlines : MeetsAllDeadlines p
  -- each response is the least tick at which its task's first job is complete when all jobs have their worst cases
  pub least : AreLeast p (responses p)

-- The task is the first in file order with an offset. Or no task has one, this task is the first in RM order without a
-- response, by the two numbers, and its first job isn't complete at its period when all jobs have their worst cases.
abbrev pub FailsToRespond : Plan → Denied → Type 0
FailsToRespond p (denied.Offset i) = IsFirstOffset (offset p) (count p) i
FailsToRespond p (denied.Response i num cap) = IsFirstMiss p i num cap × (is_first_done p i (period p i) ≡ false)
FailsToRespond p why = ⊥

-- the files of `response` mean these tasks and this machine
pub record MeansPlan (r : ResponseView) (files : Files) (tasks : List Task) (machine : Table) : Type 0 where
  pub tasks_are : tasks_at r.tasks files ≡ Ok tasks
  pub machine_is : machine_at r.machine files ≡ Ok machine

-- The exact test under RM over these files, without a premise. A test that is done, or that denies the tasks,
-- is of the tasks and the machine that its files mean.
abbrev pub ProvesResponses : Files → ResponseView → Status → Type 0
ProvesResponses files r status.Done =
    (tasks : List Task) × (machine : Table) × MeansPlan r files tasks machine × Responds (plan_of tasks machine Rm)
ProvesResponses files r (status.NotAdmitted why) =
    (tasks : List Task) × (machine : Table) × MeansPlan r files tasks machine
    × FailsToRespond (plan_of tasks machine Rm) why
ProvesResponses files r s = ⊤

-- all tasks of a plan have responses, and the test is done; or it denies the plan and gives the cause
abbrev pub RespondsOrIsDenied : Plan → Status → Type 0
RespondsOrIsDenied p s =
    ((s ≡ status.Done) × Responds p) ⊎ ((why : Denied) × (s ≡ status.NotAdmitted why) × FailsToRespond p why)

-- a refusal of the exact test under RM as a status
abbrev pub response_status : ResponseFault → Status
response_status (response_fault.Offset task) = status.NotAdmitted (denied.Offset task)
response_status (response_fault.Misses task num cap) = status.NotAdmitted (denied.Response task num cap)
response_status response_fault.NoMemory = status.NoMemory

-- the responses of these tasks under RM on a machine
abbrev pub responses_on : List Task → Table → Result (List ℕ) Status
responses_on tasks machine = or_status response_status (exact_answer (plan_of tasks machine Rm))

-- the responses of these tasks under RM on the machine of a named file
abbrev pub responses_at : ResponseView → List Task → Files → Result (List ℕ) Status
responses_at r tasks files = do
  machine ← machine_at r.machine files
  responses_on tasks machine

-- the line of a task: its name, and its response in ticks
abbrev pub response_text : List Task → List ℕ → ℕ → List ℕ
response_text tasks ticks i = line (codes "response" ∷ (task_at tasks i).name ∷ decimal (slice_index ticks i) ∷ [])

-- the lines of the tasks, in file order
abbrev pub responses_text : List Task → List ℕ → List ℕ
responses_text tasks ticks = joined (list_below (length tasks) (response_text tasks ticks))

-- the answer of `response`, after its tasks were read
abbrev pub response_after_tasks : ResponseView → List Task → Files → Result (List ℕ) Status
response_after_tasks r tasks files = do
  ticks ← responses_at r tasks files
  Ok (responses_text tasks ticks)

-- the answer of `response`
abbrev pub response_answer : ResponseView → Files → Result (List ℕ) Status
response_answer r files = do
  tasks ← tasks_at r.tasks files
  response_after_tasks r tasks files
