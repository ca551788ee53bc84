-- What a call with numbers replies, what it proves of them, and that the program answers alike for files of them.
use Rattle.std.specs.Prelude.{◌≡◌, ℕ, List, ◌++◌, length, drop, replicate, Option, Some, None, Result, Ok, Err}
use Rattle.dvs_base.specs.Checks.{◌>>=◌}
use Rattle.dvs_base.specs.Outside.{Files}
use Rattle.dvs_base.specs.declared.limits.TheConstants.{MOST_TASKS}
use Rattle.dvs_base.specs.declared.kind.Scheduler.{Scheduler}
use Rattle.dvs_base.specs.declared.kind.Scheduler.TheVariants.{Rm}
use Rattle.task_model.specs.declared.task.Task.{Task}
use Rattle.freq_table.specs.Tables.{Table, lowest_entry}
use Rattle.numbers.specs.declared.given.GivenTask.{GivenTask}
use Rattle.numbers.specs.declared.given.GivenPoint.{GivenPoint}
use Rattle.numbers.specs.Given.{tasks_of_given, machine_of_given}
use Rattle.sched_model.specs.Plan.{Plan, plan_of}
use Rattle.sched_model.specs.StaticDemand.{static_demand}
use Rattle.static_gov.specs.StaticSpeed.{IsLowestEnough}
use Rattle.words.specs.Commands.{AdmitView, ResponseView, admit, response}
use Rattle.statuses.specs.declared.status.Denied.{Denied}
use Rattle.statuses.specs.declared.status.Status.{Status}
use Rattle.statuses.specs.declared.status.Status.TheVariants as status
use Rattle.statuses.specs.Status.{code_of}
use Rattle.statuses.specs.Refused.{or_status, task_status, machine_status}
use Rattle.command_files.specs.Meanings.{tasks_at, machine_at}
use Rattle.command_files.specs.Admissions.{admission}
use Rattle.rtdvs_top.specs.Admit.{admitted_text}
use Rattle.rtdvs_top.specs.Response.{responses_on, responses_text, Responds, FailsToRespond}
use Rattle.sched_model.specs.Admission.{PassesTest}
use Rattle.rtdvs_top.specs.Promises.{answer_of_command, AdmitsOrDenies}
use Rattle.rtdvs_c.specs.declared.causes.TheConstants.{NO_SCHEDULER, SCHEDULER}
use Rattle.rtdvs_c.specs.declared.number_types.Settings.{Settings}
use Rattle.rtdvs_c.specs.declared.number_types.Admission.{Admission}
use Rattle.rtdvs_c.specs.declared.number_types.Responses.{Responses}
use Rattle.rtdvs_c.specs.Numbers.{refused_at, no_refusal, refusal_of, scheduler_from, admitted_numbers, refused_admission, refused_responses}

-- the numbers of a call: tasks, points and settings
pub record NumbersView : Type 0 where
  pub tasks : List GivenTask
  pub points : List GivenPoint
  pub settings : Settings

-- these tasks, points and settings
abbrev pub numbers_of : List GivenTask → List GivenPoint → Settings → NumbersView
numbers_of tasks points settings = record { tasks = tasks; points = points; settings = settings }

-- the tasks of the numbers, or the status that refuses them
abbrev pub tasks_on : NumbersView → Result (List Task) Status
tasks_on n = or_status task_status (tasks_of_given n.tasks)

-- the machine of the numbers, or the status that refuses them
abbrev pub machine_on : NumbersView → Result Table Status
machine_on n = or_status machine_status (machine_of_given n.settings.idle n.settings.charge n.points)

-- the tasks and the machine of the numbers, or the status that refuses them
abbrev pub sets_on : NumbersView → Result (List Task × Table) Status
sets_on n = do
  tasks ← tasks_on n
  machine ← machine_on n
  Ok (tasks, machine)

-- the plan of the numbers under a scheduler
abbrev pub plan_on : Scheduler → NumbersView → Result Plan Status
plan_on s n = do
  x ← sets_on n
  Ok (plan_of x.0 x.1 s)

-- the plan of the numbers, if the test of the scheduler passes
abbrev pub admission_on : Scheduler → NumbersView → Result Plan Status
admission_on s n = do
  x ← sets_on n
  admission (plan_of x.0 x.1 s)

-- the responses as they are answered: one a task, in ticks, and 0 past the last task
abbrev pub padded : List ℕ → List ℕ
padded ticks = ticks ++ drop (length ticks) (replicate MOST_TASKS 0)

-- the responses of the numbers under RM as they are answered, if the exact test passes
abbrev pub ticks_on : NumbersView → Result (List ℕ) Status
ticks_on n = do
  x ← sets_on n
  ticks ← responses_on x.0 x.1
  Ok (padded ticks)

-- the status of a step
abbrev pub ends : {A : Type 0} → Result A Status → Status
ends (Ok a) = status.Done
ends (Err s) = s

-- what an admission replies: its exit status and its answer
pub record AdmissionReply : Type 0 where
  pub code : ℕ
  pub answer : Admission

-- the reply of an admitted plan, or of the status that refuses or denies it
abbrev pub admission_reply_of : Result Plan Status → AdmissionReply
admission_reply_of (Ok p) = record { code = 0; answer = admitted_numbers p }
admission_reply_of (Err s) = record { code = code_of s; answer = refused_admission (refusal_of s) }

-- the reply by the scheduler, if its number is one
abbrev pub admission_reply_by : Option Scheduler → NumbersView → AdmissionReply
admission_reply_by None n = record { code = NO_SCHEDULER; answer = refused_admission (refused_at SCHEDULER 0) }
admission_reply_by (Some s) n = admission_reply_of (admission_on s n)

-- what an admission of the numbers replies
abbrev pub admission_reply : NumbersView → AdmissionReply
admission_reply n = admission_reply_by (scheduler_from n.settings.scheduler) n

-- what an exact test replies: its exit status and its answer
pub record ResponseReply : Type 0 where
  pub code : ℕ
  pub answer : Responses

-- the reply of the responses, or of the status that refuses or denies them
abbrev pub response_reply_of : Result (List ℕ) Status → ResponseReply
response_reply_of (Ok ticks) = record { code = 0; answer = record { ticks = ticks; refusal = no_refusal } }
response_reply_of (Err s) = record { code = code_of s; answer = refused_responses (refusal_of s) }

-- what an exact test of the numbers replies
abbrev pub response_reply : NumbersView → ResponseReply
response_reply n = response_reply_of (ticks_on n)

-- the files of these names have the tasks and the machine of the numbers, or are refused as these are
pub record Describe (files : Files) (tasks machine : List ℕ) (n : NumbersView) : Type 0 where
  pub tasks_are : tasks_at tasks files ≡ tasks_on n
  pub machine_is : machine_at machine files ≡ machine_on n

-- for files that describe the numbers, `admit` has the text of the numbers' admitted plan, or their status
abbrev pub AdmitsAsFiles : NumbersView → Type 0
AdmitsAsFiles n =
    (a : AdmitView) (files : Files) → Describe files a.tasks a.machine n
    → answer_of_command (admit a) files ≡ (admission_on a.scheduler n >>= (λ p. Ok (admitted_text p)))

-- for files that describe the numbers, `response` has the text of the numbers' responses, or their status
abbrev pub RespondsAsFiles : NumbersView → Type 0
RespondsAsFiles n =
    (r : ResponseView) (files : Files) → Describe files r.tasks r.machine n
    → answer_of_command (response r) files
    ≡ (sets_on n >>= (λ x. responses_on x.0 x.1 >>= (λ ticks. Ok (responses_text x.0 ticks))))

-- what an admission of the numbers proves under either scheduler: an admitted plan passes the scheduler's test, and a
-- plan that is denied fails it by the two numbers
abbrev pub AdmitsNumbers : NumbersView → Type 0
AdmitsNumbers n = (s : Scheduler) → AdmitsOrDenies (λ p. PassesTest p.scheduler p) (plan_on s n) (ends (admission_on s n))

-- the numbers are admitted under their scheduler, and the entry of the static demand is the lowest that is enough
abbrev pub HasLowestEnough : NumbersView → Type 0
HasLowestEnough n =
    (s : Scheduler) × (p : Plan) × (scheduler_from n.settings.scheduler ≡ Some s) × (admission_on s n ≡ Ok p)
    × IsLowestEnough p (lowest_entry p.machine (static_demand p))

-- each task of the numbers has a response, and what this proves of every schedule
abbrev pub RespondsOn : NumbersView → Type 0
RespondsOn n = (tasks : List Task) × (machine : Table) × (sets_on n ≡ Ok (tasks, machine)) × Responds (plan_of tasks machine Rm)

-- the exact test denies the numbers, and what shows it
abbrev pub FailsOn : NumbersView → Denied → Type 0
FailsOn n why =
    (tasks : List Task) × (machine : Table) × (sets_on n ≡ Ok (tasks, machine)) × FailsToRespond (plan_of tasks machine Rm) why

-- what an exact test of the numbers proves, by its exit status
pub record ProvesNumbers (n : NumbersView) (code : ℕ) : Type 0 where
  pub done : code ≡ 0 → RespondsOn n
  pub denied : code ≡ 1 → (why : Denied) × (ticks_on n ≡ Err (status.NotAdmitted why)) × FailsOn n why
