-- The answer of `poll`, and what a run of its server has kept.
use Rattle.std.specs.Prelude.{ℕ, List, Result, Ok, ◌+◌, [], ◌∷◌, codes, decimal, zero, suc, ◌++◌, Bool, true, false}
use Rattle.dvs_base.specs.Checks.{◌>>=◌}
use Rattle.dvs_base.specs.Outside.{Files}
use Rattle.dvs_base.specs.Parts.{position_text}
use Rattle.dvs_base.specs.declared.kind.GovernorKind.{GovernorKind}
use Rattle.dvs_base.specs.declared.note.Note.{Note}
use Rattle.dvs_base.specs.declared.note.Totals.{Totals}
use Rattle.grid_fraction.specs.Numbers.{sum_where}
use Rattle.trace_text.specs.TraceLines.{line}
use Rattle.task_model.specs.declared.task.Task.{Task}
use Rattle.sched_model.specs.Plan.{plan_of}
use Rattle.sched_model.specs.Jobs.{released_jobs}
use Rattle.sched_model.specs.RunNotes.{run_notes}
use Rattle.request_list.specs.declared.requests.Request.{Request}
use Rattle.request_list.specs.RequestFile.{request_file}
use Rattle.poll_server.specs.ServerJobs.{ServerView, server_of, polled_demand, arrival, units, request_count}
use Rattle.poll_server.specs.Outcomes.{ServedView, outcome_at}
use Rattle.poll_server.specs.EachOutcome.{served_by}
use Rattle.poll_server.specs.declared.served.Outcome.{Outcome}
use Rattle.poll_server.specs.declared.served.Outcome.TheVariants.{Served, Pending}
use Rattle.words.specs.Commands.{PollView}
use Rattle.statuses.specs.declared.status.FileKind.TheVariants as file
use Rattle.poll_server.specs.declared.fault.PollFault.{PollFault}
use Rattle.poll_server.specs.declared.fault.PollFault.TheVariants as poll_fault
use Rattle.statuses.specs.declared.status.Status.{Status}
use Rattle.statuses.specs.declared.status.Status.TheVariants as status
use Rattle.poll_server.specs.Bound.{HaveJobs, KeepsBound}
use Rattle.poll_server.specs.Polled.{IsPolled}
use Rattle.command_files.specs.Meanings.{bytes_at, machine_at, tasks_at, server_at}
use Rattle.command_files.specs.Admissions.{admission}
use Rattle.rtdvs_top.specs.Run.{within_jobs}
use Rattle.statuses.specs.Refused.{or_status, request_status}

-- the requests of a named file
abbrev pub requests_at : List ℕ → Files → Result (List Request) Status
requests_at name files = do
  bytes ← bytes_at file.Requests name files
  or_status request_status (request_file bytes)

-- the server of `poll` at this place of the tasks, in its admitted plan: first the machine, then the requests
abbrev pub polling_at : PollView → ℕ → List Task → Files → Result ServerView Status
polling_at q i tasks files = do
  machine ← machine_at q.machine files
  requests ← requests_at q.requests files
  p ← admission (plan_of tasks machine q.scheduler)
  Ok (server_of p i requests)

-- the server of `poll` in its admitted plan, after its tasks: first its name
abbrev pub polling_of : PollView → List Task → Files → Result ServerView Status
polling_of q tasks files = do
  i ← server_at q.server tasks
  polling_at q i tasks files

-- the notes of the one schedule in which the server's jobs need what they take, by the governor's published demand
abbrev pub polling_notes : GovernorKind → ServerView → ℕ → List Note
polling_notes g s ticks = run_notes s.plan g (polled_demand s) ticks

-- the outcome of each request by the notes of the one schedule, and the totals of these notes
abbrev pub polling_served : GovernorKind → ServerView → ℕ → ServedView
polling_served g s ticks = served_by s (polling_notes g s ticks)

-- the line of a request, which counts from 1: its arrival and its units; and where it is served, by which job and at
-- which position
abbrev pub outcome_text : ServerView → ℕ → Outcome → List ℕ
outcome_text s m (Served job at_end) =
    line
    (codes "served" ∷ decimal (m + 1) ∷ decimal (arrival s m) ∷ decimal (units s m)
    ∷ decimal job
    ∷ position_text at_end
    ∷ [])
outcome_text s m Pending =
    line (codes "pending" ∷ decimal (m + 1) ∷ decimal (arrival s m) ∷ decimal (units s m) ∷ [])

-- the lines of the first n requests
abbrev pub request_lines : ServerView → List Outcome → ℕ → List ℕ
request_lines s outcomes zero = []
request_lines s outcomes (suc m) = request_lines s outcomes m ++ outcome_text s m (outcome_at outcomes m)

-- whether a request is served
abbrev pub is_served : Outcome → Bool
is_served (Served job at_end) = true
is_served Pending = false

-- how many of the first n requests are served
abbrev pub served_among : List Outcome → ℕ → ℕ
served_among outcomes n = sum_where n (λ m. is_served (outcome_at outcomes m)) (λ m. 1)

-- the last line: the number of requests that are served, and the energies of running and of idling
abbrev pub polled_line : ℕ → Totals → List ℕ
polled_line served totals =
    line (codes "polled" ∷ decimal served ∷ decimal totals.run ∷ decimal totals.idle ∷ [])

-- the lines of a `poll` run: one for each request, and the last one
abbrev pub polled_text : ServerView → ServedView → List ℕ
polled_text s r =
    let n = request_count s in request_lines s r.outcomes n ++ polled_line (served_among r.outcomes n) r.totals

-- a refusal of a `poll` run as a status
abbrev pub poll_status : PollFault → Status
poll_status (poll_fault.TooManyJobs jobs) = status.Limit jobs
poll_status poll_fault.NoMemory = status.NoMemory

-- the answer of `poll` for a server in its admitted plan
abbrev pub answer_of_polling : GovernorKind → ℕ → ServerView → Result (List ℕ) Status
answer_of_polling g ticks s = within_jobs (released_jobs s.plan ticks) (polled_text s (polling_served g s ticks))

-- the answer of `poll`, after its tasks were read
abbrev pub poll_after_tasks : PollView → List Task → Files → Result (List ℕ) Status
poll_after_tasks q tasks files = do
  s ← polling_of q tasks files
  answer_of_polling q.governor q.ticks s

-- the answer of `poll`
abbrev pub poll_answer : PollView → Files → Result (List ℕ) Status
poll_answer q files = do
  tasks ← tasks_at q.tasks files
  poll_after_tasks q tasks files

-- What a `poll` run has kept: each request is served exactly if its job is done in the one schedule, at that
-- position; a later request never has an earlier job; and a request with backlog B is served by the deadline of the
-- ceil(B/Q)-th job released at or after its arrival, if that lies within the run.
pub record HasServed (s : ServerView) (governor : GovernorKind) (ticks : ℕ) : Type 0 where
  pub outcomes : IsPolled s (polling_notes governor s ticks) (polling_served governor s ticks)
  pub in_order : HaveJobs s
  pub bound : KeepsBound s ticks (polling_served governor s ticks)
