-- The answer of `replay` and `migrate`, and which trace files they take.
use Rattle.std.specs.Prelude.{◌≡◌, ℕ, ◌≤◌, true, List, Some, Ok, ⊤, Result, map, [], ◌∷◌, codes, decimal}
use Rattle.dvs_base.specs.Outside.{Files, file_of}
use Rattle.dvs_base.specs.declared.kind.GovernorKind.{GovernorKind}
use Rattle.dvs_base.specs.declared.kind.Version.{Version}
use Rattle.dvs_base.specs.PlanWords.{is_pair}
use Rattle.dvs_base.specs.declared.limits.TheConstants.{MOST_JOBS, MOST_TICKS}
use Rattle.task_model.specs.DemandRows.{DemandRow}
use Rattle.demand_list.specs.Demands.{IsDemands}
use Rattle.sched_model.specs.Plan.{Plan, names, plan_of}
use Rattle.sched_model.specs.Admission.{IsAdmitted}
use Rattle.sched_model.specs.Jobs.{demand_of, IsWithin, released_jobs}
use Rattle.trace_writer.specs.RunText.{run_text_in, task_texts}
use Rattle.trace_reader.specs.Traces.{TraceView, IsTrace, text_of}
use Rattle.trace_text.specs.TraceText.{task_lines}
use Rattle.replay_laws.specs.FixedDemands.{fixed_of, fixed_list}
use Rattle.words.specs.Commands.{TracedView, traced}
use Rattle.statuses.specs.declared.status.Status.{Status}
use Rattle.statuses.specs.declared.status.Status.TheVariants as status
use Rattle.dvs_base.specs.Checks.{◌>>=◌}
use Rattle.dvs_base.specs.declared.kind.Version.TheVariants.{Two}
use Rattle.dvs_base.specs.declared.note.Totals.{Totals}
use Rattle.trace_text.specs.TraceLines.{line}
use Rattle.task_model.specs.declared.task.Task.{Task}
use Rattle.sched_model.specs.Demand.{published}
use Rattle.trace_text.specs.declared.versions.TaskLine.{TaskLine}
use Rattle.trace_reader.specs.declared.trace.TraceFault.{TraceFault}
use Rattle.trace_reader.specs.TraceFile.{trace_file}
use Rattle.replay.specs.Replays.{replay_of}
use Rattle.replay.specs.declared.fault.ReplayFault.{ReplayFault}
use Rattle.replay.specs.declared.fault.ReplayFault.TheVariants as replay_fault
use Rattle.words.specs.declared.command.TraceUse.{TraceUse}
use Rattle.words.specs.declared.command.TraceUse.TheVariants.{Replay, Migrate}
use Rattle.statuses.specs.declared.status.FileKind.TheVariants as file
use Rattle.rtdvs_top.specs.Asked.{Asked, with_files}
use Rattle.command_files.specs.Meanings.{tasks_at, machine_at, bytes_at}
use Rattle.command_files.specs.Admissions.{admission}
use Rattle.statuses.specs.Refused.{or_status, trace_status}

-- the bytes are the text, in a version, of the schedule of an admitted plan for the demand list of these rows, by the
-- published demand of this governor, in `ticks` ticks
pub record IsScheduleText (v : Version) (p : Plan) (g : GovernorKind) (ticks : ℕ) (rows : List DemandRow) (bytes : List ℕ) : Type 0 where
  -- the plan is within its limits, and its scheduler's test passes
  pub admitted : IsAdmitted p
  -- no demand exceeds its task's worst case
  pub within : IsWithin p (demand_of p rows)
  -- no more jobs are released than the limit
  pub few : released_jobs p ticks ≤ MOST_JOBS
  -- scheduler and governor are a pair
  pub pair : is_pair p.scheduler g ≡ true
  -- there is a tick, and no more of them than the limit
  pub some_ticks : 1 ≤ ticks
  pub low_ticks : ticks ≤ MOST_TICKS
  pub text : bytes ≡ run_text_in v p g (demand_of p rows) ticks

-- the files that the words name mean the tasks and the machine of the plan, and the trace file holds these bytes
pub record AreFilesOf (r : TracedView) (files : Files) (p : Plan) (bytes : List ℕ) : Type 0 where
  pub tasks_are : tasks_at r.tasks files ≡ Ok p.tasks
  pub machine_is : machine_at r.machine files ≡ Ok p.machine
  pub bytes_are : file_of files r.trace ≡ Some bytes

-- the trace file is the text of this trace, and of the schedule for the demand list that the trace's notes fix: the
-- first end of a job fixes its demand, and each other job has its worst case
pub record TellsOwn (r : TracedView) (files : Files) (p : Plan) (t : TraceView) : Type 0 where
  pub files_are : AreFilesOf r files p (text_of (names p) (task_texts p) t)
  pub list : IsDemands (fixed_list p t.notes)
  pub schedule : IsScheduleText t.version p t.plan.governor t.plan.ticks (fixed_of p t.notes) (text_of (names p) (task_texts p) t)

-- done; or a load or a put failed and its count of faults rose; or memory ran out
abbrev pub IsDoneUnless : Type 0 → Type 0 → Status → Type 0
IsDoneUnless loads_rose puts_rose status.Done = ⊤
IsDoneUnless loads_rose puts_rose (status.Load kind) = loads_rose
IsDoneUnless loads_rose puts_rose status.Write = puts_rose
IsDoneUnless loads_rose puts_rose status.NoMemory = ⊤
IsDoneUnless loads_rose puts_rose s = ⊥

-- A replay or a migration over these files is done exactly if the trace file is the text, in either
-- version, of a schedule for some demand list: one that is done shows the list, which the text fixes, and each such
-- file is done, unless a load, a put or memory failed.
abbrev pub AcceptsScheduleTexts : Asked → Type 0 → Type 0 → Status → Type 0
AcceptsScheduleTexts (with_files files (traced r)) loads_rose puts_rose s =
    (s ≡ status.Done → (p : Plan) × (t : TraceView) × TellsOwn r files p t)
    × ((v : Version) (p : Plan) (g : GovernorKind) (ticks : ℕ) (rows : List DemandRow) (bytes : List ℕ)
    → AreFilesOf r files p bytes → IsScheduleText v p g ticks rows bytes → IsDoneUnless loads_rose puts_rose s)
AcceptsScheduleTexts a loads_rose puts_rose s = ⊤

-- the names of tasks
abbrev pub task_names : List Task → List (List ℕ)
task_names tasks = map (λ t. t.name) tasks

-- what version 2 of a trace says of a task: its period, its first release and its declared worst case
abbrev pub task_line : Task → TaskLine
task_line t = record { period = t.period; offset = t.offset; worst = t.worst }

-- the lines of tasks in version 2
abbrev pub lines_of_tasks : List Task → List (List ℕ)
lines_of_tasks tasks = task_lines (task_names tasks) (map task_line tasks)

-- the trace of a text of either version, for these tasks
abbrev pub trace_of : List Task → List ℕ → Result TraceView TraceFault
trace_of tasks bytes = trace_file Two (task_names tasks) (lines_of_tasks tasks) bytes

-- the trace of a named file
abbrev pub trace_at : List Task → List ℕ → Files → Result TraceView Status
trace_at tasks name files = do
  bytes ← bytes_at file.Trace name files
  or_status trace_status (trace_of tasks bytes)

-- the admitted plan and the trace, after the tasks were read: the machine, the trace, and the test of the scheduler
-- that the trace names
abbrev pub traced_of : TracedView → List Task → Files → Result (Plan × TraceView) Status
traced_of r tasks files = do
  machine ← machine_at r.machine files
  t ← trace_at tasks r.trace files
  p ← admission (plan_of tasks machine t.plan.scheduler)
  Ok (p, t)

-- a refusal of a replay as a status
abbrev pub replay_status : ReplayFault → Status
replay_status (replay_fault.OverWorst task job used worst) = status.OverWorst task job used worst
replay_status (replay_fault.TooManyJobs jobs) = status.Limit jobs
replay_status (replay_fault.Differs line wanted found) = status.Differs line wanted found
replay_status replay_fault.NoMemory = status.NoMemory

-- the totals of a trace of a plan, if its notes are those of the schedule for the demands that they fix
unfoldable pub totals_at : Plan × TraceView → Result Totals Status
totals_at x = or_status replay_status (replay_of x.0 (published x.0 x.1.plan.governor) x.1)

-- the line of a replay: the releases, the completions, and the energies of running and of idling
abbrev pub replayed_text : Totals → List ℕ
replayed_text t =
    line (codes "replayed" ∷ decimal t.released ∷ decimal t.finished ∷ decimal t.run ∷ decimal t.idle ∷ [])

-- the text of version 2 of a trace of a plan
abbrev pub migrated_text : Plan → TraceView → List ℕ
migrated_text p t = text_of (names p) (task_texts p) (record t { version = Two })

-- the trace is one of the plan's scheduler, and has a text in version 2
pub record IsMigratable (p : Plan) (t : TraceView) : Type 0 where
  pub scheduler : t.plan.scheduler ≡ p.scheduler
  pub trace : IsTrace (names p) (task_texts p) (record t { version = Two })

-- what is printed for a trace that is that of its schedule: its totals by `replay`, its text in version 2 by `migrate`
abbrev pub use_text : TraceUse → Plan × TraceView → Totals → List ℕ
use_text Replay x totals = replayed_text totals
use_text Migrate x totals = migrated_text x.0 x.1

-- the answer for a trace of a plan, which is compared first
abbrev pub answer_of_traced : TraceUse → Plan × TraceView → Result (List ℕ) Status
answer_of_traced asked x = do
  totals ← totals_at x
  Ok (use_text asked x totals)

-- the answer of `replay` or `migrate`, after its tasks were read
abbrev pub trace_after_tasks : TracedView → List Task → Files → Result (List ℕ) Status
trace_after_tasks r tasks files = do
  x ← traced_of r tasks files
  answer_of_traced r.asked x

-- the answer of `replay` or `migrate`
abbrev pub trace_answer : TracedView → Files → Result (List ℕ) Status
trace_answer r files = do
  tasks ← tasks_at r.tasks files
  trace_after_tasks r tasks files
