-- What a command prepares, how its put ends, and what is then known; only for proofs.
use Rattle.std.specs.Prelude.{ℕ, List, Result, Option, ⊤, ◌≤◌, ◌≡◌, Ok, Some, None, Err, ◌<◌, length, Vec, Bool, false, IfOk, IfErr}
use Rattle.dvs_base.specs.Outside.{ShelfView, SinkView, Files}
use Rattle.dvs_base.specs.declared.kind.GovernorKind.{GovernorKind}
use Rattle.dvs_base.specs.declared.kind.Version.{Version}
use Rattle.task_model.specs.declared.task.Task.{Task}
use Rattle.sched_model.specs.Plan.{Plan, count}
use Rattle.event_kernel.specs.Runs.{Run, run_for}
use Rattle.dvs_base.specs.declared.limits.TheConstants.{MOST_TICKS}
use Rattle.words.specs.Commands.{CommandView, asks_probes, tasks_name, run, admit, traced, poll, least}
use Rattle.statuses.specs.declared.status.Status.{Status}
use Rattle.statuses.specs.declared.status.Status.TheVariants as status
use Rattle.task_model.specs.Tasks.{names_of}
use Rattle.edf_demand.specs.Answers.{IsTooLong}
use Rattle.rtdvs_top.specs.declared.prepared.Workload.{Workload}
use Rattle.trace_reader.specs.Traces.{TraceView, IsEnded}
use Rattle.dvs_base.specs.WritesText.{Wrote, WroteSome}
use Rattle.energy_bound.specs.declared.least.Least.{Least}
use Rattle.dvs_base.specs.PlanWords.{IsPair}
use Rattle.poll_server.specs.ServerJobs.{ServerView, request_count}
use Rattle.poll_server.specs.Outcomes.{ServedView}
use Rattle.probes.specs.Tallies.{ProbeView}
use Rattle.probes.specs.Outputs.{Outputs, outputs_of}
use Rattle.rtdvs_top.specs.declared.prepared.Prepared.{Prepared}
use Rattle.rtdvs_top.specs.declared.prepared.Prepared.TheVariants as prepared
use Rattle.std.specs.List.{AllByRecursion}
use Rattle.replay.specs.Replays.{NamesTask}
use Rattle.statuses.specs.Steps.{EndsWith, Gives, Refuses, CountsStep, IsTestStep}
use Rattle.command_files.specs.Files.{names_by, loads_needed, MakesLoads}
use Rattle.command_files.specs.GivenFiles.{Known}
use Rattle.command_files.specs.Loads.{LaterLoadFails, loads_after, tasks_loads}
use Rattle.statuses.specs.Status.{CountsLoads, Leaves, LeavesProbes, IsShown}
use Rattle.statuses.specs.StatusLines.{status_text}
use Rattle.rtdvs_top.specs.Asked.{asked_with}
use Rattle.rtdvs_top.specs.ToldRuns.{IfAsked, TellsRun}
use Rattle.rtdvs_top.specs.Run.{answer_of_plan}
use Rattle.rtdvs_top.specs.Admit.{admitted_of}
use Rattle.rtdvs_top.specs.PlannedRuns.{prepared_of, IsRunnable, IsReadyRun}
use Rattle.rtdvs_top.specs.Promises.{ProvesTests, TellsProbes, LoadFailed, answer_of_command}
use Rattle.rtdvs_top.specs.Constrain.{FailsToKeep}
use Rattle.rtdvs_top.specs.Generated.{workload_tasks, workload_ticks, workload_totals, workload_text}
use Rattle.rtdvs_top.specs.Trace.{traced_of, migrated_text, IsMigratable}
use Rattle.rtdvs_top.specs.Least.{least_text, IsLeastOn}
use Rattle.rtdvs_top.specs.Poll.{polled_text, polling_served, answer_of_polling, polling_of, HasServed}
use Rattle.rtdvs_top.specs.Response.{responses_text}
use Rattle.demand_list.specs.Demands.{DemandsView}
use Rattle.sched_model.specs.Admission.{IsAdmitted}
use Rattle.command_files.specs.Meanings.{machine_at, tasks_at}
use Rattle.freq_table.specs.Tables.{Table}

-- the answer of a run: its text in this version
abbrev pub answer_of_run : Version → GovernorKind → Run → Result (List ℕ) Status
answer_of_run v g r = answer_of_plan v g r.demands r.ticks r.plan

-- what a call sees: the shelf, and the sink of the answer with the probes
pub record CallView : Type 0 where
  pub shelf : ShelfView
  pub outputs : Outputs

-- what a call sees of this shelf and these outputs
abbrev pub views_of : ShelfView → Outputs → CallView
views_of shelf outputs = record { shelf = shelf; outputs = outputs }

-- the answer's text was written, or a first part of it, or the answer is refused
abbrev pub Ends : SinkView → SinkView → Result (List ℕ) Status → Status → Type 0
Ends old new answer status.Done = (text : List ℕ) × (answer ≡ Ok text) × Wrote old new text
Ends old new answer status.Write = (text : List ℕ) × (answer ≡ Ok text) × WroteSome old new text
Ends old new answer s = EndsWith answer s

-- how the writing of an answer over these files, if any, ends
abbrev pub EndsAs : SinkView → SinkView → Option Files → (Files → Result (List ℕ) Status) → Status → Type 0
EndsAs old new files answer status.Done = (text : List ℕ) × Gives files answer text × Wrote old new text
EndsAs old new files answer status.Write = (text : List ℕ) × Gives files answer text × WroteSome old new text
EndsAs old new files answer s = Refuses files answer s

-- What is known of a command whose answer was put, with the tasks of its file. A run is of the plan and the demands that
-- were prepared; the plan of `admit` is admitted; a replay or a migration has compared a trace with the schedule of an admitted plan; a `poll` run has kept the
-- outcomes, their order and the bound, for the server of its files; `least` has its bound, for the machine of its file.
abbrev pub IsKnownDone : Option Files → CommandView → Type 0
IsKnownDone files (run r) =
    (tasks : List Task) × Gives files (tasks_at r.tasks) tasks
    × (p : Plan) × (d : DemandsView) × Gives files (prepared_of r tasks) (p, d) × IsReadyRun r.governor (run_for p d r.ticks)
IsKnownDone files (admit a) =
    (tasks : List Task) × Gives files (tasks_at a.tasks) tasks
    × (p : Plan) × Gives files (admitted_of a tasks) p × IsAdmitted p
IsKnownDone files (traced r) =
    (tasks : List Task) × Gives files (tasks_at r.tasks) tasks
    × (p : Plan) × (t : TraceView) × Gives files (traced_of r tasks) (p, t) × IsAdmitted p
IsKnownDone files (poll q) =
    (tasks : List Task) × Gives files (tasks_at q.tasks) tasks
    × (s : ServerView) × Gives files (polling_of q tasks) s × HasServed s q.governor q.ticks
IsKnownDone files (least l) = (m : Table) × (a : Least) × Gives files (machine_at l.machine) m × IsLeastOn m l a
IsKnownDone files c = ⊤

-- what is known of a command that ended with this status
abbrev pub ProvesDone : Option Files → CommandView → Status → Type 0
ProvesDone files c status.Done = IsKnownDone files c
ProvesDone files c status.Write = IsKnownDone files c
ProvesDone files c s = ⊤

-- The lines of a status have the names that these files give the command's tasks. If a command that asks for probes is
-- done, these are the names that the probes' lines have.
abbrev pub HasTaskNames : Option Files → CommandView → Option (List Task) → Status → Type 0
HasTaskNames None c tasks s = ⊤
HasTaskNames (Some files) c tasks status.Done = IfAsked (asks_probes c) (names_of tasks ≡ names_by c files)
HasTaskNames (Some files) c tasks s = status_text (names_of tasks) s ≡ status_text (names_by c files) s

-- a command was answered with this status, and its tasks if they were read
pub record IsAnswered (c : CommandView) (old new : CallView) (s : Status) (tasks : Option (List Task)) (files : Option Files) : Type 0 where
  -- the answer's text was written, or a first part of it, or the status is the answer's refusal
  pub ended : EndsAs old.outputs.sink new.outputs.sink files (answer_of_command c) s
  -- what is known of a run, a replay, a `poll` run or a `least` that is done
  pub met : ProvesDone files c s
  -- what an exact test proves
  pub tested : ProvesTests (asked_with files c) s
  -- the names in the lines are those of the command's tasks
  pub named : HasTaskNames files c tasks s
  -- which load failed, and that the files before it were read
  pub failed : LoadFailed files old.shelf new.shelf (Ok c) s
  -- no more loads were made than the answer needs
  pub loads : MakesLoads (loads_needed files c) old.shelf new.shelf
  -- the shelf's count of failed loads shows in the status
  pub counts : CountsLoads old.shelf.faults new.shelf.faults s
  -- what the probes were told
  pub told : TellsProbes (asked_with files c) old.outputs new.outputs s
  -- what the status shows by itself
  pub shown : IsShown s

-- a status that refuses the tasks gives the cause
abbrev pub RefusesBy : Plan → (ℕ → ℕ) → Status → Type 0
RefusesBy p relative (status.NotAdmitted why) = FailsToKeep p relative why
RefusesBy p relative (status.Limit jobs) = IsTooLong p jobs
RefusesBy p relative s = ⊤

-- a workload has some tasks and some ticks, and no more of either than that of the command
pub record IsSmall (made : Workload) : Type 0 where
  pub some : 1 ≤ made.tasks
  pub few : made.tasks ≤ workload_tasks
  pub some_ticks : 1 ≤ made.ticks
  pub few_ticks : made.ticks ≤ workload_ticks

-- the status of a put: `Done`, or that with which it failed
abbrev pub status_of_put : {T : Type 0} → Result T Status → Status
status_of_put (Ok v) = status.Done
status_of_put (Err s) = s

-- the status of the writing of a run: `Done`, or `Write` if it failed
abbrev pub status_of_writing : {T E : Type 0} → Result T E → Status
status_of_writing (Ok v) = status.Done
status_of_writing (Err e) = status.Write

-- a status that the put of an answer can end with; `Limit` only if the answer is that refusal
abbrev pub PutEnds : Result (List ℕ) Status → Status → Type 0
PutEnds answer status.Done = ⊤
PutEnds answer status.Write = ⊤
PutEnds answer status.NoMemory = ⊤
PutEnds answer (status.Limit jobs) = answer ≡ Err (status.Limit jobs)
PutEnds answer s = ⊥

-- a `poll` run can be made: its server is a task of the plan, and its pair and its ticks are within the limits of a run
pub record IsPollable (s : ServerView) (governor : GovernorKind) (ticks : ℕ) : Type 0 where
  pub server : s.task < count s.plan
  pub pair : IsPair s.plan.scheduler governor
  pub some_ticks : 1 ≤ ticks
  pub few_ticks : ticks ≤ MOST_TICKS

-- what a `poll` run gives: the outcomes and what they keep, or why the run isn't made
pub record IsServed (governor : GovernorKind) (ticks : ℕ) (s : ServerView) (r : Result ServedView Status) : Type 0 where
  pub step : IsTestStep (answer_of_polling governor ticks s) r (polled_text s)
  pub served : IfOk r (λ v. v ≡ polling_served governor s ticks)
  pub kept : IfOk r (λ v. HasServed s governor ticks)

-- the answer of what was prepared
abbrev pub answer_of : Prepared → Result (List ℕ) Status
answer_of (prepared.Trace w) = answer_of_run w.version w.governor (run_for w.plan w.demands w.ticks)
answer_of (prepared.Migrated p t) = Ok (migrated_text p t)
answer_of (prepared.Line text) = Ok text
answer_of (prepared.Responses tasks ticks) = Ok (responses_text tasks.now ticks)
answer_of (prepared.Polled s r) = Ok (polled_text s r)
answer_of (prepared.Least a) = Ok (least_text a)
answer_of (prepared.Workload made totals) = Ok (workload_text made.seed made.tasks made.ticks)

-- what a put asks of what was prepared
abbrev pub IsPuttable : Prepared → Type 0
IsPuttable (prepared.Trace w) = IsRunnable (run_for w.plan w.demands w.ticks) × IsPair w.plan.scheduler w.governor
IsPuttable (prepared.Migrated p t) = IsMigratable p t
IsPuttable (prepared.Line text) = 0 < length text
IsPuttable (prepared.Responses tasks ticks) = length ticks ≡ length tasks.now
IsPuttable (prepared.Polled s r) = length r.outcomes ≡ request_count s
IsPuttable (prepared.Least a) = ⊤
IsPuttable (prepared.Workload made totals) = totals ≡ workload_totals made.seed made.tasks made.ticks

-- whether the put tells probes the notes
abbrev pub tells_probes : Prepared → Bool
tells_probes (prepared.Trace w) = w.probes
tells_probes p = false

-- the put of a run that asks for probes told them its notes
abbrev pub PutTells : Prepared → Outputs → Outputs → Status → Type 0
PutTells (prepared.Trace w) old new s =
    IfAsked w.probes (TellsRun w.version w.governor (run_for w.plan w.demands w.ticks) old new s)
PutTells p old new s = ⊤

-- What a put of what was prepared does to the sink and to the probes, which are a pair before and after it. They are
-- seen through `shows` and `seen`.
pub record IsPutStep {W P A : Type 0} (shows : W → SinkView) (seen : P → ProbeView) (old new : W × Vec P A) (p : Prepared) (s : Status)
    : Type 0 where
  -- the answer's text was written, or a first part of it, or the answer is refused
  pub ended : Ends (shows old.0) (shows new.0) (answer_of p) s
  -- no other status is possible
  pub ends : PutEnds (answer_of p) s
  -- if nothing was put the sink is as before
  pub leaves : Leaves s old.0 new.0
  -- probes that are not told are as before
  pub kept : LeavesProbes (tells_probes p) s old.1 new.1
  -- the others were told the notes
  pub told : PutTells p (outputs_of shows seen old.0 old.1) (outputs_of shows seen new.0 new.1) s
  -- what the status shows by itself
  pub shown : IsShown s

-- over these files, the command has this answer
abbrev pub HasAnswer : Option Files → CommandView → Result (List ℕ) Status → Type 0
HasAnswer None c answer = ⊤
HasAnswer (Some files) c answer = answer_of_command c files ≡ answer

-- What was prepared for a command: its put gives the command's answer. With each status that the put can end with, all
-- holds that is known of the command.
pub record IsPrepared (files : Option Files) (c : CommandView) (tasks : Option (List Task)) (p : Prepared) : Type 0 where
  pub answer : HasAnswer files c (answer_of p)
  pub puttable : IsPuttable p
  pub tells : tells_probes p ≡ asks_probes c
  pub named : HasTaskNames files c tasks status.Done
  pub met : IsKnownDone files c
  pub tested : (s : Status) → PutEnds (answer_of p) s → ProvesTests (asked_with files c) s
  pub told : (old new : Outputs) (s : Status) → PutTells p old new s → TellsProbes (asked_with files c) old new s

-- these are the tasks of a named file, if a file is named; these files hold them
abbrev pub AreTasksAt : Option Files → Option (List ℕ) → Option (List Task) → Type 0
AreTasksAt files None None = ⊤
AreTasksAt files (Some name) (Some tasks) = Gives files (tasks_at name) tasks
AreTasksAt files name tasks = ⊥

-- a command ended with this status before anything was put
pub record IsRefused (files : Option Files) (c : CommandView) (tasks : Option (List Task)) (s : Status) : Type 0 where
  pub ended : Refuses files (answer_of_command c) s
  pub tested : ProvesTests (asked_with files c) s
  pub named : HasTaskNames files c tasks s
  pub shown : IsShown s

-- this holds of each files that the shelf may hold and that have this, and without files
abbrev pub ForFilesWith : ShelfView → ShelfView → (Option Files → Type 0) → (Option Files → Type 0) → Type 0
ForFilesWith old new Has Is = (files : Option Files) → Known files old new → Has files → Is files

-- What the load of a command's tasks gives: the tasks, if the command names a file of them, or its refusal.
pub record IsTasksStep (old new : ShelfView) (c : CommandView) (r : Result (Option (List Task)) Status) (files : Option Files) : Type 0 where
  pub read : IfOk r (AreTasksAt files (tasks_name c))
  pub refused : IfErr r (IsRefused files c None)
  -- a load that failed is of the command's first file
  pub failed : IfErr r (LoadFailed files old new (Ok c))
  -- no other load was made
  pub loads : MakesLoads (tasks_loads (tasks_name c)) old new
  -- the count of failed loads changes only with the status `Load`
  pub counts : CountsStep old.faults new.faults r

-- What a command prepares before anything is put, after its tasks were read.
pub record IsPrepareStep (old new : ShelfView) (c : CommandView) (tasks : Option (List Task)) (r : Result Prepared Status) (files : Option Files) : Type 0 where
  -- its put gives the command's answer
  pub prepared : IfOk r (IsPrepared files c tasks)
  -- or the answer is refused
  pub refused : IfErr r (IsRefused files c tasks)
  -- a load that failed is of a later file, and those before it are passed
  pub failed : IfErr r (LaterLoadFails files old new c)
  -- no more loads were made than the answer needs
  pub loads : MakesLoads (loads_after files c) old new
  -- the count of failed loads changes only with the status `Load`
  pub counts : CountsStep old.faults new.faults r

-- the plan is of the trace's scheduler, which makes a pair with its governor; its number of ticks is within the limits;
-- each task that a note names is one of the plan; and the last note, and no other, ends the run
pub record IsComparable (p : Plan) (t : TraceView) : Type 0 where
  pub scheduler : t.plan.scheduler ≡ p.scheduler
  pub pair : IsPair p.scheduler t.plan.governor
  pub some_ticks : 1 ≤ t.plan.ticks
  pub low_ticks : t.plan.ticks ≤ MOST_TICKS
  pub tasks : AllByRecursion (NamesTask (count p)) t.notes
  pub ended : IsEnded t.notes
