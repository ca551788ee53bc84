-- What the top call promises, clause by clause.
use Rattle.std.specs.Prelude.{Result, Ok, ◌≡◌, ⊤, Option, Some, ℕ, List, [], Err, ◌⊎◌, IsOk, None, ◌≤◌, length, ◌*◌, ◌<◌, ◌≢◌}
use Rattle.dvs_base.specs.Checks.{◌>>=◌}
use Rattle.dvs_base.specs.Outside.{Files, SinkView, ShelfView, Rose, Takes}
use Rattle.sched_model.specs.Plan.{Plan, plan_of, period, hyper, top_speed}
use Rattle.sched_model.specs.Admission.{PassesTest}
use Rattle.sched_model.specs.StaticDemand.{static_demand}
use Rattle.static_gov.specs.StaticSpeed.{IsLowestEnough}
use Rattle.words.specs.Commands.{RunView, AdmitView, TracedView, PollView, CommandView, run, admit, traced, poll, workload, response, constrain, least, asks_probes}
use Rattle.words.specs.declared.command.WordFault.{WordFault}
use Rattle.statuses.specs.declared.status.Denied.{Denied}
use Rattle.statuses.specs.declared.status.Status.{Status}
use Rattle.statuses.specs.declared.status.Status.TheVariants as status
use Rattle.dvs_base.specs.WritesText.{Wrote, WroteSome}
use Rattle.dvs_base.specs.declared.kind.GovernorKind.{GovernorKind}
use Rattle.dvs_base.specs.declared.kind.Version.{Version}
use Rattle.dvs_base.specs.declared.kind.Scheduler.TheVariants.{Edf, Rm}
use Rattle.task_model.specs.declared.task.Task.{Task}
use Rattle.demand_list.specs.Demands.{DemandsView}
use Rattle.freq_table.specs.Tables.{Table, lowest_entry}
use Rattle.sched_model.specs.Tests.{total_rate, level_work}
use Rattle.sched_model.specs.Jobs.{released_jobs}
use Rattle.rm_admit.specs.Denials.{IsFirstOverloaded}
use Rattle.event_kernel.specs.Runs.{Run, run_for}
use Rattle.dvs_base.specs.declared.limits.TheConstants.{MOST_JOBS}
use Rattle.energy_bound.specs.declared.least.Least.{Least}
use Rattle.probes.specs.Tallies.{ProbeView}
use Rattle.probes.specs.Outputs.{Outputs}
use Rattle.poll_server.specs.ServerJobs.{ServerView}
use Rattle.statuses.specs.declared.status.Denied.TheVariants as denied
use Rattle.command_files.specs.Meanings.{tasks_at, machine_at, demands_at, server_at}
use Rattle.rtdvs_top.specs.Trace.{trace_at, trace_answer}
use Rattle.rtdvs_top.specs.Poll.{requests_at, poll_answer, polling_of, HasServed}
use Rattle.rtdvs_top.specs.Asked.{Asked, with_files, without_files, refused_words}
use Rattle.rtdvs_top.specs.Run.{run_answer, HasMet, TellsFileRun, text_under}
use Rattle.rtdvs_top.specs.PlannedRuns.{prepared_of}
use Rattle.rtdvs_top.specs.Admit.{admit_answer}
use Rattle.command_files.specs.Admissions.{admission}
use Rattle.rtdvs_top.specs.Generated.{workload_answer}
use Rattle.rtdvs_top.specs.Response.{response_answer, MeansPlan, RespondsOrIsDenied, ProvesResponses}
use Rattle.rtdvs_top.specs.Constrain.{constrain_answer, ProvesDeadlines}
use Rattle.rtdvs_top.specs.Least.{least_answer, least_text, IsLeastOn, AreTooMany}
use Rattle.command_files.specs.Files.{files_of, passes, FailsFrom, names_by}
use Rattle.statuses.specs.Status.{OfLoad}
use Rattle.statuses.specs.StatusLines.{status_text}
use Rattle.statuses.specs.Noted.{NotedAs, noted_text}

-- the plan of `run`: the tasks and the machine of its files, whose demands are read too
abbrev pub run_plan : RunView → Files → Result Plan Status
run_plan r files = do
  tasks ← tasks_at r.tasks files
  machine ← machine_at r.machine files
  demands ← demands_at tasks r.demands files
  Ok (plan_of tasks machine r.scheduler)

-- the plan of `admit`: the tasks and the machine of its files
abbrev pub admit_plan : AdmitView → Files → Result Plan Status
admit_plan a files = do
  tasks ← tasks_at a.tasks files
  machine ← machine_at a.machine files
  Ok (plan_of tasks machine a.scheduler)

-- the plan of `replay` or `migrate`: the tasks and the machine of its files, and the scheduler that its trace names
abbrev pub traced_plan : TracedView → Files → Result Plan Status
traced_plan r files = do
  tasks ← tasks_at r.tasks files
  machine ← machine_at r.machine files
  t ← trace_at tasks r.trace files
  Ok (plan_of tasks machine t.plan.scheduler)

-- the plan of `poll`: the tasks and the machine of its files, if a task has the server's name and the requests are
-- read too
abbrev pub poll_plan : PollView → Files → Result Plan Status
poll_plan q files = do
  tasks ← tasks_at q.tasks files
  i ← server_at q.server tasks
  machine ← machine_at q.machine files
  requests ← requests_at q.requests files
  Ok (plan_of tasks machine q.scheduler)

-- there is a plan, of which this holds
abbrev pub HasPlan : (Plan → Type 0) → Result Plan Status → Type 0
HasPlan P plan = (p : Plan) × (plan ≡ Ok p) × P p

-- A plan fails its scheduler's test by these two numbers: under EDF the work of a hyperperiod, and what the highest
-- speed does in it; under RM those of the period of the first task in RM order that fails.
abbrev pub IsDenial : Plan → Denied → Type 0
IsDenial p (denied.Edf num cap) =
    (p.scheduler ≡ Edf) × (num ≡ total_rate p) × (cap ≡ top_speed p * hyper p) × (cap < num)
IsDenial p (denied.Rm i num cap) =
    (p.scheduler ≡ Rm) × IsFirstOverloaded p i × (num ≡ level_work p i) × (cap ≡ top_speed p * period p i)
IsDenial p why = ⊥

-- what holds of a plan that is denied: its scheduler's test fails by these two numbers
pub record IsDeniedBy (p : Plan) (why : Denied) : Type 0 where
  pub numbers : admission p ≡ Err (status.NotAdmitted why)
  pub by : IsDenial p why
  pub fails : PassesTest p.scheduler p → ⊥

-- an answer is written, whole or in part, only if P holds of its plan, and denied only if its plan fails the test
abbrev pub AdmitsOrDenies : (Plan → Type 0) → Result Plan Status → Status → Type 0
AdmitsOrDenies P plan status.Done = HasPlan P plan
AdmitsOrDenies P plan status.Write = HasPlan P plan
AdmitsOrDenies P plan (status.NotAdmitted why) = HasPlan (λ p. IsDeniedBy p why) plan
AdmitsOrDenies P plan s = ⊤

-- What the answer of `run`, `admit`, `replay`, `migrate` or `poll` over these files shows: that its plan passes its
-- scheduler's test. Besides, the entry whose speed `admit` prints is the lowest that is enough: with it every job meets
-- its deadline at worst, with each lower one the test fails, and under EDF some job misses its deadline.
abbrev pub AdmitsByTest : Asked → Status → Type 0
AdmitsByTest (with_files files (run r)) s = AdmitsOrDenies (λ p. PassesTest p.scheduler p) (run_plan r files) s
AdmitsByTest (with_files files (admit a)) s =
    AdmitsOrDenies (λ p. PassesTest p.scheduler p × IsLowestEnough p (lowest_entry p.machine (static_demand p)))
    (admit_plan a files) s
AdmitsByTest (with_files files (traced r)) s = AdmitsOrDenies (λ p. PassesTest p.scheduler p) (traced_plan r files) s
AdmitsByTest (with_files files (poll q)) s = AdmitsOrDenies (λ p. PassesTest p.scheduler p) (poll_plan q files) s
AdmitsByTest a s = ⊤

-- the answer of a command
abbrev pub answer_of_command : CommandView → Files → Result (List ℕ) Status
answer_of_command (run r) files = run_answer r files
answer_of_command (admit a) files = admit_answer a files
answer_of_command (traced r) files = trace_answer r files
answer_of_command (workload seed) files = workload_answer seed
answer_of_command (response r) files = response_answer r files
answer_of_command (constrain r) files = constrain_answer r files
answer_of_command (poll q) files = poll_answer q files
answer_of_command (least l) files = least_answer l files

-- The status is the answer's; or a load failed, and the shelf's count of faults rose; or a put failed, if the answer
-- has a text, and the sink's count rose; or memory ran out.
abbrev pub IsAnswer : Type 0 → Type 0 → Result (List ℕ) Status → Status → Type 0
IsAnswer loads_rose puts_rose answer status.NoMemory = ⊤
IsAnswer loads_rose puts_rose answer (status.Load kind) = (answer ≡ Err (status.Load kind)) ⊎ loads_rose
IsAnswer loads_rose puts_rose answer status.Done = IsOk answer
IsAnswer loads_rose puts_rose answer status.Write = IsOk answer × puts_rose
IsAnswer loads_rose puts_rose answer s = answer ≡ Err s

-- the status is that of the command's answer over these files, unless the outside or memory explains it
abbrev pub Answers : Asked → Type 0 → Type 0 → Status → Type 0
Answers (without_files c) loads_rose puts_rose s = ⊤
Answers (refused_words why) loads_rose puts_rose s = s ≡ status.Words why
Answers (with_files files c) loads_rose puts_rose s = IsAnswer loads_rose puts_rose (answer_of_command c files) s

-- the text of the answer over these files was written whole; over any files, some text was
abbrev pub Writes : Asked → SinkView → SinkView → Type 0
Writes (with_files files c) old new = (text : List ℕ) × (answer_of_command c files ≡ Ok text) × Wrote old new text
Writes (without_files c) old new = (text : List ℕ) × Wrote old new text
Writes (refused_words why) old new = ⊤

-- a first part of the text of the answer over these files was written; over any files, one of some text
abbrev pub WritesPart : Asked → SinkView → SinkView → Type 0
WritesPart (with_files files c) old new =
    (text : List ℕ) × (answer_of_command c files ≡ Ok text) × WroteSome old new text
WritesPart (without_files c) old new = (text : List ℕ) × WroteSome old new text
WritesPart (refused_words why) old new = ⊤

-- the sink is sure of the whole answer over these files
abbrev pub IsSureOf : Asked → SinkView → Type 0
IsSureOf (with_files files c) sink = (text : List ℕ) → answer_of_command c files ≡ Ok text → length text ≤ sink.sure
IsSureOf a sink = ⊥

-- A load that failed is of one of the command's files, by its place among them. If these are its files, those before
-- it were read; the machine of `poll` is loaded only after its server was found.
abbrev pub LoadFailed : Option Files → ShelfView → ShelfView → Result CommandView WordFault → Status → Type 0
LoadFailed files old new (Ok c) s = OfLoad (FailsFrom (passes files c) old new 1 (files_of c)) s
LoadFailed files old new (Err why) s = ⊤

-- the files of a run mean these tasks, this machine and these demands
pub record MeansRun (r : RunView) (files : Files) (tasks : List Task) (machine : Table) (demands : DemandsView) : Type 0 where
  pub tasks_are : tasks_at r.tasks files ≡ Ok tasks
  pub machine_is : machine_at r.machine files ≡ Ok machine
  pub demands_are : demands_at tasks r.demands files ≡ Ok demands

-- what holds of a run that is done: its text was written, and it has met all that an admitted plan meets
pub record IsDoneRun (v : Version) (kind : GovernorKind) (r : Run) (old new : SinkView) : Type 0 where
  pub text : Takes old new (text_under v kind r)
  pub run : HasMet v kind r

-- The run over these files, without a premise. A run that is done, or that is denied, is of the tasks, the
-- machine and the demands that its files mean.
abbrev pub ProvesRun : Asked → SinkView → SinkView → Status → Type 0
ProvesRun (with_files files (run r)) old new status.Done =
    (tasks : List Task) × (machine : Table) × (demands : DemandsView) × MeansRun r files tasks machine demands
    × (prepared_of r tasks files ≡ Ok (plan_of tasks machine r.scheduler, demands))
    × IsDoneRun r.version r.governor (run_for (plan_of tasks machine r.scheduler) demands r.ticks) old new
ProvesRun (with_files files (run r)) old new (status.NotAdmitted why) =
    (tasks : List Task) × (machine : Table) × (demands : DemandsView) × MeansRun r files tasks machine demands
    × IsDeniedBy (plan_of tasks machine r.scheduler) why
ProvesRun a old new s = ⊤

-- what an exact test proves, if the command is one
abbrev pub ProvesTests : Asked → Status → Type 0
ProvesTests (with_files files (response r)) s = ProvesResponses files r s
ProvesTests (with_files files (constrain r)) s = ProvesDeadlines files r s
ProvesTests a s = ⊤

-- A `poll` run over these files that is done has served its requests in the one schedule of its server's plan: each
-- exactly if its job is done, a later one never by an earlier job, and each by the deadline that its backlog bounds, if
-- that lies within the run.
abbrev pub ProvesPoll : Asked → Status → Type 0
ProvesPoll (with_files files (poll q)) status.Done =
    (tasks : List Task) × (s : ServerView) × (tasks_at q.tasks files ≡ Ok tasks) × (polling_of q tasks files ≡ Ok s)
    × HasServed s q.governor q.ticks
ProvesPoll a s = ⊤

-- a run of a plan is done and has met all that an admitted plan meets; or the plan is denied, and fails its test
abbrev pub RunsOrIsDenied : Version → GovernorKind → Run → SinkView → SinkView → Status → Type 0
RunsOrIsDenied v kind r old new s =
    ((s ≡ status.Done) × IsDoneRun v kind r old new)
    ⊎ ((why : Denied) × (s ≡ status.NotAdmitted why) × IsDeniedBy r.plan why)

-- The headline. These files of a run describe these tasks, this machine and these demands; the run releases
-- no more jobs than the limit; no load and no put failed, and memory didn't run out. Then the plan of these tasks, this
-- machine and the words' scheduler runs with these demands, or it is denied. Under the same premises the exact test
-- under RM is done if all tasks of its files have responses, and otherwise it denies them.
abbrev pub IsDoneOrDenied : Asked → Type 0 → SinkView → SinkView → Status → Type 0
IsDoneOrDenied (with_files files (run r)) loads_rose old new s =
    (tasks : List Task) (machine : Table) (demands : DemandsView) → MeansRun r files tasks machine demands
    → released_jobs (plan_of tasks machine r.scheduler) r.ticks ≤ MOST_JOBS
    → (loads_rose → ⊥) → (Rose old.faults new.faults → ⊥) → s ≢ status.NoMemory
    → RunsOrIsDenied r.version r.governor (run_for (plan_of tasks machine r.scheduler) demands r.ticks) old new s
IsDoneOrDenied (with_files files (response r)) loads_rose old new s =
    (tasks : List Task) (machine : Table) → MeansPlan r files tasks machine
    → (loads_rose → ⊥) → (Rose old.faults new.faults → ⊥) → s ≢ status.NoMemory
    → RespondsOrIsDenied (plan_of tasks machine Rm) s
IsDoneOrDenied a loads_rose old new s = ⊤

-- The answer of `least` over these files, without a premise. One that is done has written the lines of the
-- answer for the machine that its file means, which passes the check and is the minimum; one that is denied asks for
-- more units than that machine does in the ticks.
abbrev pub ProvesLeast : Asked → SinkView → SinkView → Status → Type 0
ProvesLeast (with_files files (least l)) old new status.Done =
    (m : Table) × (a : Least) × (machine_at l.machine files ≡ Ok m) × IsLeastOn m l a
    × Takes old new (least_text a)
ProvesLeast (with_files files (least l)) old new (status.NotAdmitted why) =
    (m : Table) × (machine_at l.machine files ≡ Ok m) × AreTooMany m l why
ProvesLeast a old new s = ⊤

-- the lines of a status are put to `notes`, or after a run that asked for probes and is done the lines of those that
-- are left; whole or in part, with the names of the command's tasks
abbrev pub PutsNotes : Asked → List ProbeView → Status → SinkView → SinkView → Type 0
PutsNotes (with_files files c) ps s old new = NotedAs old new (noted_text (asks_probes c) (names_by c files) ps s)
PutsNotes (refused_words why) ps s old new = NotedAs old new (status_text [] s)
PutsNotes (without_files c) ps s old new =
    (names : List (List ℕ)) × NotedAs old new (noted_text (asks_probes c) names ps s)

-- The probes that the words ask for were told the notes of a run that is done. Of a run whose write failed they were told
-- the notes of the lines before that write.
abbrev pub TellsProbes : Asked → Outputs → Outputs → Status → Type 0
TellsProbes (with_files files (run r)) old new status.Done = TellsFileRun (Some files) r old new status.Done
TellsProbes (with_files files (run r)) old new status.Write = TellsFileRun (Some files) r old new status.Write
TellsProbes (without_files (run r)) old new status.Done = TellsFileRun None r old new status.Done
TellsProbes (without_files (run r)) old new status.Write = TellsFileRun None r old new status.Write
TellsProbes a old new s = ⊤
