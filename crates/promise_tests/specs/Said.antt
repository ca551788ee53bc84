-- What users of the top call say of it: each of these follows from one promise.
use Rattle.std.specs.Prelude.{◌≡◌, ◌≢◌, ℕ, ◌+◌, ◌-◌, ◌≤◌, ◌<◌, ◌++◌, ◌⊎◌, true, List, [], ◌∷◌, length, take, Some, None, Result, Ok, Err}
use Rattle.dvs_base.specs.Widths.{u64_end}
use Rattle.dvs_base.specs.Outside.{Files, file_of}
use Rattle.dvs_base.specs.declared.limits.TheConstants.{MOST_JOBS}
use Rattle.dvs_base.specs.declared.note.Note.{Note}
use Rattle.dvs_base.specs.declared.kind.Scheduler.TheVariants.{Rm}
use Rattle.task_model.specs.declared.task.Task.{Task}
use Rattle.task_model.specs.DemandRows.{DemandRow}
use Rattle.freq_table.specs.Tables.{Table, lowest_entry, speed_at}
use Rattle.demand_list.specs.Demands.{DemandsView}
use Rattle.sched_model.specs.Tests.{PassesAt}
use Rattle.sched_model.specs.Admission.{PassesTest}
use Rattle.sched_model.specs.StaticDemand.{static_demand}
use Rattle.sched_model.specs.Jobs.{released_jobs}
use Rattle.sched_model.specs.Plan.{Plan, plan_of}
use Rattle.sched_model.specs.Ticks.{IsMet}
use Rattle.energy_bound.specs.Schedules.{IsLeast}
use Rattle.energy_bound.specs.declared.least.Least.{Least}
use Rattle.event_kernel.specs.Runs.{Run, run_for}
use Rattle.poll_server.specs.ServerJobs.{ServerView}
use Rattle.probes.specs.Tallies.{told_notes}
use Rattle.words.specs.Commands.{CommandView, RunView, AdmitView, TracedView, ResponseView, PollView, LeastView, run, admit, traced, response, poll, least, asks_probes}
use Rattle.words.specs.declared.command.WordFault.{WordFault}
use Rattle.statuses.specs.Noted.{noted_text}
use Rattle.statuses.specs.declared.status.Denied.{Denied}
use Rattle.statuses.specs.declared.status.FileKind.{FileKind}
use Rattle.statuses.specs.declared.status.Status.{Status}
use Rattle.statuses.specs.declared.status.Status.TheVariants as status
use Rattle.command_files.specs.Files.{NamedFile, files_of, names_by}
use Rattle.command_files.specs.Meanings.{machine_at, tasks_at}
use Rattle.rtdvs_top.specs.PlannedRuns.{prepared_of}
use Rattle.rtdvs_top.specs.Asked.{loads_wanted}
use Rattle.rtdvs_top.specs.Poll.{HasServed, polling_of}
use Rattle.rtdvs_top.specs.Promised.{Outside}
use Rattle.rtdvs_top.specs.Promises.{MeansRun, admit_plan, answer_of_command, run_plan}
use Rattle.rtdvs_top.specs.Response.{MeansPlan, Responds}
use Rattle.rtdvs_top.specs.Run.{job_demands, ticks_under}
use Rattle.rtdvs_top.specs.ToldRuns.{notes_under}
use Rattle.rtdvs_top.specs.Trace.{AreFilesOf, IsScheduleText}
use Rattle.dvs_base.specs.declared.kind.GovernorKind.{GovernorKind}
use Rattle.dvs_base.specs.declared.kind.Version.{Version}

-- a count of faults didn't rise, nor was it at its type's end
pub record Stayed (before now : ℕ) : Type 0 where
  pub same : now ≡ before
  pub low : before < u64_end - 1

-- one of these named files is of this kind, and isn't among the files
abbrev pub LacksOne : Files → FileKind → List NamedFile → Type 0
LacksOne files kind [] = ⊥
LacksOne files kind (f ∷ fs) = ((kind ≡ f.kind) × (file_of files f.name ≡ None)) ⊎ LacksOne files kind fs

-- the words of a call, the files that its shelf may hold, what it sees before and after, and its status
module _ (command : Result CommandView WordFault) (files : Files) (old new : Outside) (s : Status) where
  -- who is denied is denied by the answer
  abbrev pub IsDeniedByAnswer : Type 0
  IsDeniedByAnswer =
      (c : CommandView) (why : Denied) → command ≡ Ok c → s ≡ status.NotAdmitted why
      → answer_of_command c files ≡ Err (status.NotAdmitted why)

  -- if no load of known files failed, `Load` says that a file isn't there
  abbrev pub LacksItsFile : Type 0
  LacksItsFile =
      (c : CommandView) (kind : FileKind) → command ≡ Ok c → s ≡ status.Load kind → old.shelf.held ≡ Some files
      → Stayed old.shelf.faults new.shelf.faults → LacksOne files kind (files_of c)

  -- the output took the whole answer
  abbrev pub HasWhole : Type 0
  HasWhole =
      (c : CommandView) → command ≡ Ok c → s ≡ status.Done
      → (text : List ℕ) × (answer_of_command c files ≡ Ok text) × (new.out.taken ≡ old.out.taken ++ text)

  -- after a failed write the output took a beginning of the answer, and wasn't sure of all of it
  abbrev pub HasBeginning : Type 0
  HasBeginning =
      (c : CommandView) → command ≡ Ok c → s ≡ status.Write
      → (text : List ℕ) × (answer_of_command c files ≡ Ok text) × (old.out.sure < length text)
      × (k : ℕ) × (k ≤ length text) × (new.out.taken ≡ old.out.taken ++ take k text)

  -- an output that is sure of just the answer doesn't fail
  abbrev pub HasRoom : Type 0
  HasRoom =
      (c : CommandView) (text : List ℕ) → command ≡ Ok c → answer_of_command c files ≡ Ok text → old.out.sure ≡ length text
      → new.out.faults ≡ old.out.faults

  -- a run of files that describe one is done or denied, if nothing fails
  abbrev pub IsDecided : Type 0
  IsDecided =
      (r : RunView) (tasks : List Task) (machine : Table) (demands : DemandsView) → command ≡ Ok (run r)
      → MeansRun r files tasks machine demands → released_jobs (plan_of tasks machine r.scheduler) r.ticks ≤ MOST_JOBS
      → Stayed old.shelf.faults new.shelf.faults → Stayed old.out.faults new.out.faults → s ≢ status.NoMemory
      → (s ≡ status.Done) ⊎ ((why : Denied) × (s ≡ status.NotAdmitted why))

  -- a run that is done misses no deadline
  abbrev pub MissesNone : Type 0
  MissesNone =
      (r : RunView) → command ≡ Ok (run r) → s ≡ status.Done
      → (tasks : List Task) × (machine : Table) × (demands : DemandsView) × MeansRun r files tasks machine demands
      × (let w : Run = run_for (plan_of tasks machine r.scheduler) demands r.ticks in IsMet w.plan (job_demands w) (ticks_under r.governor w))

  -- a plan that is denied fails its scheduler's test
  abbrev pub FailsItsTest : Type 0
  FailsItsTest =
      (r : RunView) (why : Denied) → command ≡ Ok (run r) → s ≡ status.NotAdmitted why
      → (p : Plan) × (run_plan r files ≡ Ok p) × (PassesTest p.scheduler p → ⊥)

  -- with each lower speed than the one that `admit` prints the scheduler's test fails
  abbrev pub FailsAtLower : Type 0
  FailsAtLower =
      (a : AdmitView) → command ≡ Ok (admit a) → s ≡ status.Done
      → (p : Plan) × (admit_plan a files ≡ Ok p)
      × ((e : ℕ) → e < lowest_entry p.machine (static_demand p) → PassesAt (speed_at p.machine e) p.scheduler p → ⊥)

  -- a trace that is replayed is the text of a schedule, and no such text is said to differ
  abbrev pub IsScheduled : Type 0
  IsScheduled =
      (r : TracedView) → command ≡ Ok (traced r) → s ≡ status.Done
      → (v : Version) × (p : Plan) × (g : GovernorKind) × (ticks : ℕ) × (rows : List DemandRow) × (bytes : List ℕ)
      × AreFilesOf r files p bytes × IsScheduleText v p g ticks rows bytes

  abbrev pub NeverDiffers : Type 0
  NeverDiffers =
      (r : TracedView) (v : Version) (p : Plan) (g : GovernorKind) (ticks : ℕ) (rows : List DemandRow) (bytes : List ℕ)
      → command ≡ Ok (traced r) → AreFilesOf r files p bytes → IsScheduleText v p g ticks rows bytes
      → (line : ℕ) (wanted found : Note) → s ≢ status.Differs line wanted found

  -- an exact test that is done has responses that meet each deadline
  abbrev pub HasResponses : Type 0
  HasResponses =
      (r : ResponseView) → command ≡ Ok (response r) → s ≡ status.Done
      → (tasks : List Task) × (machine : Table) × MeansPlan r files tasks machine × Responds (plan_of tasks machine Rm)

  -- a `poll` run that is done has served its requests in time
  abbrev pub ServesRequests : Type 0
  ServesRequests =
      (q : PollView) → command ≡ Ok (poll q) → s ≡ status.Done
      → (tasks : List Task) × (server : ServerView) × (tasks_at q.tasks files ≡ Ok tasks)
      × (polling_of q tasks files ≡ Ok server) × HasServed server q.governor q.ticks

  -- no schedule costs less than what `least` says
  abbrev pub CostsLeast : Type 0
  CostsLeast =
      (l : LeastView) → command ≡ Ok (least l) → s ≡ status.Done
      → (m : Table) × (a : Least) × (machine_at l.machine files ≡ Ok m) × IsLeast m l.units l.ticks a

  -- a sink of notes that doesn't fail took all lines of the command's status, or of its probes
  abbrev pub HasNotes : Type 0
  HasNotes =
      (c : CommandView) → command ≡ Ok c → Stayed old.notes.faults new.notes.faults
      → new.notes.taken ≡ old.notes.taken ++ noted_text (asks_probes c) (names_by c files) new.probes s

  -- the probes of a run that is done have counted its notes
  abbrev pub CountsNotes : Type 0
  CountsNotes =
      (r : RunView) → command ≡ Ok (run r) → r.probes ≡ true → s ≡ status.Done
      → (tasks : List Task) × (p : Plan) × (d : DemandsView) × (tasks_at r.tasks files ≡ Ok tasks)
      × (prepared_of r tasks files ≡ Ok (p, d))
      × (new.probes ≡ told_notes (notes_under r.governor (run_for p d r.ticks)) old.probes)

  -- the shelf keeps its files, and no more loads are made than the answer needs
  pub record LoadsFew : Type 0 where
    pub files_stay : new.shelf.held ≡ old.shelf.held
    pub few : length new.shelf.gave ≤ length old.shelf.gave + loads_wanted (Some files) command
    pub exactly_sure : old.shelf.sure ≡ loads_wanted (Some files) command → new.shelf.faults ≡ old.shelf.faults

  -- what users say of a call: each field follows from the promise of its name
  pub record Says : Type 0 where
    pub answers : IsDeniedByAnswer
    pub load : LacksItsFile
    pub done : HasWhole
    pub part : HasBeginning
    pub headline : IsDecided
    pub run : MissesNone
    pub admitted : FailsItsTest
    pub admitted_low : FailsAtLower
    pub exact : IsScheduled
    pub exact_back : NeverDiffers
    pub tested : HasResponses
    pub polled : ServesRequests
    pub least : CostsLeast
    pub notes : HasNotes
    pub told : CountsNotes
    pub shelf : LoadsFew
    pub sure : HasRoom
