-- Shown by evaluation: which of two refusals comes first, the lines of a difference, and how many loads a command needs.
-- Also what a status says of loads, puts, notes, probes, the test, its own cause and the things that it leaves.
use Rattle.std.proofs.Common.{IsTrue, is_ok, ◌≡◌, ◌⊎◌, inl, inr, ℕ, List, [], ◌∷◌, ◌++◌, map, Option, Some, None, true, false, Ok, Err, codes, refl, arith}
use Rattle.std.specs.Fmt.{digits}
use Rattle.dvs_base.specs.Outside.{Files, ShelfView, SinkView}
use Rattle.dvs_base.specs.declared.kind.Scheduler.TheVariants.{Edf}
use Rattle.dvs_base.specs.declared.kind.GovernorKind.TheVariants.{Plain}
use Rattle.dvs_base.specs.declared.kind.Version.TheVariants.{One}
use Rattle.dvs_base.specs.declared.note.Note.TheVariants.{Run, End}
use Rattle.dvs_base.specs.declared.note.Pos.{Pos}
use Rattle.task_model.specs.declared.task.Task.{Task}
use Rattle.trace_text.specs.TraceLines.{note_text}
use Rattle.demand_list.specs.Demands.{DemandsView}
use Rattle.freq_table.specs.Tables.{Table}
use Rattle.sched_model.specs.Plan.{Plan, period, plan_of}
use Rattle.sched_model.specs.Jobs.{released_jobs}
use Rattle.event_kernel.specs.Runs.{Run as RunOf}
use Rattle.probes.specs.Tallies.{told_notes}
use Rattle.probes.specs.Outputs.{Outputs}
use Rattle.rm_response_laws.specs.Responses.{is_first_done}
use Rattle.words.specs.Commands.{ConstrainView, RunView, CommandView, run, admit, traced, workload, response, constrain, poll, least}
use Rattle.words.specs.declared.command.TraceUse.{TraceUse}
use Rattle.words.specs.declared.command.TraceUse.TheVariants.{Replay, Migrate}
use Rattle.command_files.specs.Meanings.{tasks_at, machine_at}
use Rattle.rtdvs_top.specs.Constrain.{deadlines_at, constrain_with, constrain_answer}
use Rattle.command_files.specs.Files.{MakesLoads, loads_needed}
use Rattle.command_files.specs.GivenFiles.{Holds, MayHold, AreShort, HaveDistinctNames}
use Rattle.rtdvs_top.specs.Asked.{with_files}
use Rattle.rtdvs_top.specs.Promises.{AdmitsOrDenies, IsDoneOrDenied, LoadFailed, MeansRun, PutsNotes}
use Rattle.rtdvs_top.specs.Response.{FailsToRespond}
use Rattle.rtdvs_top.specs.ToldRuns.{TellsRun, notes_under}
use Rattle.statuses.specs.Noted.{NotedAs}
use Rattle.statuses.specs.Status.{CountsLoads, CountsPuts, IsShown, LeavesProbes, Leaves}
use Rattle.statuses.specs.StatusLines.{status_text}
use Rattle.statuses.specs.declared.status.FileKind.{FileKind}
use Rattle.statuses.specs.declared.status.FileKind.TheVariants.{Machine, Demands}
use Rattle.statuses.specs.declared.status.Status.{Status}
use Rattle.statuses.specs.declared.status.Status.TheVariants.{Done, NotAdmitted, Load, Text, Limit, OverWorst, Differs, Write}
use Rattle.statuses.specs.declared.status.Denied.TheVariants.{Offset, Response, Demand, Units}
use Rattle.statuses.specs.declared.status.Denied.{Denied}
use Rattle.statuses.specs.declared.status.Denied.TheVariants as denied
use Rattle.statuses.specs.declared.status.TextFault.TheVariants.{Trace}
use Rattle.trace_reader.specs.declared.trace.TraceFault.TheVariants as trace_fault

-- words that name the files t, m and d
abbrev words : ConstrainView
words = record { tasks = codes "t"; machine = codes "m"; deadlines = codes "d" }

-- a task that is first released at tick 1
abbrev later : List Task
later = record { name = codes "a"; period = 4; worst = 1; offset = 1 } ∷ []

-- a refused deadline file comes before a task with an offset
file_first :
    (files : Files) (machine : Table) (why : Status)
    → tasks_at (codes "t") files ≡ Ok later
    → machine_at (codes "m") files ≡ Ok machine
    → deadlines_at later (codes "d") files ≡ Err why
    → constrain_answer words files ≡ Err why
file_first files machine why tasks found deadlines = rw (tasks, found, deadlines) refl

-- with a deadline file that is read, the offset is the refusal
offset_next :
    (files : Files) (machine : Table)
    → tasks_at (codes "t") files ≡ Ok later
    → machine_at (codes "m") files ≡ Ok machine
    → deadlines_at later (codes "d") files ≡ Ok (3 ∷ [])
    → constrain_answer words files ≡ Err (NotAdmitted (Offset 0))
unfolding constrain_with
offset_next files machine tasks found deadlines = rw (tasks, found, deadlines) refl

abbrev at_tick : ℕ → Pos
at_tick tick = record { tick = tick; offset = 0 }

-- a difference has three lines: its place, the line of the run, and that of the trace
difference :
    status_text (codes "a" ∷ codes "b" ∷ []) (Differs 7 (End 2 0 0) (Run (at_tick 1) (at_tick 2) 1 3 5 45000000000))
    ≡ codes "differs: line 7\n" ++ codes "wanted: end 2 0 0\n" ++ codes "found: run 1:0 2:0 b 3 5 45000000000\n"
unfolding digits note_text
difference = refl

-- the commands over the files t, m and f

abbrev run_with : Option (List ℕ) → CommandView
run_with demands = run (record {
  tasks = codes "t";
  machine = codes "m";
  scheduler = Edf;
  governor = Plain;
  ticks = 8;
  demands = demands;
  probes = false;
  version = One;
})

abbrev admit_words : CommandView
admit_words = admit (record { tasks = codes "t"; machine = codes "m"; scheduler = Edf })

abbrev traced_words : TraceUse → CommandView
traced_words asked = traced (record { asked = asked; tasks = codes "t"; machine = codes "m"; trace = codes "f" })

abbrev poll_for : List ℕ → CommandView
poll_for server = poll (record {
  tasks = codes "t";
  machine = codes "m";
  requests = codes "f";
  server = server;
  scheduler = Edf;
  governor = Plain;
  ticks = 8;
})

abbrev least_words : CommandView
least_words = least (record { machine = codes "m"; units = 3; ticks = 8 })

-- the commands that name a file of tasks
abbrev with_tasks : List CommandView
with_tasks =
    run_with (Some (codes "f")) ∷ run_with None ∷ admit_words ∷ traced_words Replay ∷ traced_words Migrate
    ∷ response (record { tasks = codes "t"; machine = codes "m" }) ∷ constrain words ∷ poll_for (codes "a") ∷ []

-- if the tasks are refused no further load is needed
refused_tasks : (files : Files) (why : Status) → tasks_at (codes "t") files ≡ Err why
    → map (loads_needed (Some files)) with_tasks ≡ (1 ∷ 1 ∷ 1 ∷ 1 ∷ 1 ∷ 1 ∷ 1 ∷ 1 ∷ [])
refused_tasks files why tasks = rw tasks refl

-- if the tasks are read and the machine is refused, the third load isn't needed
refused_machine : (files : Files) (why : Status) → tasks_at (codes "t") files ≡ Ok later → machine_at (codes "m") files ≡ Err why
    → map (loads_needed (Some files)) with_tasks ≡ (2 ∷ 2 ∷ 2 ∷ 2 ∷ 2 ∷ 2 ∷ 2 ∷ 2 ∷ [])
refused_machine files why tasks machine = rw (tasks, machine) refl

-- if both are read the third file is loaded, if there is one
read_files : (files : Files) (machine : Table) → tasks_at (codes "t") files ≡ Ok later → machine_at (codes "m") files ≡ Ok machine
    → map (loads_needed (Some files)) with_tasks ≡ (3 ∷ 2 ∷ 2 ∷ 3 ∷ 3 ∷ 2 ∷ 3 ∷ 3 ∷ [])
read_files files machine tasks found = rw (tasks, found) refl

-- no task is called b, so `poll` doesn't load its machine
no_server : (files : Files) → tasks_at (codes "t") files ≡ Ok later → loads_needed (Some files) (poll_for (codes "b")) ≡ 1
no_server files tasks = rw tasks refl

-- `least` loads only its machine, also if that is refused
least_alone : (files : Files) (why : Status) → machine_at (codes "m") files ≡ Err why → loads_needed (Some files) least_words ≡ 1
least_alone files why machine = rw machine refl

-- `workload` loads nothing; over any files, each file may be loaded
files_unknown : (loads_needed None (workload 1) ≡ 0) × (map (loads_needed None) with_tasks ≡ (3 ∷ 2 ∷ 2 ∷ 3 ∷ 3 ∷ 2 ∷ 3 ∷ 3 ∷ []))
files_unknown = (refl, refl)

-- a shelf whose files are not known, after `faults` failed loads, and sure of `sure` more
abbrev shelf : ℕ → ℕ → ShelfView
shelf faults sure = record { held = None; gave = []; faults = faults; sure = sure }

-- the machine's load is the second: it may fail if the shelf was sure of one load
second_load : LoadFailed None (shelf 0 1) (shelf 1 0) (Ok admit_words) (Load Machine)
second_load = inr (refl, inl (refl, inr (omega arith, omega arith)))

-- but not if it was sure of two, with any files
sure_of_two : (files held : Option Files)
    → LoadFailed files (record { held = held; gave = []; faults = 0; sure = 2 }) (shelf 1 1) (Ok admit_words) (Load Machine) → ⊥
sure_of_two files held (inl tasks) = absurd (let same = tasks.0 in cc)
sure_of_two files held (inr (passed, inl (same, inl lacks))) = omega (arith, lacks.1)
sure_of_two files held (inr (passed, inl (same, inr failed))) = omega (arith, failed.1)
sure_of_two files held (inr (passed, inr none)) = none.1

-- the demands' load is the third
sure_of_three : LoadFailed None (shelf 0 3) (shelf 1 2) (Ok (run_with (Some (codes "f")))) (Load Demands) → ⊥
sure_of_three (inl tasks) = absurd (let same = tasks.0 in cc)
sure_of_three (inr (passed, inl machine)) = absurd (let same = machine.0 in cc)
sure_of_three (inr (passed, inr (read, inl (same, inl lacks)))) = omega (arith, lacks.1)
sure_of_three (inr (passed, inr (read, inl (same, inr failed)))) = omega (arith, failed.1)
sure_of_three (inr (passed, inr (read, inr none))) = none.1

-- a load of the machine shows that the tasks were read
read_first : (files : Files) (new : ShelfView)
    → LoadFailed (Some files) (record { held = Some files; gave = []; faults = 0; sure = 0 }) new (Ok admit_words) (Load Machine)
    → IsTrue (is_ok (tasks_at (codes "t") files))
read_first files new (inl tasks) = absurd (let same = tasks.0 in cc)
read_first files new (inr later) = later.0

-- a count of failed loads that rose shows in the status
loads_counted : (s : Status) → CountsLoads 3 4 s → (kind : FileKind) × (s ≡ Load kind)
loads_counted (Load kind) counts = (kind, refl)
loads_counted s counts = absurd (omega (arith, counts))

-- a count of failed puts that rose shows in the status
puts_counted : (s : Status) → CountsPuts 3 4 s → s ≡ Write
puts_counted Write counts = refl
puts_counted s counts = absurd (omega (arith, counts))

-- and the status `Write` shows that it rose
write_counted : CountsPuts 3 3 Write → ⊥
write_counted counts = omega (arith, counts.0)

-- what isn't as it was shows that the status is `Done` or `Write`
changed_by : (s : Status) → Leaves {W = ℕ} s 1 2 → (s ≡ Done) ⊎ (s ≡ Write)
changed_by Done leaves = inl refl
changed_by Write leaves = inr refl
changed_by s leaves = absurd (omega (arith, leaves))

-- probes that aren't asked for stay as they were, also if a run is done; those that are asked for change only by the
-- same two statuses
probes_left : (LeavesProbes {V = ℕ} false Done 1 2 → ⊥) × (LeavesProbes {V = ℕ} false Write 1 2 → ⊥)
    × (LeavesProbes {V = ℕ} true (Limit 100001) 1 2 → ⊥)
probes_left = (λ same. omega (arith, same), λ same. omega (arith, same), λ same. omega (arith, same))

-- the count of failed loads never falls
counts_of_loads : MakesLoads 1 (shelf 3 0) (shelf 2 0) → ⊥
counts_of_loads made = omega (arith, made.later)

-- a shelf that is not known, after it gave the file of the name 1, whose one byte is 3
abbrev gave_one : ShelfView
gave_one = record { held = None; gave = (1 ∷ [], 9, 3 ∷ []) ∷ []; faults = 0; sure = 0 }

-- it may hold that file, beside others; it can't hold another under this name, or none
one_given : MayHold (shelf 0 0) gave_one ((2 ∷ [], 4 ∷ []) ∷ (1 ∷ [], 3 ∷ []) ∷ [])
    × (MayHold (shelf 0 0) gave_one ((1 ∷ [], 4 ∷ []) ∷ []) → ⊥) × (MayHold (shelf 0 0) gave_one [] → ⊥)
one_given = ((refl, tt), λ may. absurd (let same = may.0 in cc), λ may. absurd (let same = may.0 in cc))

-- a shelf that is known may hold its own files and no others, also if it gave other bytes
own_held : (files : Files) → MayHold (record { held = Some []; gave = []; faults = 0; sure = 0 }) gave_one files → files ≡ []
own_held files may = may

-- of a longer file the room and one byte more were given; no load gave more
cut_file : Holds ((1 ∷ [], 3 ∷ 4 ∷ 5 ∷ []) ∷ []) (1 ∷ [], 1, 3 ∷ 4 ∷ [])
    × (Holds ((1 ∷ [], 3 ∷ 4 ∷ 5 ∷ []) ∷ []) (1 ∷ [], 2, 3 ∷ 4 ∷ []) → ⊥)
    × AreShort ((1 ∷ [], 1, 3 ∷ 4 ∷ []) ∷ []) × (AreShort ((1 ∷ [], 0, 3 ∷ 4 ∷ []) ∷ []) → ⊥)
cut_file = (refl, λ same. absurd (cc), (omega arith, tt), λ short. omega (arith, short.0))

-- two loads of one name don't have distinct names, also with another between them
named_twice : HaveDistinctNames ((1 ∷ [], 9, []) ∷ (2 ∷ [], 9, []) ∷ (1 ∷ [], 8, 3 ∷ []) ∷ []) → ⊥
named_twice distinct = distinct.0.1.0 refl

-- a status doesn't show its cause by two equal numbers or notes, nor is the refusal of a file one that is a status of its own
not_shown : (IsShown (NotAdmitted (denied.Edf 4 4)) → ⊥) × (IsShown (NotAdmitted (denied.Rm 0 4 4)) → ⊥) × (IsShown (NotAdmitted (Response 0 4 4)) → ⊥)
    × (IsShown (NotAdmitted (Demand 6 4 4)) → ⊥) × (IsShown (NotAdmitted (Units 4 4)) → ⊥) × (IsShown (Limit 100000) → ⊥)
    × (IsShown (OverWorst 0 1 2 2) → ⊥) × (IsShown (Differs 3 (End 2 0 0) (End 2 0 0)) → ⊥) × (IsShown (Text (Trace trace_fault.NoMemory)) → ⊥)
not_shown = (
  λ s. omega (arith, s),
  λ s. omega (arith, s),
  λ s. omega (arith, s),
  λ s. omega (arith, s),
  λ s. omega (arith, s),
  λ s. omega (arith, s),
  λ s. omega (arith, s),
  λ s. s refl,
  λ s. s,
)

-- a run with exactly as many jobs as the limit isn't refused for them
as_many_jobs :
    (files : Files) (r : RunView) (tasks : List Task) (machine : Table) (demands : DemandsView) (out : SinkView) → MeansRun r files tasks machine demands
    → released_jobs (plan_of tasks machine r.scheduler) r.ticks ≡ 100000 → out.faults ≡ 0
    → IsDoneOrDenied (with_files files (run r)) ⊥ out out (Limit 100001) → ⊥
as_many_jobs files r tasks machine demands out means jobs none headline =
    neither (headline tasks machine demands means (omega (arith, jobs)) (λ rose. rose) (λ rose. omega (arith, none, rose)) (λ same. absurd (cc)))
  where
    neither : {A : Type 0} {B : Denied → Type 0} → ((Limit 100001 ≡ Done) × A) ⊎ ((why : Denied) × (Limit 100001 ≡ NotAdmitted why) × B why) → ⊥
    neither (inl done) = absurd (let same = done.0 in cc)
    neither (inr (why, same, by)) = absurd (cc)

-- a first part of an answer was put only if there is a plan, which is admitted
put_in_part : (P : Plan → Type 0) (why : Status) → AdmitsOrDenies P (Err why) Write → ⊥
put_in_part P why passes = absurd (let same = passes.1 in cc)

-- a task that is denied isn't complete at its period
late_at_its_period : (p : Plan) → FailsToRespond p (Response 0 5 4) → is_first_done p 0 (period p 0) ≡ false
late_at_its_period p fails = fails.1

-- the names in the notes are those of the tasks that were read
named_tasks : (files : Files) (old new : SinkView) → tasks_at (codes "t") files ≡ Ok later
    → PutsNotes (with_files files admit_words) [] (OverWorst 0 1 3 2) old new → NotedAs old new (codes "over worst: a 1 3 2\n")
unfolding digits
named_tasks files old new tasks notes = rw tasks at notes

-- the probes of a run that is done were told its notes
told_all : (r : RunOf) (old new : Outputs) → TellsRun One Plain r old new Done → new.probes ≡ told_notes (notes_under Plain r) old.probes
told_all r old new told = told
