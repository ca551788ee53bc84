-- The tasks of a command are loaded first: what that load gives, and how the loads after it add to it.
use Rattle.std.proofs.Common.{◌≡◌, ◌≤◌, inl, inr, ℕ, ◌+◌, Bool, true, List, [], ◌∷◌, Option, Some, None, Result, Ok, Err, IsTrue, refl, sym, ◌∙◌, ap, subst, arith, if◌then◌else◌}
use Rattle.dvs_base.specs.Outside.{Files, ShelfView, Rose, Lacks}
use Rattle.dvs_base.specs.Checks.{and_then}
use Rattle.std.specs.Prelude.{IsErrAnd}
use Rattle.task_model.specs.declared.task.Task.{Task}
use Rattle.words.specs.Commands.{CommandView, run, admit, traced, workload, response, constrain, poll, least, tasks_name}
use Rattle.statuses.specs.declared.status.FileKind.{FileKind}
use Rattle.statuses.specs.declared.status.FileKind.TheVariants as file
use Rattle.statuses.specs.declared.status.Status.{Status}
use Rattle.statuses.specs.declared.status.Status.TheVariants as status
use Rattle.statuses.specs.Status.{IsOfFile, OfLoad, CountsLoads}
use Rattle.statuses.specs.Steps.{EndsWith, Refuses}
use Rattle.statuses.specs.StatusLines.{status_text}
use Rattle.command_files.specs.Meanings.{tasks_at}
use Rattle.command_files.specs.Files.{NamedFile, named_file, files_of, passes, FailsFrom, MakesLoads, loads_needed, loads_while, names_at, names_from}
use Rattle.command_files.proofs.GivenLoads.{gave-none}
use Rattle.command_files.specs.Loads.{one_file, but_first, but_tasks, passes_tasks, tasks_loads, loads_after, IsLoadStep, LaterLoadFails}
use Rattle.rtdvs_top.specs.Admit.{admit_after_tasks}
use Rattle.rtdvs_top.specs.Run.{run_after_tasks}
use Rattle.rtdvs_top.specs.Trace.{trace_after_tasks}
use Rattle.rtdvs_top.specs.Response.{response_after_tasks}
use Rattle.rtdvs_top.specs.Constrain.{constrain_after_tasks}
use Rattle.rtdvs_top.specs.Poll.{poll_after_tasks}
use Rattle.rtdvs_top.specs.Asked.{Asked, asked_with, with_files}
use Rattle.rtdvs_top.specs.Promises.{answer_of_command, LoadFailed, ProvesTests}
use Rattle.rtdvs_top.specs.Prepared.{AreTasksAt, HasTaskNames, IsTasksStep, IsPrepareStep, IsRefused}
use Rattle.rtdvs_top.specs.declared.prepared.Prepared.{Prepared}

-- a command that names a file of tasks loads it first, and its answer goes on with the tasks
record LoadsTasks (c : CommandView) (name : List ℕ) : Type 0 where
  later : List Task → Files → Result (List ℕ) Status
  first : files_of c ≡ named_file file.Tasks name ∷ but_first (files_of c)
  answer : (files : Files) → answer_of_command c files ≡ and_then (tasks_at name files) (λ tasks. later tasks files)

abbrev Starts : CommandView → Option (List ℕ) → Type 0
Starts c None = Unit {0}
Starts c (Some name) = LoadsTasks c name

starts : (c : CommandView) → Starts c (tasks_name c)
starts (run r) = record { later = run_after_tasks r; first = refl; answer = λ files. refl }
starts (admit a) = record { later = admit_after_tasks a; first = refl; answer = λ files. refl }
starts (traced r) = record { later = trace_after_tasks r; first = refl; answer = λ files. refl }
starts (workload seed) = tt
starts (response r) = record { later = response_after_tasks r; first = refl; answer = λ files. refl }
starts (constrain r) = record { later = constrain_after_tasks r; first = refl; answer = λ files. refl }
starts (poll q) = record { later = poll_after_tasks q; first = refl; answer = λ files. refl }
starts (least l) = tt

-- a chain whose first step is refused is refused so
ends-then : {A B : Type 0} (step : Result A Status) (next : A → Result B Status) (s : Status) → EndsWith step s
    → EndsWith (and_then step next) s
ends-then step next status.Done h = absurd h
ends-then step next (status.Words why) h = absurd h
ends-then step next status.Write h = absurd h
ends-then step next status.NoMemory h = tt
ends-then step next (status.Load kind) h = tt
ends-then step next s h = ap (λ r. and_then r next) h

-- a status that is of a file says nothing of an exact test
pub of-file-tested : (a : Asked) (s : Status) → IsOfFile s → ProvesTests a s
of-file-tested (with_files files (response r)) status.Done h = absurd h
of-file-tested (with_files files (response r)) (status.NotAdmitted why) h = absurd h
of-file-tested (with_files files (response r)) s h = tt
of-file-tested (with_files files (constrain r)) status.Done h = absurd h
of-file-tested (with_files files (constrain r)) (status.NotAdmitted why) h = absurd h
of-file-tested (with_files files (constrain r)) (status.Limit jobs) h = absurd h
of-file-tested (with_files files (constrain r)) s h = tt
of-file-tested a s h = tt

-- the load of the tasks that a command names
module _ (c : CommandView) (name : List ℕ) (named : Some name ≡ tasks_name c) (old new : ShelfView) (files : Option Files) where
  abbrev own : LoadsTasks c name
  own = subst (Starts c) (sym named) (starts c)

  refuses : (held : Option Files) (s : Status) → Refuses held (tasks_at name) s → Refuses held (answer_of_command c) s
  refuses None s h = h
  refuses (Some files) s h =
      subst (λ (answer : Result (List ℕ) Status). EndsWith answer s) (sym (own.answer files))
      (ends-then (tasks_at name files) (λ tasks. own.later tasks files) s h)

  -- the lines of such a status name no task, or the file gives no names
  unnamed : (held : Option Files) (s : Status) → IsOfFile s → Refuses held (tasks_at name) s → HasTaskNames held c None s
  unnamed None s h refused = tt
  unnamed (Some files) (status.Load kind) h refused = refl
  unnamed (Some files) status.NoMemory h refused = refl
  unnamed (Some files) (status.Text why) h refused =
      ap (λ (names : List (List ℕ)). status_text names (status.Text why))
      (sym (ap (λ (o : Option (List ℕ)). names_at o files) (sym named) ∙ ap names_from refused))
  unnamed (Some files) s h refused = absurd h

  -- a load that failed is of the command's first file
  first-failed : (s : Status) → OfLoad (FailsFrom (λ f. true) old new 1 (named_file file.Tasks name ∷ [])) s
      → LoadFailed files old new (Ok c) s
  first-failed (status.Load kind) h =
      subst (λ (fs : List NamedFile). FailsFrom (passes files c) old new 1 fs kind) (sym own.first) (alone h)
    where
      alone : FailsFrom (λ f. true) old new 1 (named_file file.Tasks name ∷ []) kind
          → FailsFrom (passes files c) old new 1 (named_file file.Tasks name ∷ but_first (files_of c)) kind
      alone (inl x) = inl x
      alone (inr x) = absurd x.1
  first-failed s h = tt

  own-loads : MakesLoads 1 old new → MakesLoads (tasks_loads (tasks_name c)) old new
  own-loads made = subst (λ (o : Option (List ℕ)). MakesLoads (tasks_loads o) old new) named made

  -- the tasks were read
  pub tasks-read : (tasks : List Task) → IsLoadStep {A = List Task} (one_file file.Tasks name (tasks_at name)) old new (Ok tasks) (λ v. v) files
      → IsTasksStep old new c (Ok (Some tasks)) files
  tasks-read tasks step = record {
    read = subst (λ (o : Option (List ℕ)). AreTasksAt files o (Some tasks)) named step.read;
    refused = tt;
    failed = tt;
    loads = own-loads step.loads;
    counts = step.counts;
  }

  -- they were refused
  pub tasks-refused : (s : Status) → IsLoadStep {A = List Task} (one_file file.Tasks name (tasks_at name)) old new (Err s) (λ (v : List Task). v) files
      → IsOfFile s → IsTasksStep old new c (Err s) files
  tasks-refused s step of_file = record {
    read = tt;
    refused = record {
      ended = refuses files s step.refused;
      tested = of-file-tested (asked_with files c) s of_file;
      named = unnamed files s of_file step.refused;
      shown = step.shown;
    };
    failed = first-failed s step.failed;
    loads = own-loads step.loads;
    counts = step.counts;
  }

-- what holds of an error that is handed on
pub at-error : {T : Type 0} (P : Result T Status → Type 0) (r : Result T Status) (s : Status) → IsErrAnd r (λ x. x ≡ s) → P (Err s)
    → P r
at-error P (Ok v) s is h = absurd is
at-error {T} P (Err x) s is h = subst (λ (y : Status). P (Err y)) (sym is) h

-- what was prepared after the tasks of a command ends in a refusal
pub refused-step : {old new : ShelfView} {c : CommandView} {tasks : Option (List Task)} {files : Option Files} {s : Status} (r : Result Prepared Status)
    → IsErrAnd r (λ x. x ≡ s) → IsRefused files c tasks s → LaterLoadFails files old new c s → MakesLoads (loads_after files c) old new
    → CountsLoads old.faults new.faults s → IsPrepareStep old new c tasks r files
refused-step {old} {new} {c} {tasks} {files} {s} r is refused failed loads counts =
    at-error (λ (x : Result Prepared Status). IsPrepareStep old new c tasks x files) r s is
    (record { prepared = tt; refused = refused; failed = failed; loads = loads; counts = counts })

-- no load was made
pub none-made : (shelf : ShelfView) → MakesLoads 0 shelf shelf
none-made shelf = record { held = refl; later = omega arith; steady = λ sure. refl; surety = omega arith; gave = gave-none shelf }

-- a command without a file of tasks loads none
pub no-tasks : (c : CommandView) (shelf : ShelfView) → None ≡ tasks_name c → (files : Option Files) → IsTasksStep shelf shelf c (Ok None) files
no-tasks c shelf none files = record {
  read = subst (λ (o : Option (List ℕ)). AreTasksAt files o None) none tt;
  refused = tt;
  failed = tt;
  loads = subst (λ (o : Option (List ℕ)). MakesLoads (tasks_loads o) shelf shelf) none (none-made shelf);
  counts = refl;
}

-- the loads of a command's tasks, and those after them, are the loads that its answer needs
pub needed-loads : (held : Option Files) (c : CommandView) → loads_needed held c ≡ tasks_loads (tasks_name c) + loads_after held c
needed-loads held c = go (tasks_name c) (starts c)
  where
    go : (o : Option (List ℕ)) → Starts c o → loads_needed held c
        ≡ tasks_loads o + (if passes_tasks held c o then loads_while (passes held c) (but_tasks o (files_of c)) else 0)
    go None none = omega arith
    go (Some name) own = ap (loads_while (passes held c)) own.first

-- A load that failed, if `few` loads were made before it, failed in a later place.
module _ (passed : NamedFile → Bool) (old mid new : ShelfView) (kind : FileKind) (few : ℕ) (made : MakesLoads few old mid)
    (still : mid.faults ≡ old.faults) where
  fails-later : (near far : ℕ) (fs : List NamedFile) → near + few ≤ far → FailsFrom passed mid new near fs kind
      → FailsFrom passed old new far fs kind
  fails-later near far [] room fails = absurd fails
  fails-later near far (f ∷ fs) room (inl (is, inl lacks)) =
      inl (is, inl (subst (λ (held : Option Files). Lacks held f.name) made.held lacks.0, lacks.1 ∙ still))
  fails-later near far (f ∷ fs) room (inl (is, inr rose)) =
      inl (is, inr (subst (λ (n : ℕ). Rose n new.faults) still rose.0, omega (arith, rose.1, made.surety, room)))
  fails-later near far (f ∷ fs) room (inr (read, later)) =
      inr (read, fails-later (near + 1) (far + 1) fs (omega (arith, room)) later)

-- a load that failed after the tasks of a command were read
module _ (files : Option Files) (old mid new : ShelfView) (kind : FileKind) (still : mid.faults ≡ old.faults) where
  abbrev Fails : CommandView → Option (List ℕ) → Type 0
  Fails c o = IsTrue (passes_tasks files c o) × FailsFrom (passes files c) mid new 1 (but_tasks o (files_of c)) kind

  load-failed : (c : CommandView) → MakesLoads (tasks_loads (tasks_name c)) old mid → LaterLoadFails files mid new c (status.Load kind)
      → LoadFailed files old new (Ok c) (status.Load kind)
  load-failed c made fails = go (tasks_name c) (starts c) made fails
    where
      go : (o : Option (List ℕ)) → Starts c o → MakesLoads (tasks_loads o) old mid → Fails c o
          → FailsFrom (passes files c) old new 1 (files_of c) kind
      go None none made fails = fails-later (passes files c) old mid new kind 0 made still 1 1 (files_of c) (omega arith) fails.1
      go (Some name) own made fails =
          subst (λ (fs : List NamedFile). FailsFrom (passes files c) old new 1 fs kind) (sym own.first)
          (inr (fails.0, fails-later (passes files c) old mid new kind 1 made still 1 (1 + 1) _ (omega arith) fails.1))

pub later-failed : (files : Option Files) (c : CommandView) (old mid new : ShelfView) (s : Status) → MakesLoads (tasks_loads (tasks_name c)) old mid
    → mid.faults ≡ old.faults → LaterLoadFails files mid new c s → LoadFailed files old new (Ok c) s
later-failed files c old mid new (status.Load kind) made still fails = load-failed files old mid new kind still c made fails
later-failed files c old mid new s made still fails = tt
