-- The files that a command names, and which of their loads fail.
use Rattle.std.specs.Prelude.{◌≡◌, ℕ, ◌≤◌, ◌⊎◌, ◌<◌, List, ◌+◌, Bool, true, is_ok, Option, Some, None, [], ◌∷◌, if◌then◌else◌, length, IsTrue, Result, Ok, Err}
use Rattle.dvs_base.specs.Outside.{Rose, ShelfView, Lacks, Files}
use Rattle.dvs_base.specs.Checks.{◌>>=◌}
use Rattle.words.specs.Commands.{CommandView, poll, run, admit, traced, workload, response, constrain, least, tasks_name}
use Rattle.statuses.specs.declared.status.FileKind.{FileKind}
use Rattle.statuses.specs.declared.status.FileKind.TheVariants as file
use Rattle.statuses.specs.declared.status.Status.{Status}
use Rattle.task_model.specs.declared.task.Task.{Task}
use Rattle.task_model.specs.Tasks.{names_of}
use Rattle.command_files.specs.Meanings.{tasks_at, machine_at, server_at}
use Rattle.command_files.specs.GivenFiles.{GaveMore}

-- at most `most` loads were made: the files stay, the count never falls, and stays if the shelf was sure of `most`
pub record MakesLoads (most : ℕ) (old new : ShelfView) : Type 0 where
  pub held : new.held ≡ old.held
  pub later : old.faults ≤ new.faults
  pub steady : most ≤ old.sure → new.faults ≡ old.faults
  pub surety : old.sure ≤ new.sure + most
  pub gave : GaveMore most old new

-- whether the loads of a command go on after a file: its tasks and its machine have to be read, and one of the tasks of
-- `poll` has to have the server's name too
abbrev pub is_passed : CommandView → FileKind → List ℕ → Files → Bool
is_passed (poll q) file.Tasks name files = is_ok (tasks_at name files >>= server_at q.server)
is_passed c file.Tasks name files = is_ok (tasks_at name files)
is_passed c file.Machine name files = is_ok (machine_at name files)
is_passed c kind name files = true

-- a file that a command names: the kind that it is read as, and its name
pub record NamedFile : Type 0 where
  pub kind : FileKind
  pub name : List ℕ

-- whether the loads of a command go on after one of its files; if the files are not known, they may
abbrev pub passes : Option Files → CommandView → NamedFile → Bool
passes None c f = true
passes (Some files) c f = is_passed c f.kind f.name files

-- the number of these files that are loaded: each after the first only if the one before it is passed
abbrev pub loads_while : (NamedFile → Bool) → List NamedFile → ℕ
loads_while passed [] = 0
loads_while passed (f ∷ fs) = 1 + (if passed f then loads_while passed fs else 0)

-- the file of this kind and this name
abbrev pub named_file : FileKind → List ℕ → NamedFile
named_file kind name = record { kind = kind; name = name }

-- the file of a name that may be given
abbrev pub if_named : FileKind → Option (List ℕ) → List NamedFile
if_named kind None = []
if_named kind (Some name) = named_file kind name ∷ []

-- the files of a command, in the order of its loads
abbrev pub files_of : CommandView → List NamedFile
files_of (run r) = named_file file.Tasks r.tasks ∷ named_file file.Machine r.machine ∷ if_named file.Demands r.demands
files_of (admit a) = named_file file.Tasks a.tasks ∷ named_file file.Machine a.machine ∷ []
files_of (traced r) = named_file file.Tasks r.tasks ∷ named_file file.Machine r.machine ∷ named_file file.Trace r.trace ∷ []
files_of (workload seed) = []
files_of (response r) = named_file file.Tasks r.tasks ∷ named_file file.Machine r.machine ∷ []
files_of (constrain r) = named_file file.Tasks r.tasks ∷ named_file file.Machine r.machine ∷ named_file file.Deadlines r.deadlines ∷ []
files_of (poll q) = named_file file.Tasks q.tasks ∷ named_file file.Machine q.machine ∷ named_file file.Requests q.requests ∷ []
files_of (least l) = named_file file.Machine l.machine ∷ []

-- the most loads that a command's answer needs: each file after the first only if the answer gets that far
abbrev pub loads_needed : Option Files → CommandView → ℕ
loads_needed files c = loads_while (passes files c) (files_of c)

-- the number of files that a command loads
abbrev pub loads_of : CommandView → ℕ
loads_of c = length (files_of c)

-- The load of one of these files, which is of this kind, failed, and those before it are passed; the first of them is
-- the `place`-th load. The files are known and lack its name, and the count of failed loads stayed; or the count rose,
-- and the shelf was sure of fewer loads.
abbrev pub FailsFrom : (NamedFile → Bool) → ShelfView → ShelfView → ℕ → List NamedFile → FileKind → Type 0
FailsFrom passed old new place [] kind = ⊥
FailsFrom passed old new place (f ∷ fs) kind =
    ((kind ≡ f.kind)
    × ((Lacks old.held f.name × (new.faults ≡ old.faults)) ⊎ (Rose old.faults new.faults × (old.sure < place))))
    ⊎ (IsTrue (passed f) × FailsFrom passed old new (place + 1) fs kind)

-- the names of the tasks that a file gives
abbrev pub names_from : Result (List Task) Status → List (List ℕ)
names_from (Ok tasks) = names_of (Some tasks)
names_from (Err s) = []

-- the names of the tasks of a file that may be named
abbrev pub names_at : Option (List ℕ) → Files → List (List ℕ)
names_at None files = []
names_at (Some name) files = names_from (tasks_at name files)

-- the names of the tasks that a command's files give
abbrev pub names_by : CommandView → Files → List (List ℕ)
names_by c files = names_at (tasks_name c) files
