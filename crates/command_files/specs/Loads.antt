-- What a step that loads files gives; only for proofs.
use Rattle.std.specs.Prelude.{Result, Bool, true, List, [], ◌∷◌, Option, Some, None, ℕ, IfOk, IfErr, IsTrue, if◌then◌else◌}
use Rattle.dvs_base.specs.Outside.{Files, ShelfView}
use Rattle.words.specs.Commands.{CommandView, tasks_name}
use Rattle.statuses.specs.declared.status.FileKind.{FileKind}
use Rattle.statuses.specs.declared.status.FileKind.TheVariants as file
use Rattle.statuses.specs.declared.status.Status.{Status}
use Rattle.statuses.specs.Status.{OfLoad, IsShown}
use Rattle.statuses.specs.Steps.{Gives, Refuses, CountsStep}
use Rattle.command_files.specs.Files.{NamedFile, named_file, files_of, passes, loads_while, FailsFrom, MakesLoads}

-- what a step loads: these files, one after another as long as each is passed, and what they mean
pub record LoadOf (A : Type 0) : Type 0 where
  pub files : List NamedFile
  pub passed : NamedFile → Bool
  pub means : Files → Result A Status

-- the load of one file, or of none
abbrev pub each_of : {A : Type 0} → List NamedFile → (Files → Result A Status) → LoadOf A
each_of files means = record { files = files; passed = λ f. true; means = means }

-- the load of the file of this kind and this name
abbrev pub one_file : {A : Type 0} → FileKind → List ℕ → (Files → Result A Status) → LoadOf A
one_file kind name means = each_of (named_file kind name ∷ []) means

-- these files without the first
abbrev pub but_first : List NamedFile → List NamedFile
but_first [] = []
but_first (f ∷ fs) = fs

-- these files without the tasks, which come first if there are tasks
abbrev pub but_tasks : Option (List ℕ) → List NamedFile → List NamedFile
but_tasks None fs = fs
but_tasks (Some name) fs = but_first fs

-- the files of a command that are loaded after its tasks
abbrev pub files_after : CommandView → List NamedFile
files_after c = but_tasks (tasks_name c) (files_of c)

-- the loads of a command after its tasks, if its files may be known
abbrev pub later_files : {A : Type 0} → Option Files → CommandView → (Files → Result A Status) → LoadOf A
later_files files c means = record { files = files_after c; passed = passes files c; means = means }

-- the number of loads of the tasks, if a file of them is named
abbrev pub tasks_loads : Option (List ℕ) → ℕ
tasks_loads None = 0
tasks_loads (Some name) = 1

-- whether the loads of a command go on after these tasks
abbrev pub passes_tasks : Option Files → CommandView → Option (List ℕ) → Bool
passes_tasks files c None = true
passes_tasks files c (Some name) = passes files c (named_file file.Tasks name)

-- the most loads that a command's answer needs after its tasks
abbrev pub loads_after : Option Files → CommandView → ℕ
loads_after files c =
    if passes_tasks files c (tasks_name c) then loads_while (passes files c) (files_after c) else 0

-- a load that failed after the tasks of a command is of one of its later files, and those before it are passed
abbrev pub LaterLoadFails : Option Files → ShelfView → ShelfView → CommandView → Status → Type 0
LaterLoadFails files old new c s =
    OfLoad (λ kind. IsTrue (passes_tasks files c (tasks_name c)) × FailsFrom (passes files c) old new 1 (files_after c) kind) s

-- What a step that loads files gives: the value that they mean, or a refusal. The value is seen through `see`.
pub record IsLoadStep {T A : Type 0} (l : LoadOf A) (old new : ShelfView) (r : Result T Status) (see : T → A) (files : Option Files) : Type 0 where
  -- a value is the one that the files mean
  pub read : IfOk r (λ v. Gives files l.means (see v))
  -- a status is the refusal of the files, unless the outside or memory explains it
  pub refused : IfErr r (Refuses files l.means)
  -- a load that failed is of one of the files, and those before it are passed
  pub failed : IfErr r (OfLoad (FailsFrom l.passed old new 1 l.files))
  -- no further loads were made
  pub loads : MakesLoads (loads_while l.passed l.files) old new
  -- the count of failed loads changes only with the status `Load`
  pub counts : CountsStep old.faults new.faults r
  -- what the status shows by itself
  pub shown : IfErr r IsShown
