-- How a step of a call ends: with a value, or with a status.
use Rattle.std.specs.Prelude.{◌≡◌, ⊤, ℕ, Result, Ok, Err, Option, Some, None, IfOk, IfErr}
use Rattle.dvs_base.specs.Outside.{Files}
use Rattle.statuses.specs.Status.{OfLoad, CountsLoads, IsShown}
use Rattle.statuses.specs.declared.status.Status.{Status}
use Rattle.statuses.specs.declared.status.Status.TheVariants as status

-- the status of a step that gave no value: the step's refusal, unless the outside or memory explains the status
abbrev pub EndsWith : {A : Type 0} → Result A Status → Status → Type 0
EndsWith step status.Done = ⊥
EndsWith step (status.Words why) = ⊥
EndsWith step status.Write = ⊥
EndsWith step status.NoMemory = ⊤
EndsWith step (status.Load kind) = ⊤
EndsWith step s = step ≡ Err s

-- the status of a step that gave no value, if the files are not known
abbrev pub IsRefusal : Status → Type 0
IsRefusal status.Done = ⊥
IsRefusal (status.Words why) = ⊥
IsRefusal status.Write = ⊥
IsRefusal s = ⊤

-- if the files are known, the step gives this value
abbrev pub Gives : {A : Type 0} → Option Files → (Files → Result A Status) → A → Type 0
Gives None step a = ⊤
Gives (Some files) step a = step files ≡ Ok a

-- if the files are known, the step ends with this status; otherwise it is a status that a step can refuse with
abbrev pub Refuses : {A : Type 0} → Option Files → (Files → Result A Status) → Status → Type 0
Refuses None step s = IsRefusal s
Refuses (Some files) step s = EndsWith (step files) s

-- a step that gives a value leaves the shelf's count of failed loads; one that fails changes it only with `Load`
abbrev pub CountsStep : {A : Type 0} → ℕ → ℕ → Result A Status → Type 0
CountsStep before now (Ok a) = now ≡ before
CountsStep before now (Err s) = CountsLoads before now s

-- What a step that loads nothing gives: its value, or its refusal. The value is seen through `see`.
pub record IsTestStep {T A : Type 0} (step : Result A Status) (r : Result T Status) (see : T → A) : Type 0 where
  -- a value is that of the step
  pub gives : IfOk r (λ v. step ≡ Ok (see v))
  -- a status is the refusal of the step, or memory ran out
  pub refused : IfErr r (EndsWith step)
  -- no load failed
  pub loads : IfErr r (OfLoad (λ kind. ⊥))
  -- what the status shows by itself
  pub shown : IfErr r IsShown
