-- The status is the answer's, from how the answer ends and why its loads failed.
use Rattle.std.proofs.Common.{◌≡◌, ◌≢◌, ◌≤◌, ◌⊎◌, inl, inr, ℕ, ◌+◌, Bool, true, false, if◌then◌else◌, length, List, [], ◌∷◌, Option, Some, None, Result, Ok, Err, IsTrue, refl, sym, ap, subst, arith, rules}
use Rattle.dvs_base.specs.Outside.{Files, ShelfView, SinkView, Rose, Lacks, file_of}
use Rattle.words.specs.declared.command.WordFault.{WordFault}
use Rattle.words.specs.Commands.{CommandView, run, admit, traced, workload, response, constrain, poll, least}
use Rattle.rtdvs_top.specs.Asked.{asked_with}
use Rattle.rtdvs_top.specs.Promises.{answer_of_command, IsAnswer, Answers, Writes, WritesPart, IsSureOf, LoadFailed}
use Rattle.command_files.specs.Files.{NamedFile, MakesLoads, loads_while, loads_needed, loads_of, files_of, is_passed, passes, FailsFrom}
use Rattle.dvs_base.specs.Loaded.{Load}
use Rattle.command_files.specs.GivenFiles.{MayBe, MayHold, Known, loads_since}
use Rattle.statuses.specs.Status.{CountsPuts, Leaves}
use Rattle.rtdvs_top.specs.Prepared.{EndsAs}
use Rattle.statuses.specs.declared.status.FileKind.{FileKind}
use Rattle.statuses.specs.declared.status.Status.{Status}
use Rattle.statuses.specs.declared.status.Status.TheVariants as status
use Rattle.rtdvs_top.proofs.DeniedPlans.{status_of}

-- the answer ends with the load of the first of these files that is lacking, if those before it are passed
abbrev StopsAt : Files → CommandView → List NamedFile → Result (List ℕ) Status → Type 0
StopsAt files c [] answer = Unit {0}
StopsAt files c (f ∷ fs) answer =
    (file_of files f.name ≡ None → answer ≡ Err (status.Load f.kind))
    × (IsTrue (is_passed c f.kind f.name files) → StopsAt files c fs answer)

-- the answer of each command stops at its files, in their order
stops : (files : Files) (c : CommandView) → StopsAt files c (files_of c) (answer_of_command c files)
stops files (run r) = search rules
stops files (admit a) = search rules
stops files (traced r) = search rules
stops files (workload seed) = tt
stops files (response r) = search rules
stops files (constrain r) = search rules
stops files (poll q) = search rules
stops files (least l) = search rules

-- a file that the shelf lacks is none of the files that it may hold
lacking : (files : Files) (held : Option Files) (given : List Load) (name : List ℕ) → MayBe held given files → Lacks held name
    → file_of files name ≡ None
lacking files None given name may lacks = absurd lacks
lacking files (Some known) given name may lacks = subst (λ (fs : Files). file_of fs name ≡ None) (sym may) lacks

-- a load that failed is the answer, or the count of faults rose
fails-answer : (files : Files) (c : CommandView) (old new : ShelfView) (answer : Result (List ℕ) Status) (kind : FileKind)
    → MayHold old new files → (place : ℕ) (fs : List NamedFile) → StopsAt files c fs answer
    → FailsFrom (passes (Some files) c) old new place fs kind
    → (answer ≡ Err (status.Load kind)) ⊎ Rose old.faults new.faults
fails-answer files c old new answer kind may place [] stop fails = absurd fails
fails-answer files c old new answer kind may place (f ∷ fs) stop (inl (same, inl lacks)) =
    inl (rw same (stop.0 (lacking files old.held (loads_since old new) f.name may lacks.0)))
fails-answer files c old new answer kind may place (f ∷ fs) stop (inl (same, inr rose)) = inr rose.0
fails-answer files c old new answer kind may place (f ∷ fs) stop (inr (read, later)) =
    fails-answer files c old new answer kind may (place + 1) fs (stop.1 read) later

pub answers-of : (files : Option Files) (c : CommandView) (old new : ShelfView) (out_old out_new : SinkView) (s : Status)
    → Known files old new
    → EndsAs out_old out_new files (answer_of_command c) s → LoadFailed files old new (Ok c) s
    → Answers (asked_with files c) (Rose old.faults new.faults) (Rose out_old.faults out_new.faults) s
answers-of None c old new out_old out_new s known ends failed = tt
answers-of (Some files) c old new out_old out_new status.Done known ends failed = rw ends.1 refl
answers-of (Some files) c old new out_old out_new status.Write known ends failed = (rw ends.1 refl, ends.2.rose)
answers-of (Some files) c old new out_old out_new (status.Words why) known ends failed = absurd ends
answers-of (Some files) c old new out_old out_new (status.Load kind) known ends failed =
    fails-answer files c old new (answer_of_command c files) kind known 1 (files_of c) (stops files c) failed
answers-of (Some files) c old new out_old out_new status.NoMemory known ends failed = tt
answers-of (Some files) c old new out_old out_new s known ends failed = ends

-- if no load and no put failed and memory didn't run out, the status is the answer's
pub undisturbed : (loads_rose puts_rose : Type 0) (answer : Result (List ℕ) Status) (s : Status)
    → IsAnswer loads_rose puts_rose answer s → (loads_rose → ⊥) → (puts_rose → ⊥) → s ≢ status.NoMemory → s ≡ status_of answer
undisturbed loads_rose puts_rose (Ok text) status.Done h still whole memory = refl
undisturbed loads_rose puts_rose (Err e) status.Done h still whole memory = absurd (cc)
undisturbed loads_rose puts_rose answer status.Write h still whole memory = absurd (whole h.1)
undisturbed loads_rose puts_rose answer status.NoMemory h still whole memory = absurd (memory refl)
undisturbed loads_rose puts_rose answer (status.Load kind) (inl e) still whole memory = sym (ap status_of e)
undisturbed loads_rose puts_rose answer (status.Load kind) (inr rose) still whole memory = absurd (still rose)
undisturbed loads_rose puts_rose answer s h still whole memory = sym (ap status_of h)

-- a sink that is sure of the whole answer counts no further fault
pub sure-of : {W : Type 0} (shows : W → SinkView) (files : Option Files) (c : CommandView) (s : Status) (old new : W)
    → EndsAs (shows old) (shows new) files (answer_of_command c) s → Leaves s old new
    → IsSureOf (asked_with files c) (shows old)
    → (shows new).faults ≡ (shows old).faults
sure-of shows None c s old new ends leaves sure = absurd sure
sure-of shows (Some files) c status.Done old new ends leaves sure = ends.2.steady
sure-of shows (Some files) c status.Write old new ends leaves sure =
    let whole = sure ends.0 ends.1 in omega (arith, whole, ends.2.unsure)
sure-of shows (Some files) c s old new ends leaves sure = ap (λ w. (shows w).faults) leaves

-- words that were read are not refused
pub not-words : (files : Option Files) (c : CommandView) (s : Status) (old new : SinkView) (why : WordFault)
    → EndsAs old new files (answer_of_command c) s → s ≡ status.Words why → ⊥
not-words None c s old new why ends refused = subst (EndsAs old new None (answer_of_command c)) refused ends
not-words (Some files) c s old new why ends refused = subst (EndsAs old new (Some files) (answer_of_command c)) refused ends

-- what was written if the answer is done, and if a put failed
pub writes-of : (files : Option Files) (c : CommandView) (s : Status) (old new : SinkView)
    → EndsAs old new files (answer_of_command c) s → s ≡ status.Done → Writes (asked_with files c) old new
writes-of None c s old new ends done = let e = subst (EndsAs old new None (answer_of_command c)) done ends in (e.0, e.2)
writes-of (Some files) c s old new ends done = subst (EndsAs old new (Some files) (answer_of_command c)) done ends

pub parts-of : (files : Option Files) (c : CommandView) (s : Status) (old new : SinkView)
    → EndsAs old new files (answer_of_command c) s → s ≡ status.Write → WritesPart (asked_with files c) old new
parts-of None c s old new ends failed = let e = subst (EndsAs old new None (answer_of_command c)) failed ends in (e.0, e.2)
parts-of (Some files) c s old new ends failed = subst (EndsAs old new (Some files) (answer_of_command c)) failed ends

-- how the sink's count of failed puts goes with the status
pub counts-puts : {W : Type 0} (shows : W → SinkView) (files : Option Files) (c : CommandView) (s : Status) (old new : W)
    → EndsAs (shows old) (shows new) files (answer_of_command c) s → Leaves s old new
    → CountsPuts (shows old).faults (shows new).faults s
counts-puts shows files c status.Done old new ends leaves = ends.2.steady
counts-puts shows files c status.Write old new ends leaves = (ends.2.rose, ends.2.later)
counts-puts shows files c s old new ends leaves = ap (λ w. (shows w).faults) leaves

-- an answer needs no more loads than the words name files
pub few-loads : (passed : NamedFile → Bool) (fs : List NamedFile) → loads_while passed fs ≤ length fs
few-loads passed [] = omega arith
few-loads passed (f ∷ fs) = go (passed f) (few-loads passed fs)
  where
    go : (b : Bool) → loads_while passed fs ≤ length fs → 1 + (if b then loads_while passed fs else 0) ≤ length (f ∷ fs)
    go true few = omega (arith, few)
    go false few = omega arith

-- a shelf that is sure of all files of a command counts no further fault
pub loads-sure : (held : Option Files) (c : CommandView) (old new : ShelfView) → MakesLoads (loads_needed held c) old new
    → loads_of c ≤ old.sure → new.faults ≡ old.faults
loads-sure held c old new made sure = made.steady (omega (arith, few-loads (passes held c) (files_of c), sure))
