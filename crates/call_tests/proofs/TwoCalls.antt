-- What two calls over one shelf and one sink show, from what each shows.
use Rattle.std.proofs.Common.{◌≡◌, ◌⊎◌, inl, inr, ℕ, ◌+◌, ◌≤◌, List, Option, Some, None, Result, Ok, Err, refl, ◌∙◌, arith}
use Rattle.dvs_base.specs.Outside.{Files, ShelfView, SinkView, Rose}
use Rattle.words.specs.Commands.{CommandView, run, admit, traced, workload, response, constrain, poll, least}
use Rattle.words.specs.declared.command.WordFault.{WordFault}
use Rattle.rtdvs_top.specs.Asked.{Asked, asked_of, with_files, without_files, refused_words, loads_asked, loads_wanted}
use Rattle.rtdvs_top.specs.Promises.{answer_of_command, Answers, IsAnswer}
use Rattle.rtdvs_top.proofs.StepAnswers.{few-loads}
use Rattle.command_files.specs.Files.{MakesLoads, passes, files_of}
use Rattle.command_files.specs.GivenFiles.{MayHold}
use Rattle.command_files.proofs.GivenLoads.{gave-fewer, held-known, known-first, known-later}
use Rattle.command_files.proofs.GivenAsFiles.{nothing-given}
use Rattle.statuses.specs.Status.{CountsPuts}
use Rattle.statuses.specs.declared.status.Status.{Status}
use Rattle.statuses.specs.declared.status.Status.TheVariants as status

-- a sink's count of failed puts never falls
pub puts-later : (before now : ℕ) (s : Status) → CountsPuts before now s → before ≤ now
puts-later before now status.Write counts = counts.1
puts-later before now s counts = omega (arith, counts)

-- a count that rose since later rose since earlier, and one that rose has risen later
rose-since : (earlier before now : ℕ) → earlier ≤ before → Rose before now → Rose earlier now
rose-since earlier before now since rose = omega (arith, since, rose)

rose-until : (before now later : ℕ) → now ≤ later → Rose before now → Rose before later
rose-until before now later until rose = omega (arith, until, rose)

-- an answer stays one if other counts have risen too
module _ {loads puts more_loads more_puts : Type 0} (of_loads : loads → more_loads) (of_puts : puts → more_puts) where
  is-answer : (answer : Result (List ℕ) Status) (s : Status) → IsAnswer loads puts answer s
      → IsAnswer more_loads more_puts answer s
  is-answer answer (status.Load kind) (inl same) = inl same
  is-answer answer (status.Load kind) (inr rose) = inr (of_loads rose)
  is-answer answer status.Write ends = (ends.0, of_puts ends.1)
  is-answer answer s ends = ends

  answers-as : (a : Asked) (s : Status) → Answers a loads puts s → Answers a more_loads more_puts s
  answers-as (without_files c) s answers = tt
  answers-as (refused_words why) s answers = answers
  answers-as (with_files files c) s answers = is-answer (answer_of_command c files) s answers

-- an answer needs no more loads than the words name files
wanted-few : (files : Option Files) (c : Result CommandView WordFault) → loads_wanted files c ≤ loads_asked c
wanted-few files (Ok c) = few-loads (passes files c) (files_of c)
wanted-few files (Err why) = omega arith

-- words that name no file are answered alike over all files
same-answer : (loads puts : Type 0) (files others : Files) (c : Result CommandView WordFault) (s : Status) → loads_asked c ≡ 0
    → Answers (asked_of (Some files) c) loads puts s → Answers (asked_of (Some others) c) loads puts s
same-answer loads puts files others (Err why) s none answers = answers
same-answer loads puts files others (Ok (workload seed)) s none answers = answers
same-answer loads puts files others (Ok (run r)) s none answers = absurd (omega (arith, none))
same-answer loads puts files others (Ok (admit a)) s none answers = absurd (omega (arith, none))
same-answer loads puts files others (Ok (traced r)) s none answers = absurd (omega (arith, none))
same-answer loads puts files others (Ok (response r)) s none answers = absurd (omega (arith, none))
same-answer loads puts files others (Ok (constrain r)) s none answers = absurd (omega (arith, none))
same-answer loads puts files others (Ok (poll q)) s none answers = absurd (omega (arith, none))
same-answer loads puts files others (Ok (least l)) s none answers = absurd (omega (arith, none))

-- a call answers over all files that its shelf may hold, by what it gave in the call
abbrev AnswersOver : ShelfView → ShelfView → SinkView → SinkView → Result CommandView WordFault → Status → Type 0
AnswersOver old new out_old out_new c s =
    (files : Files) → MayHold old new files
    → Answers (asked_of (Some files) c) (Rose old.faults new.faults) (Rose out_old.faults out_new.faults) s

-- so it answers over any files, if its words name none
over-any : (old new : ShelfView) (out_old out_new : SinkView) (c : Result CommandView WordFault) (s : Status)
    → MakesLoads (loads_wanted None c) old new → AnswersOver old new out_old out_new c s → loads_asked c ≡ 0 → (files : Files)
    → Answers (asked_of (Some files) c) (Rose old.faults new.faults) (Rose out_old.faults out_new.faults) s
over-any old new out_old out_new c s made answers none files = go old.held refl
  where
    go : (held : Option Files) → old.held ≡ held
        → Answers (asked_of (Some files) c) (Rose old.faults new.faults) (Rose out_old.faults out_new.faults) s
    go (Some known) is =
        same-answer (Rose old.faults new.faults) (Rose out_old.faults out_new.faults) known files c s none (answers known (held-known old new known is))
    go None unknown =
        let gave = gave-fewer (loads_wanted None c) 0 old new (omega (arith, wanted-few None c, none)) made.gave in
        answers files (nothing-given old new gave unknown files)

-- two calls over one shelf and one sink: both are seen before, between and after the calls
module _ (old mid new : ShelfView) (out_old out_mid out_new : SinkView) (first second : Result CommandView WordFault)
    (of_first : MakesLoads (loads_wanted None first) old mid) (of_second : MakesLoads (loads_wanted None second) mid new) where
  -- the first call's answer, where loads and counts are taken after the second
  pub first-answers : (s : Status) → out_mid.faults ≤ out_new.faults → AnswersOver old mid out_old out_mid first s
      → (files : Files) → MayHold old new files ⊎ (loads_asked first ≡ 0)
      → Answers (asked_of (Some files) first) (Rose old.faults new.faults) (Rose out_old.faults out_new.faults) s
  first-answers s puts answers files may =
      answers-as (rose-until old.faults mid.faults new.faults of_second.later)
      (rose-until out_old.faults out_mid.faults out_new.faults puts) (asked_of (Some files) first) s
      (elim may [
        | inl may ↦ answers files (known-first _ _ old mid new of_first.held of_first.gave of_second.gave (Some files) may)
        | inr none ↦ over-any old mid out_old out_mid first s of_first answers none files
      ])

  -- the second call's answer, where loads and counts are taken from before the first
  pub second-answers : (s : Status) → out_old.faults ≤ out_mid.faults → AnswersOver mid new out_mid out_new second s
      → (files : Files) → MayHold old new files ⊎ (loads_asked second ≡ 0)
      → Answers (asked_of (Some files) second) (Rose old.faults new.faults) (Rose out_old.faults out_new.faults) s
  second-answers s puts answers files may =
      answers-as (rose-since old.faults mid.faults new.faults of_first.later)
      (rose-since out_old.faults out_mid.faults out_new.faults puts) (asked_of (Some files) second) s
      (elim may [
        | inl may ↦ answers files (known-later _ _ old mid new of_first.held of_first.gave of_second.gave (Some files) may)
        | inr none ↦ over-any mid new out_mid out_new second s of_second answers none files
      ])

  -- no load fails if the shelf guarantees those that both commands name
  pub both-steady : (loads_asked first ≤ old.sure → mid.faults ≡ old.faults) → (loads_asked second ≤ mid.sure → new.faults ≡ mid.faults)
      → loads_asked first + loads_asked second ≤ old.sure → new.faults ≡ old.faults
  both-steady first_steady second_steady sure =
      let few = wanted-few None first in
      second_steady (omega (arith, few, of_first.surety, sure)) ∙ first_steady (omega (arith, sure))
