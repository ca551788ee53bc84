-- The notes of a span that are kept, and the account of notes.
use Rattle.std.specs.Prelude.{ℕ, ◌≤◌, List, Result, Ok, Err, take, [], ◌∷◌, ◌≡◌, length, map}
use Rattle.dvs_base.specs.declared.note.Note.{Note}
use Rattle.dvs_base.specs.Outside.{Rose}
use Rattle.sched_model.specs.Plan.{Plan, count}
use Rattle.sched_model.specs.Notes.{notes_before_end}
use Rattle.governor.specs.Meanings.{OwnDemand}
use Rattle.governor.specs.Schedule.{ask_of}
use Rattle.energy.specs.Books.{Books, account_after, HasTask, HasRoom, Told, books_of}
use Rattle.event_kernel.specs.declared.notes.TheConstants.{MOST_NOTES}
use Rattle.event_kernel.specs.Heard.{HasHeard, HasBalked}
use Rattle.event_kernel.specs.Runs.{demands_of, Run, run_ticks}

-- the listener heard all these notes, and its stops did not fall
abbrev pub HeardAll : {L : Type 0} → (L → Note → L → Type 0) → (L → ℕ) → L → L → List Note → Type 0
HeardAll heard stops from to notes = HasHeard heard from notes to × (stops from ≤ stops to)

-- The notes were handed to a listener: at Ok it heard all of them and its stops did not fall; at an error it balked at
-- one of them and its stops rose.
abbrev pub HandsOut : {L T E : Type 0} → (L → Note → L → Type 0) → (L → Note → L → Type 0) → (L → ℕ) → L → L → List Note → Result T E → Type 0
HandsOut heard balked stops from to notes (Ok v) = HeardAll heard stops from to notes
HandsOut heard balked stops from to notes (Err e) = HasBalked heard balked from notes to × (stops from ≤ stops to) × Rose (stops from) (stops to)

-- the notes of a run before the `End`
abbrev pub notes_before_end_of : OwnDemand → Run → List Note
notes_before_end_of demand r =
    let dem = demands_of r.plan r.demands in notes_before_end r.plan dem (ask_of demand r.plan dem) (run_ticks demand r)

-- the first `MOST_NOTES` of these notes
abbrev pub kept_notes : List Note → List Note
kept_notes notes = take MOST_NOTES notes

-- the account after these notes are added under the entry e
abbrev pub all_booked : Books → List Note → ℕ → Books
all_booked b [] e = b
all_booked b (note ∷ notes) e = all_booked (account_after b note e) notes e

-- the account has each note's task, and room for each note after those before it, under the entry e
abbrev pub CanBook : Books → List Note → ℕ → Type 0
CanBook b [] e = Unit {0}
CanBook b (note ∷ notes) e = HasTask b note × HasRoom b note e × CanBook (account_after b note e) notes e

-- the account of a plan's tasks and entries is the sums over these notes, each under some entry
pub record HasBooked (p : Plan) (b : Books) (notes : List Note) : Type 0 where
  pub told : List Told
  pub notes_are : map (λ t. t.0) told ≡ notes
  pub books : b ≡ books_of (count p) (length p.machine.points) told
