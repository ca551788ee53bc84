-- Two lists of notes compared, and the line of the first unequal note.
use Rattle.std.specs.Prelude.{◌≡◌, ◌≢◌, ◌++◌, length, ℕ, ◌+◌, ◌*◌, ◌==◌, ◌&&◌, Bool, false, List, [], ◌∷◌, Option, Some, None, Result, Ok, Err, if◌then◌else◌}
use Rattle.dvs_base.specs.declared.note.Note.{Note}
use Rattle.dvs_base.specs.declared.note.Note.TheVariants.{Release, Speed, Run, Idle, Done, End}
use Rattle.dvs_base.specs.declared.note.Pos.{Pos}
use Rattle.dvs_base.specs.declared.note.Totals.{Totals}
use Rattle.dvs_base.specs.declared.kind.Version.{Version}
use Rattle.sched_model.specs.Totals.{totals_of}
use Rattle.trace_text.specs.TraceText.{has_task_lines}
use Rattle.trace_reader.specs.Traces.{TraceView}
use Rattle.replay.specs.declared.fault.ReplayFault.{ReplayFault}
use Rattle.replay.specs.declared.fault.ReplayFault.TheVariants as fault

-- whether two positions are equal
abbrev pub same_place : Pos → Pos → Bool
same_place q r = q.tick == r.tick && q.offset == r.offset

-- whether two notes are equal
abbrev pub same_note : Note → Note → Bool
same_note (Release t i k) (Release u j l) = t == u && i == j && k == l
same_note (Speed t f num den) (Speed u g n d) = t == u && f == g && num == n && den == d
same_note (Run from to i k units energy) (Run start end j l us en) =
    same_place from start && same_place to end && i == j && k == l && units == us && energy == en
same_note (Idle from to units energy) (Idle start end us en) =
    same_place from start && same_place to end && units == us && energy == en
same_note (Done q i k used) (Done r j l us) = same_place q r && i == j && k == l && used == us
same_note (End t run idle) (End u running idling) = t == u && run == running && idle == idling
same_note _ _ = false

-- the list is empty, or begins with another note than this one
abbrev pub IsOther : Note → List Note → Type 0
IsOther n [] = Unit {0}
IsOther n (m ∷ notes) = same_note m n ≡ false

-- where two lists of notes first differ: the place, counted from `at`, the note wanted there, and the one that is found
abbrev pub first_unequal : ℕ → List Note → List Note → Option (ℕ × Note × Note)
first_unequal at (w ∷ wanted) (f ∷ found) =
    if same_note f w then first_unequal (at + 1) wanted found else Some (at, w, f)
first_unequal at _ _ = None

-- the line of a note of a trace of `tasks` tasks, by the note's place from 0: two lines are before the notes, and those
-- of the tasks in a version that has them; before the end of the run also those of their energies
abbrev pub line_of : Version → ℕ → ℕ → Note → ℕ
line_of v tasks place (End ticks run idle) = place + 3 + (if has_task_lines v then 2 * tasks else 0)
line_of v tasks place n = place + 3 + (if has_task_lines v then tasks else 0)

-- the refusal of a trace of `tasks` tasks at the note at this place
abbrev pub differs : ℕ → TraceView → ℕ → Note → Note → ReplayFault
differs tasks t place wanted found = fault.Differs (line_of t.version tasks place found) wanted found

-- the totals of a trace of `tasks` tasks if its notes are those wanted, otherwise the first difference
abbrev pub unless_unequal : ℕ → TraceView → Option (ℕ × Note × Note) → Result Totals ReplayFault
unless_unequal tasks t None = Ok (totals_of t.notes)
unless_unequal tasks t (Some (place, wanted, found)) = Err (differs tasks t place wanted found)

-- the comparison of a trace of `tasks` tasks with the notes wanted: its totals, or the first difference
abbrev pub comparison : ℕ → TraceView → List Note → Result Totals ReplayFault
comparison tasks t wanted = unless_unequal tasks t (first_unequal 0 wanted t.notes)

-- after `place` equal notes the lists have w and f, which are unequal
pub record FirstUnequal (wanted found : List Note) (place : ℕ) (w f : Note) : Type 0 where
  pub before : List Note
  pub more : List Note
  pub others : List Note
  pub place_is : length before ≡ place
  pub wanted_are : wanted ≡ before ++ w ∷ more
  pub found_are : found ≡ before ++ f ∷ others
  pub unequal : w ≢ f
