-- Traces, and the one text of each.
use Rattle.std.specs.Prelude.{List, ℕ, [], ◌∷◌, ◌<◌, ◌^◌, Bool, true, false, ◌≡◌, ◌+◌, ◌≤◌, length, ◌++◌, if◌then◌else◌}
use Rattle.std.specs.List.{AllByRecursion}
use Rattle.dvs_base.specs.Widths.{u64_end}
use Rattle.dvs_base.specs.declared.note.Note.{Note}
use Rattle.dvs_base.specs.declared.note.Note.TheVariants.{Release, Speed, Run, Idle, Done, End}
use Rattle.dvs_base.specs.declared.note.Pos.{Pos}
use Rattle.dvs_base.specs.declared.kind.Version.{Version}
use Rattle.dvs_base.specs.PlanWords.{is_pair}
use Rattle.dvs_base.specs.declared.limits.TheConstants.{MOST_TICKS, MOST_LINES}
use Rattle.trace_text.specs.declared.write.PlanLine.{PlanLine}
use Rattle.trace_text.specs.TraceText.{whole_text, task_energy, has_task_lines}

-- a trace: its version, its plan and its notes
pub record TraceView : Type 0 where
  pub version : Version
  pub plan : PlanLine
  pub notes : List Note

-- the text of a trace, for tasks with these names and lines
abbrev pub text_of : List (List ℕ) → List (List ℕ) → TraceView → List ℕ
text_of names tasks t = whole_text t.version t.plan.scheduler t.plan.governor t.plan.ticks names tasks t.notes

-- both numbers of a position are below 2^64
abbrev pub IsPlace : Pos → Type 0
IsPlace q = (q.tick < u64_end) × (q.offset < u64_end)

-- the note's numbers fit in their types, and its task is below c
abbrev pub IsNoteOf : ℕ → Note → Type 0
IsNoteOf c (Release t i k) = (t < u64_end) × (i < c) × (k < u64_end)
IsNoteOf c (Speed t f num den) = (t < u64_end) × (f < u64_end) × (num < 2 ^ 128) × (den < 2 ^ 128)
IsNoteOf c (Run from to i k units energy) =
    IsPlace from × IsPlace to × (i < c) × (k < u64_end) × (units < u64_end) × (energy < 2 ^ 128)
IsNoteOf c (Idle from to units energy) = IsPlace from × IsPlace to × (units < u64_end) × (energy < 2 ^ 128)
IsNoteOf c (Done q i k used) = IsPlace q × (i < c) × (k < u64_end) × (used < u64_end)
IsNoteOf c (End t run idle) = (t < u64_end) × (run < 2 ^ 128) × (idle < 2 ^ 128)

-- the note ends the run
abbrev pub is_end : Note → Bool
is_end (End t run idle) = true
is_end _ = false

-- the last note is the end of the run, and no other is
abbrev pub IsEnded : List Note → Type 0
IsEnded [] = ⊥
IsEnded (n ∷ []) = is_end n ≡ true
IsEnded (n ∷ m ∷ notes) = (is_end n ≡ false) × IsEnded (m ∷ notes)

-- in a version that has lines for the tasks' energies, the energy of each of the c tasks is below 2^128
abbrev pub HasShares : Version → ℕ → List Note → Type 0
HasShares v c notes = has_task_lines v ≡ true → (i : ℕ) → i < c → task_energy notes i < 2 ^ 128

-- how many lines a version has for the tasks: one for each of `tasks`, and one for the energy of each of `names`, or none
abbrev pub lines_for_tasks : Version → ℕ → ℕ → ℕ
lines_for_tasks v names tasks = if has_task_lines v then tasks + names else 0

-- a trace that has a text, for tasks with these names and lines
pub record IsTrace (names tasks : List (List ℕ)) (t : TraceView) : Type 0 where
  pub pair : is_pair t.plan.scheduler t.plan.governor ≡ true
  pub some_ticks : 1 ≤ t.plan.ticks
  pub low_ticks : t.plan.ticks ≤ MOST_TICKS
  pub each : AllByRecursion (IsNoteOf (length names)) t.notes
  pub ended : IsEnded t.notes
  pub shares : HasShares t.version (length names) t.notes
  pub lines : 2 + lines_for_tasks t.version (length names) (length tasks) + length t.notes ≤ MOST_LINES

-- the trace has a text, and the bytes are it
abbrev pub IsTextOf : List (List ℕ) → List (List ℕ) → List ℕ → TraceView → Type 0
IsTextOf names tasks bytes t = IsTrace names tasks t × (bytes ≡ text_of names tasks t)

-- each trace has one text, and no text is the beginning of another trace's text
abbrev pub HaveOneText : List (List ℕ) → List (List ℕ) → Type 0
HaveOneText names tasks = (t u : TraceView) (more : List ℕ) → IsTrace names tasks t → IsTrace names tasks u
    → text_of names tasks t ++ more ≡ text_of names tasks u → (t ≡ u) × (more ≡ [])
