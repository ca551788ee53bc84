-- The lines of a trace, the words of its plan, and the lines of a text.
use Rattle.std.specs.Prelude.{ℕ, List, [], ◌∷◌, ◌==◌, if◌then◌else◌, ◌++◌, codes, decimal, option_map}
use Rattle.dvs_base.specs.declared.note.Note.{Note}
use Rattle.dvs_base.specs.declared.note.Note.TheVariants.{Release, Speed, Run, Idle, Done, End}
use Rattle.dvs_base.specs.declared.note.Pos.{Pos}
use Rattle.dvs_base.specs.declared.kind.Scheduler.{Scheduler}
use Rattle.dvs_base.specs.declared.kind.GovernorKind.{GovernorKind}
use Rattle.dvs_base.specs.NoteTasks.{note_task}
use Rattle.dvs_base.specs.Parts.{position_text, fraction_text, name_text, name_of}
use Rattle.dvs_base.specs.declared.kind.Scheduler.TheVariants.{Edf, Rm}
use Rattle.dvs_base.specs.declared.kind.GovernorKind.TheVariants.{Plain, Fixed, Cycle, Ahead}

-- the lines with one more byte at the start of the first
abbrev pub with_byte : ℕ → List (List ℕ) → List (List ℕ)
with_byte b [] = (b ∷ []) ∷ []
with_byte b (first ∷ rest) = (b ∷ first) ∷ rest

-- the lines of a text, each with the line feed that ends it
abbrev pub lines_of : List ℕ → List (List ℕ)
lines_of [] = []
lines_of (b ∷ text) = if b == 10 then (b ∷ []) ∷ lines_of text else with_byte b (lines_of text)

-- the line of these fields: a space between each two, and a line feed
abbrev pub line : List (List ℕ) → List ℕ
line [] = 10 ∷ []
line (field ∷ []) = field ++ (10 ∷ [])
line (field ∷ other ∷ fields) = field ++ (32 ∷ line (other ∷ fields))

-- the fields of a running segment's line: its two ends, the task's name, the job, its units and its energy
abbrev pub run_fields : Pos → Pos → List ℕ → ℕ → ℕ → ℕ → List (List ℕ)
run_fields from to name k units energy =
    codes "run" ∷ position_text from ∷ position_text to ∷ name ∷ decimal k ∷ decimal units ∷ decimal energy ∷ []

-- the fields of an idle segment's line: its two ends, its units and its energy
abbrev pub idle_fields : Pos → Pos → ℕ → ℕ → List (List ℕ)
idle_fields from to units energy =
    codes "idle" ∷ position_text from ∷ position_text to ∷ decimal units ∷ decimal energy ∷ []

-- the fields of a completion's line: the position, the task's name, the job and the units that it had
abbrev pub done_fields : Pos → List ℕ → ℕ → ℕ → List (List ℕ)
done_fields q name k used = codes "done" ∷ position_text q ∷ name ∷ decimal k ∷ decimal used ∷ []

-- the fields of a note's line, with its task's name
abbrev pub fields_with : List ℕ → Note → List (List ℕ)
fields_with name (Release t i k) = codes "release" ∷ decimal t ∷ name ∷ decimal k ∷ []
fields_with name (Speed t f num den) = codes "speed" ∷ decimal t ∷ decimal f ∷ fraction_text num den ∷ []
fields_with name (Run from to i k units energy) = run_fields from to name k units energy
fields_with name (Idle from to units energy) = idle_fields from to units energy
fields_with name (Done q i k used) = done_fields q name k used
fields_with name (End t run idle) = codes "end" ∷ decimal t ∷ decimal run ∷ decimal idle ∷ []

-- the fields of a note's line, with the tasks' names for their numbers
abbrev pub fields_of : List (List ℕ) → Note → List (List ℕ)
fields_of names n = fields_with (name_text (option_map (name_of names) (note_task n))) n

-- the line of a note
unfoldable pub note_text : List (List ℕ) → Note → List ℕ
note_text names n = line (fields_of names n)

-- the fields of a trace's first line, its version
abbrev pub version_fields : List (List ℕ)
version_fields = codes "trace" ∷ codes "1" ∷ []

-- the first line of a trace
abbrev pub version_text : List ℕ
version_text = line version_fields

-- a scheduler's word
abbrev pub scheduler_word : Scheduler → List ℕ
scheduler_word Edf = codes "edf"
scheduler_word Rm = codes "rm"

-- the word of a governor's kind
abbrev pub governor_word : GovernorKind → List ℕ
governor_word Plain = codes "none"
governor_word Fixed = codes "static"
governor_word Cycle = codes "cc"
governor_word Ahead = codes "la"

-- the fields of a trace's second line, its plan
abbrev pub plan_fields : Scheduler → GovernorKind → ℕ → List (List ℕ)
plan_fields s g ticks = codes "plan" ∷ scheduler_word s ∷ governor_word g ∷ decimal ticks ∷ []

-- the second line of a trace
abbrev pub plan_text : Scheduler → GovernorKind → ℕ → List ℕ
plan_text s g ticks = line (plan_fields s g ticks)
