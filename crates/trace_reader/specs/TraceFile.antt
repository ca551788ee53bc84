-- The meaning of a text: the trace, or the first refusal.
use Rattle.std.specs.Prelude.{ℕ, List, [], length, ◌==◌, Bool, nat_le, true, Result, Ok, Err, if◌then◌else◌, ◌+◌, ◌∷◌, ◌++◌, false}
use Rattle.dvs_base.specs.declared.note.Note.{Note}
use Rattle.dvs_base.specs.declared.note.Note.TheVariants.{End}
use Rattle.dvs_base.specs.declared.kind.Version.{Version}
use Rattle.dvs_base.specs.Checks.{◌>>=◌}
use Rattle.trace_reader.specs.declared.line.Item.{Item}
use Rattle.trace_reader.specs.declared.line.Item.TheVariants.{Told, Share}
use Rattle.trace_reader.specs.declared.trace.TraceFault.{TraceFault}
use Rattle.trace_reader.specs.declared.trace.TraceFault.TheVariants.{Refused}
use Rattle.trace_reader.specs.declared.trace.TraceKind.{TraceKind}
use Rattle.trace_reader.specs.declared.trace.TraceKind.TheVariants as kind
use Rattle.trace_text.specs.TraceText.{task_energy, has_task_lines}
use Rattle.trace_reader.specs.Fields.{parts}
use Rattle.trace_reader.specs.Items.{item_of}
use Rattle.trace_reader.specs.Heads.{line_at, at_line, version_in, plan_line_of, parts_after_tasks, version_task_lines}
use Rattle.trace_reader.specs.Traces.{TraceView}

-- what was read so far: the notes, and the number of tasks whose energies were read
pub record SoFar : Type 0 where
  pub notes : List Note
  pub energies_read : ℕ

-- what was read before the first line of the notes
abbrev pub nothing_yet : SoFar
nothing_yet = record { notes = []; energies_read = 0 }

-- how many energies of tasks a trace has: one for each name, in a version that has such lines
abbrev pub energy_line_count : Version → List (List ℕ) → ℕ
energy_line_count v names = if has_task_lines v then length names else 0

-- whether the item may come next: the energies of the tasks are in file order, between the other notes and the last
abbrev pub is_in_order : ℕ → ℕ → Item → Bool
is_in_order energies_read energy_line_count (Share i energy) = i == energies_read
is_in_order energies_read energy_line_count (Told (End t run idle)) = nat_le energy_line_count energies_read
is_in_order energies_read energy_line_count (Told n) = energies_read == 0

-- whether the energy of a task is the sum over its runs; a note passes
abbrev pub is_right_share : List Note → Item → Bool
is_right_share notes (Share i energy) = energy == task_energy notes i
is_right_share notes (Told n) = true

-- the item of the next line, or the first check that it fails
unfoldable pub next_item : Version → List (List ℕ) → SoFar → List (List ℕ) → Result Item TraceKind
next_item v names s fields = do
  item ← item_of v names fields
  if is_in_order s.energies_read (energy_line_count v names) item
      then (if is_right_share s.notes item then Ok item else Err kind.Share)
      else Err kind.Order

-- what was read, with one item more
abbrev pub with_item : SoFar → Item → SoFar
with_item s (Told n) = record { notes = s.notes ++ n ∷ []; energies_read = s.energies_read }
with_item s (Share i energy) = record { notes = s.notes; energies_read = s.energies_read + 1 }

-- whether the item is the end of the run
abbrev pub ends : Item → Bool
ends (Told (End t run idle)) = true
ends _ = false

-- whether the parts are those of the empty text
abbrev pub is_nothing : List (List ℕ) → Bool
is_nothing ([] ∷ []) = true
is_nothing _ = false

-- the notes so far and those of the lines from line n on, or the first refusal
unfoldable pub notes_from : Version → List (List ℕ) → ℕ → SoFar → List (List ℕ) → Result (List Note) TraceFault
notes_from v names n s [] = Err (Refused n kind.NoEnd)
notes_from v names n s (line ∷ rest) = do
  first ← line_at n (line ∷ rest)
  item ← at_line n (next_item v names s (parts 32 first.0))
  if ends item
      then (if is_nothing rest then Ok ((with_item s item).notes) else Err (Refused (n + 1) kind.AfterEnd))
      else notes_from v names (n + 1) (with_item s item) rest

-- the trace of a text whose version is not above `newest`, for tasks with these names and lines
unfoldable pub trace_file : Version → List (List ℕ) → List (List ℕ) → List ℕ → Result TraceView TraceFault
trace_file newest names tasks bytes = do
  first ← line_at 1 (parts 10 bytes)
  version ← at_line 1 (version_in newest first.0)
  second ← line_at 2 first.1
  plan ← at_line 2 (plan_line_of (parts 32 second.0))
  rest ← parts_after_tasks 3 (version_task_lines version tasks) second.1
  notes ← notes_from version names rest.0 nothing_yet rest.1
  Ok (record { version = version; plan = plan; notes = notes })
