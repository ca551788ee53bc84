-- The items of the lines after the head of a trace: notes, and energies of tasks.
-- A line is split at each single space. The number of its fields is checked first, by its word; then the fields are
-- read from left to right.
use Rattle.std.specs.Prelude.{ℕ, List, Result, Ok, Err, [], ◌∷◌, codes, if◌then◌else◌, ◌<◌}
use Rattle.std.specs.Option.{ok_or}
use Rattle.std.specs.Str.{bytes_eq}
use Rattle.dvs_base.specs.declared.note.Note.TheVariants.{Release, Speed, Run, Idle, Done, End}
use Rattle.dvs_base.specs.declared.kind.Version.{Version}
use Rattle.dvs_base.specs.Parts.{two_of, three_of}
use Rattle.dvs_base.specs.Checks.{◌>>=◌}
use Rattle.trace_reader.specs.declared.line.Item.{Item}
use Rattle.trace_reader.specs.declared.line.Item.TheVariants.{Told, Share}
use Rattle.trace_reader.specs.declared.trace.TraceKind.{TraceKind}
use Rattle.trace_reader.specs.declared.trace.TraceKind.TheVariants as kind
use Rattle.trace_text.specs.TraceText.{has_task_lines}
use Rattle.trace_reader.specs.Fields.{whole_in, task_in, fraction_in, six_of, wide_in, position_in, four_of}

-- the release note of the fields after the word `release`
unfoldable pub release_in : List (List ℕ) → List (List ℕ) → Result Item TraceKind
release_in names fields = do
  three ← ok_or (three_of fields) kind.Word
  tick ← whole_in three.0
  task ← task_in names three.1
  job ← whole_in three.2
  Ok (Told (Release tick task job))

-- the speed note of the fields after the word `speed`
unfoldable pub speed_in : List (List ℕ) → Result Item TraceKind
speed_in fields = do
  three ← ok_or (three_of fields) kind.Word
  tick ← whole_in three.0
  speed ← whole_in three.1
  demand ← fraction_in three.2
  Ok (Told (Speed tick speed demand.0 demand.1))

-- the run note of the fields after the word `run`
unfoldable pub run_in : List (List ℕ) → List (List ℕ) → Result Item TraceKind
run_in names fields = do
  six ← ok_or (six_of fields) kind.Word
  from ← position_in six.0
  to ← position_in six.1
  task ← task_in names six.2
  job ← whole_in six.3
  units ← whole_in six.4
  energy ← wide_in six.5
  Ok (Told (Run from to task job units energy))

-- the idle note of the fields after the word `idle`
unfoldable pub idle_in : List (List ℕ) → Result Item TraceKind
idle_in fields = do
  four ← ok_or (four_of fields) kind.Word
  from ← position_in four.0
  to ← position_in four.1
  units ← whole_in four.2
  energy ← wide_in four.3
  Ok (Told (Idle from to units energy))

-- the completion note of the fields after the word `done`
unfoldable pub done_in : List (List ℕ) → List (List ℕ) → Result Item TraceKind
done_in names fields = do
  four ← ok_or (four_of fields) kind.Word
  at_end ← position_in four.0
  task ← task_in names four.1
  job ← whole_in four.2
  used ← whole_in four.3
  Ok (Told (Done at_end task job used))

-- the last note, of the fields after the word `end`
unfoldable pub end_in : List (List ℕ) → Result Item TraceKind
end_in fields = do
  three ← ok_or (three_of fields) kind.Word
  ticks ← whole_in three.0
  run ← wide_in three.1
  idle ← wide_in three.2
  Ok (Told (End ticks run idle))

-- the energy of a task, of the fields after the word `energy`, in a version that has such lines
unfoldable pub energy_in : Version → List (List ℕ) → List (List ℕ) → Result Item TraceKind
energy_in v names fields = do
  two ← if has_task_lines v then ok_or (two_of fields) kind.Word else Err kind.Word
  task ← task_in names two.0
  energy ← wide_in two.1
  Ok (Share task energy)

-- the item of a line's fields, by the first of them
unfoldable pub item_of : Version → List (List ℕ) → List (List ℕ) → Result Item TraceKind
item_of v names [] = Err kind.Word
item_of v names (word ∷ fields) =
    if bytes_eq word (codes "release") then release_in names fields
    else (if bytes_eq word (codes "speed") then speed_in fields
    else (if bytes_eq word (codes "run") then run_in names fields
    else (if bytes_eq word (codes "idle") then idle_in fields
    else (if bytes_eq word (codes "done") then done_in names fields
    else (if bytes_eq word (codes "end") then end_in fields
    else (if bytes_eq word (codes "energy") then energy_in v names fields
    else Err kind.Word))))))

-- the task of an item, if it has one, is below c
abbrev pub HasTaskBelow : ℕ → Item → Type 0
HasTaskBelow c (Told (Release t i k)) = i < c
HasTaskBelow c (Told (Run from to i k units energy)) = i < c
HasTaskBelow c (Told (Done q i k used)) = i < c
HasTaskBelow c (Share i energy) = i < c
HasTaskBelow c _ = Unit {0}
