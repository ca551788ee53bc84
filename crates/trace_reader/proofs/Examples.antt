-- Small texts and what is read from them, by evaluation.
use Rattle.std.proofs.Common.{◌≡◌, ℕ, ◌+◌, ◌++◌, List, [], ◌∷◌, flat_map, replicate, Result, Ok, Err, codes, refl}
use Rattle.std.specs.Fmt.{digits}
use Rattle.dvs_base.specs.declared.kind.Scheduler.TheVariants.{Edf, Rm}
use Rattle.dvs_base.specs.declared.kind.GovernorKind.TheVariants.{Fixed, Cycle}
use Rattle.dvs_base.specs.declared.kind.Version.{Version}
use Rattle.dvs_base.specs.declared.kind.Version.TheVariants.{One, Two}
use Rattle.dvs_base.specs.declared.limits.TheConstants.{MOST_LINES}
use Rattle.dvs_base.specs.declared.note.Note.TheVariants.{Release, Speed, Run, Idle, Done, End}
use Rattle.dvs_base.specs.declared.note.Pos.{Pos}
use Rattle.trace_text.specs.declared.versions.TaskLine.{TaskLine}
use Rattle.trace_reader.specs.declared.trace.TraceFault.{TraceFault}
use Rattle.trace_reader.specs.declared.trace.TraceFault.TheVariants.{Refused}
use Rattle.trace_reader.specs.declared.trace.TraceKind.TheVariants as kind
use Rattle.trace_reader.specs.Fields.{position_in, fraction_in, task_in}
use Rattle.trace_reader.specs.Items.{release_in, speed_in, run_in, idle_in, done_in, end_in, energy_in, item_of}
use Rattle.trace_reader.specs.Heads.{line_at, plan_line_of, parts_after_tasks}
use Rattle.trace_reader.specs.TraceFile.{next_item, notes_from, trace_file}
use Rattle.trace_reader.specs.Traces.{TraceView}
use Rattle.trace_text.specs.TraceText.{task_lines}

-- lines, each ended by a line feed
abbrev lines : List (List ℕ) → List ℕ
lines ls = flat_map (λ l. l ++ 10 ∷ []) ls

abbrev position : ℕ → ℕ → Pos
position tick offset = record { tick = tick; offset = offset }

abbrev names : List (List ℕ)
names = codes "a" ∷ codes "b" ∷ []

abbrev task_of : ℕ → ℕ → ℕ → TaskLine
task_of period offset worst = record { period = period; offset = offset; worst = worst }

-- what is read from these lines for task a (period 2, worst case 5) and task b (period 3, offset 1, worst case 4)
abbrev read : Version → List (List ℕ) → Result TraceView TraceFault
unfolding plan_line_of parts_after_tasks release_in speed_in run_in idle_in done_in end_in energy_in item_of position_in fraction_in
    task_in next_item notes_from trace_file digits
read newest text = trace_file newest names (task_lines names (task_of 2 0 5 ∷ task_of 3 1 4 ∷ [])) (lines text)

-- a text of version 1 with each kind of note
version_1 :
    read Two (
    codes "trace 1" ∷
    codes "plan rm static 2" ∷
    codes "release 0 a 1" ∷
    codes "speed 0 3 5/2" ∷
    codes "run 0:0 1:2 a 1 5 45000000000" ∷
    codes "done 1:2 a 1 5" ∷
    codes "idle 1:2 2:0 1 900000000" ∷
    codes "end 2 45000000000 900000000" ∷
    [])
    ≡ Ok (record {
      version = One;
      plan = record { scheduler = Rm; governor = Fixed; ticks = 2 };
      notes =
          Release 0 0 1
          ∷ Speed 0 3 5 2
          ∷ Run (position 0 0) (position 1 2) 0 1 5 45000000000
          ∷ Done (position 1 2) 0 1 5
          ∷ Idle (position 1 2) (position 2 0) 1 900000000
          ∷ End 2 45000000000 900000000
          ∷ [];
    })
unfolding read
version_1 = refl

-- the first lines of a text of version 2, in which a run of task a costs 18
abbrev head : List (List ℕ)
head =
    codes "trace 2" ∷
    codes "plan edf cc 1" ∷
    codes "task a 2 0 5" ∷
    codes "task b 3 1 4" ∷
    codes "run 0:0 1:0 a 1 2 18" ∷
    []

-- a whole text of version 2: the lines of its tasks and of their energies give no notes
version_2 :
    read Two (head ++ codes "energy a 18" ∷ codes "energy b 0" ∷ codes "end 1 18 0" ∷ [])
    ≡ Ok (record {
      version = Two;
      plan = record { scheduler = Edf; governor = Cycle; ticks = 1 };
      notes = Run (position 0 0) (position 1 0) 0 1 2 18 ∷ End 1 18 0 ∷ [];
    })
unfolding read
version_2 = refl

-- its first line is refused if version 1 is the newest that is read
too_new :
    read One (head ++ codes "energy a 18" ∷ codes "energy b 0" ∷ codes "end 1 18 0" ∷ [])
    ≡ Err (Refused 1 kind.Version)
unfolding read
too_new = refl

-- an energy line out of order with a wrong sum is refused for its order
order_first :
    read Two (head ++ codes "energy b 1" ∷ codes "energy a 18" ∷ codes "end 1 18 0" ∷ []) ≡ Err (Refused 6 kind.Order)
unfolding read
order_first = refl

-- an energy line in order with a wrong sum is refused for its sum
wrong_sum :
    read Two (head ++ codes "energy a 17" ∷ codes "energy b 0" ∷ codes "end 1 18 0" ∷ []) ≡ Err (Refused 6 kind.Share)
unfolding read
wrong_sum = refl

-- the `end` line is out of order before the last energy line
early_end : read Two (head ++ codes "energy a 18" ∷ codes "end 1 18 0" ∷ []) ≡ Err (Refused 7 kind.Order)
unfolding read
early_end = refl

-- the first lines of a text of version 1
abbrev short_head : List (List ℕ)
short_head = codes "trace 1" ∷ codes "plan edf cc 1" ∷ []

-- a line after the `end` line is refused at its own number
after_end : read Two (short_head ++ codes "end 1 0 0" ∷ codes "end 1 0 0" ∷ []) ≡ Err (Refused 4 kind.AfterEnd)
unfolding read
after_end = refl

-- without an `end` line, the line after the last one is refused
no_end : read Two (short_head ++ codes "release 0 a 1" ∷ []) ≡ Err (Refused 4 kind.NoEnd)
unfolding read
no_end = refl

-- fields are read from the left: no task has the name z, and x is not a number
from_the_left :
    (read Two (short_head ++ codes "release 0 z x" ∷ []) ∷ read Two (short_head ++ codes "release x z 1" ∷ []) ∷ [])
    ≡ (Err (Refused 3 kind.Task) ∷ Err (Refused 3 kind.Number) ∷ [])
unfolding read
from_the_left = refl

-- a line of `bytes` bytes, without its line feed
abbrev bare : ℕ → List ℕ
bare bytes = replicate bytes 97

-- a line after the most lines is one too many, even if it is too long, with 256 bytes; a missing line feed comes before both
limits_of_lines :
    (line_at (MOST_LINES + 1) (bare 256 ∷ [] ∷ []) ∷ line_at MOST_LINES (bare 256 ∷ [] ∷ []) ∷ line_at MOST_LINES (bare 255 ∷ [] ∷ [])
    ∷ line_at (MOST_LINES + 1) (bare 256 ∷ []) ∷ [])
    ≡ (Err (Refused (MOST_LINES + 1) kind.TooMany) ∷ Err (Refused MOST_LINES kind.TooLong) ∷ Ok (bare 255, [] ∷ [])
    ∷ Err (Refused (MOST_LINES + 1) kind.NoEnd) ∷ [])
limits_of_lines = refl
