-- The lines before the notes: the version, the plan, and the tasks in a version that has lines for them.
use Rattle.std.specs.Prelude.{ℕ, List, ◌∷◌, length, nat_lt, Result, Ok, Err, if◌then◌else◌, codes, ◌&&◌, ◌+◌, ◌≤◌, [], ◌++◌}
use Rattle.std.specs.Option.{ok_or}
use Rattle.std.specs.Str.{bytes_eq}
use Rattle.dvs_base.specs.PlanWords.{scheduler_of, governor_of, ticks_of, is_pair}
use Rattle.dvs_base.specs.declared.kind.Version.{Version}
use Rattle.dvs_base.specs.declared.kind.Version.TheVariants.{One, Two}
use Rattle.dvs_base.specs.declared.limits.TheConstants.{MOST_LINES, LONGEST_LINE}
use Rattle.dvs_base.specs.Checks.{◌>>=◌}
use Rattle.trace_text.specs.declared.write.PlanLine.{PlanLine}
use Rattle.trace_reader.specs.declared.trace.TraceFault.{TraceFault}
use Rattle.trace_reader.specs.declared.trace.TraceFault.TheVariants.{Refused}
use Rattle.trace_reader.specs.declared.trace.TraceKind.{TraceKind}
use Rattle.trace_reader.specs.declared.trace.TraceKind.TheVariants as kind
use Rattle.trace_text.specs.TraceText.{has_task_lines}
use Rattle.trace_reader.specs.Fields.{four_of}

-- line n, and the parts after it, of a text's parts between line feeds; bytes after the last line feed are not a line
abbrev pub line_at : ℕ → List (List ℕ) → Result (List ℕ × List (List ℕ)) TraceFault
line_at n (line ∷ next ∷ rest) =
    if nat_lt MOST_LINES n then Err (Refused n kind.TooMany)
    else (if nat_lt LONGEST_LINE (length line) then Err (Refused n kind.TooLong)
    else Ok (line, next ∷ rest))
line_at n _ = Err (Refused n kind.NoEnd)

-- a number that the next line may have, if the lines before it were read
abbrev pub MayBeNext : ℕ → Type 0
MayBeNext n = n ≤ MOST_LINES + 1

-- the version that the first line names, if it is not above the newest that is read
abbrev pub version_in : Version → List ℕ → Result Version TraceKind
version_in One line = if bytes_eq line (codes "trace 1") then Ok One else Err kind.Version
version_in Two line =
    if bytes_eq line (codes "trace 1") then Ok One
    else (if bytes_eq line (codes "trace 2") then Ok Two else Err kind.Version)

-- the plan that the fields of the second line name
unfoldable pub plan_line_of : List (List ℕ) → Result PlanLine TraceKind
plan_line_of fields = do
  four ← ok_or (four_of fields) kind.Plan
  scheduler ← ok_or (scheduler_of four.1) kind.Plan
  governor ← ok_or (governor_of four.2) kind.Plan
  ticks ← ok_or (ticks_of four.3) kind.Plan
  if bytes_eq four.0 (codes "plan") && is_pair scheduler governor
      then Ok (record { scheduler = scheduler; governor = governor; ticks = ticks })
      else Err kind.Plan

-- a value that was read, or the refusal of line n
abbrev pub at_line : {A : Type 0} → ℕ → Result A TraceKind → Result A TraceFault
at_line n (Ok x) = Ok x
at_line n (Err k) = Err (Refused n k)

-- the number of the next line and the parts after, if the lines from line n on are those of the tasks
unfoldable pub parts_after_tasks : ℕ → List (List ℕ) → List (List ℕ) → Result (ℕ × List (List ℕ)) TraceFault
parts_after_tasks n [] rest = Ok (n, rest)
parts_after_tasks n (task ∷ tasks) rest = do
  line ← line_at n rest
  if bytes_eq (line.0 ++ 10 ∷ []) task then parts_after_tasks (n + 1) tasks line.1 else Err (Refused n kind.TaskLine)

-- the task lines that a version has
abbrev pub version_task_lines : Version → List (List ℕ) → List (List ℕ)
version_task_lines v tasks = if has_task_lines v then tasks else []
