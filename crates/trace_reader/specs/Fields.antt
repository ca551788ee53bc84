-- The values of a line's fields.
use Rattle.std.specs.Prelude.{Result, ℕ, ◌==◌, List, [], ◌∷◌, Option, Some, None, ◌^◌, Ok, position}
use Rattle.std.specs.List.{slice_split}
use Rattle.std.specs.Option.{ok_or}
use Rattle.std.specs.Str.{bytes_eq}
use Rattle.dvs_base.specs.Widths.{u64_end}
use Rattle.dvs_base.specs.Checks.{◌>>=◌}
use Rattle.dvs_base.specs.Text.{number_below}
use Rattle.dvs_base.specs.declared.note.Pos.{Pos}
use Rattle.dvs_base.specs.Parts.{two_of}
use Rattle.trace_reader.specs.declared.trace.TraceKind.{TraceKind}
use Rattle.trace_reader.specs.declared.trace.TraceKind.TheVariants as kind

-- the parts of a text between the places of one byte
abbrev pub parts : ℕ → List ℕ → List (List ℕ)
parts byte text = slice_split (λ b. b == byte) text

-- the part, if there is one
abbrev pub one_of : List (List ℕ) → Option (List ℕ)
one_of (a ∷ []) = Some a
one_of _ = None

-- the parts, if there are four
abbrev pub four_of : List (List ℕ) → Option (List ℕ × List ℕ × List ℕ × List ℕ)
four_of (a ∷ b ∷ c ∷ d ∷ []) = Some (a, b, c, d)
four_of _ = None

-- the parts, if there are six
abbrev pub six_of : List (List ℕ) → Option (List ℕ × List ℕ × List ℕ × List ℕ × List ℕ × List ℕ)
six_of (a ∷ b ∷ c ∷ d ∷ e ∷ f ∷ []) = Some (a, b, c, d, e, f)
six_of _ = None

-- the field as a number below 2^64
abbrev pub whole_in : List ℕ → Result ℕ TraceKind
whole_in field = ok_or (number_below u64_end field) kind.Number

-- the field as a number below 2^128
abbrev pub wide_in : List ℕ → Result ℕ TraceKind
wide_in field = ok_or (number_below (2 ^ 128) field) kind.Number

-- the field as a position: two numbers with a colon between them
unfoldable pub position_in : List ℕ → Result Pos TraceKind
position_in field = do
  halves ← ok_or (two_of (parts 58 field)) kind.Number
  tick ← whole_in halves.0
  offset ← whole_in halves.1
  Ok (record { tick = tick; offset = offset })

-- the field as a fraction: two numbers with a slash between them
unfoldable pub fraction_in : List ℕ → Result (ℕ × ℕ) TraceKind
fraction_in field = do
  halves ← ok_or (two_of (parts 47 field)) kind.Number
  num ← wide_in halves.0
  den ← wide_in halves.1
  Ok (num, den)

-- the number of the task whose name is the field
unfoldable pub task_in : List (List ℕ) → List ℕ → Result ℕ TraceKind
task_in names field = ok_or (position (λ name. bytes_eq name field) names) kind.Task
