-- The rows of a text, which follow its header: the records that a reader has not read yet.
use Rattle.std.specs.Prelude.{ℕ, List, Option, Some, ◌+◌, [], length, None, ◌≡◌, true, IsSome, ◌<◌, ◌∷◌, ◌&&◌, Bool, false, if◌then◌else◌}
use Rattle.std.specs.Borrow.{Bor}
use Rattle.dvs_base.specs.Widths.{u64_end}
use Rattle.csv.specs.Reading.{source_of, default_config, records_from, reader_state, Ready, reader_config, reader_trim, is_flexible, records, strip_bom}
use Rattle.csv.specs.declared.parser.State.{State}
use Rattle.csv.specs.declared.reader.Reader.{Reader}
use Rattle.csv.specs.declared.reader.Trim.TheVariants as trim
use Rattle.std.specs.Str.{bytes_eq}

-- a reader of bytes in memory
abbrev pub TextReader : Type 0
TextReader = Reader (Bor (List ℕ))

-- the bytes that a reader has not read
abbrev pub unread : TextReader → Option (List ℕ)
unread reader = source_of (λ s. Some s.now) reader

-- the records of the bytes that are left, read from this state of the parser on
abbrev pub records_in : State → Option (List ℕ) → List (List (List ℕ))
records_in state None = []
records_in state (Some bytes) = records_from default_config (length bytes + 1) state bytes

-- the records that a reader has not read
abbrev pub records_left : TextReader → List (List (List ℕ))
records_left reader = records_in (reader_state reader) (unread reader)

-- the reader has the default settings, takes records of any number of fields, and can go on
pub record IsDefault (reader : TextReader) : Type 0 where
  pub trim : reader_trim reader ≡ trim.None
  pub ready : Ready reader
  pub config : reader_config reader ≡ default_config
  pub flexible : is_flexible reader ≡ true
  pub known : IsSome (unread reader)

-- the row numbers of the records that are left, counted from `row` on, are below 2^64 with one to spare
abbrev pub AreCountedFrom : ℕ → TextReader → Type 0
AreCountedFrom row reader = row + length (records_left reader) < u64_end

-- whether the fields of a record are exactly these
abbrev pub has_fields : List (List ℕ) → List (List ℕ) → Bool
has_fields [] [] = true
has_fields (name ∷ names) (field ∷ fields) = bytes_eq field name && has_fields names fields
has_fields _ _ = false

-- the records after the header, and None if the first record isn't the header
abbrev pub rows_after : List (List ℕ) → List (List (List ℕ)) → Option (List (List (List ℕ)))
rows_after header [] = None
rows_after header (first ∷ rows) = if has_fields header first then Some rows else None

-- the rows of a text whose first record is the header
abbrev pub text_rows : List (List ℕ) → List ℕ → Option (List (List (List ℕ)))
text_rows header text = rows_after header (records default_config (strip_bom text))
