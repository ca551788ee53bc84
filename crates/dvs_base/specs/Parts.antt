-- The parts of a line of text.
use Rattle.std.specs.Prelude.{ℕ, ◌+◌, List, [], ◌∷◌, ◌++◌, codes, length, Option, Some, None, slice_index_or}
use Rattle.std.specs.Fmt.{decimal}
use Rattle.dvs_base.specs.declared.limits.TheConstants.{NAME_BYTES, NUMBER_BYTES, WIDE_BYTES, POSITION_BYTES, RATIO_BYTES}
use Rattle.dvs_base.specs.declared.note.Pos.{Pos}
use Rattle.dvs_base.specs.declared.part.Part.{Part}
use Rattle.dvs_base.specs.declared.part.Part.TheVariants as part

-- the texts, joined one after another
abbrev pub joined : List (List ℕ) → List ℕ
joined [] = []
joined (text ∷ texts) = text ++ joined texts

-- the fields of a line, if there are two
abbrev pub two_of : List (List ℕ) → Option (List ℕ × List ℕ)
two_of (a ∷ b ∷ []) = Some (a, b)
two_of _ = None

-- the fields of a line, if there are three
abbrev pub three_of : List (List ℕ) → Option (List ℕ × List ℕ × List ℕ)
three_of (a ∷ b ∷ c ∷ []) = Some (a, b, c)
three_of _ = None

-- a position, as `tick:offset`
abbrev pub position_text : Pos → List ℕ
position_text q = decimal q.tick ++ codes ":" ++ decimal q.offset

-- a fraction, as `num/den`
abbrev pub fraction_text : ℕ → ℕ → List ℕ
fraction_text num den = decimal num ++ codes "/" ++ decimal den

-- the text of a part
abbrev pub part_text : Part → List ℕ
part_text (part.Word bytes) = bytes.now
part_text (part.Named name) = name.now
part_text (part.Shown short) = short.now
part_text (part.Number n) = decimal n
part_text (part.Wide n) = decimal n
part_text (part.At pos) = position_text pos
part_text (part.Ratio num den) = fraction_text num den

-- how many bytes a part has at most
abbrev pub most_bytes : Part → ℕ
most_bytes (part.Word bytes) = length bytes.now
most_bytes (part.Named name) = NAME_BYTES
most_bytes (part.Shown short) = NAME_BYTES
most_bytes (part.Number n) = NUMBER_BYTES
most_bytes (part.Wide n) = WIDE_BYTES
most_bytes (part.At pos) = POSITION_BYTES
most_bytes (part.Ratio num den) = RATIO_BYTES

-- how many bytes the parts have at most
abbrev pub most_of : List Part → ℕ
most_of [] = 0
most_of (p ∷ parts) = most_bytes p + most_of parts

-- a name, or nothing if there is none
abbrev pub name_text : Option (List ℕ) → List ℕ
name_text None = []
name_text (Some name) = name

-- a task's name by its number, empty if there is none
abbrev pub name_of : List (List ℕ) → ℕ → List ℕ
name_of names i = slice_index_or names i []
