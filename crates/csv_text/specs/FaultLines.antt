-- The lines of a refused row.
use Rattle.std.specs.Prelude.{ℕ, List, [], ◌∷◌, codes}
use Rattle.std.specs.Fmt.{decimal}
use Rattle.dvs_base.specs.Parts.{joined}

-- the line of a refused row: its file, its number, and what is wrong
abbrev pub row_text : List ℕ → ℕ → List (List ℕ) → List ℕ
row_text file row what = joined (file ∷ codes ": row " ∷ decimal row ∷ codes ": " ∷ what)

-- the line of a row that has `count` fields, and so too few or too many
abbrev pub fields_text : List ℕ → ℕ → ℕ → List ℕ
fields_text file row count = row_text file row (decimal count ∷ codes " fields\n" ∷ [])

-- the line of a row that names a task which isn't there
abbrev pub unknown_task_text : List ℕ → ℕ → List ℕ → List ℕ
unknown_task_text file row name = row_text file row (codes "unknown task " ∷ name ∷ codes "\n" ∷ [])

-- the line of a row whose field in this column is not a number
abbrev pub bad_number_text : List ℕ → ℕ → List ℕ → List ℕ
bad_number_text file row column = row_text file row (codes "bad " ∷ column ∷ codes "\n" ∷ [])
