-- What the lines of several faults share.
use Rattle.std.specs.Prelude.{ℕ, ◌==◌, List, [], ◌∷◌, ◌++◌, codes, if◌then◌else◌}
use Rattle.std.specs.Fmt.{decimal}
use Rattle.dvs_base.specs.Parts.{joined}

-- the beginning of a line about a settings file: place 0 is the document, and each other place is an entry
abbrev pub place_text : List ℕ → List ℕ → ℕ → List ℕ
place_text file entry place =
    if place == 0
    then joined (file ∷ codes ": " ∷ [])
    else joined (file ∷ codes ": " ∷ entry ∷ codes " " ∷ decimal place ∷ codes ": " ∷ [])

-- the line of a refusal in a settings file: its place, and then `what` and `which`
abbrev pub settings_text : List ℕ → List ℕ → ℕ → List ℕ → List ℕ → List ℕ
settings_text file entry place what which = place_text file entry place ++ joined (what ∷ which ∷ codes "\n" ∷ [])

-- the line of too many things: where they are, how many, what they are called, and how many there may be
abbrev pub too_many_text : List ℕ → ℕ → List ℕ → ℕ → List ℕ
too_many_text of count things most =
    joined (of ∷ codes ": " ∷ decimal count ∷ codes " " ∷ things ∷ codes ", at most " ∷ decimal most ∷ codes "\n" ∷ [])
