-- The notes that a listener heard, and the one at which it balked.
use Rattle.std.specs.Prelude.{◌≡◌, List, [], ◌∷◌, ◌⊎◌}
use Rattle.dvs_base.specs.declared.note.Note.{Note}

-- the listener heard all these notes, and they led from its first value to its second
abbrev pub HasHeard : {L : Type 0} → (L → Note → L → Type 0) → L → List Note → L → Type 0
HasHeard heard from [] to = from ≡ to
HasHeard {L} heard from (note ∷ notes) to = (next : L) × heard from note next × HasHeard heard next notes to

-- a proper prefix was heard, and the listener balked at the note after it
abbrev pub HasBalked : {L : Type 0} → (L → Note → L → Type 0) → (L → Note → L → Type 0) → L → List Note → L → Type 0
HasBalked heard balked from [] to = ⊥
HasBalked {L} heard balked from (note ∷ notes) to = balked from note to ⊎ ((next : L) × heard from note next × HasBalked heard balked next notes to)
