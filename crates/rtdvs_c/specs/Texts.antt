-- The end of a text that is written.
use Rattle.std.specs.Prelude.{ℕ, ◌-◌, ◌≤◌, ◌≡◌, List, length, drop}

-- the last n bytes of a text, or the whole text if it has fewer
abbrev pub last : ℕ → List ℕ → List ℕ
last n text = drop (length text - n) text

-- what contracts see of a text: its bytes, and its failed puts
pub record TextView : Type 0 where
  pub bytes : List ℕ
  pub faults : ℕ

-- what is kept is an end of the text
pub record IsEndOf (kept text : List ℕ) : Type 0 where
  pub within : length kept ≤ length text
  pub is : kept ≡ last (length kept) text
