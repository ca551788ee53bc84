-- The files that a shelf may hold, by what its loads gave.
use Rattle.std.specs.Prelude.{◌≡◌, ◌≢◌, ℕ, ◌+◌, ◌≤◌, ◌++◌, ⊤, List, [], ◌∷◌, map, length, drop, Option, Some, None}
use Rattle.std.specs.List.{AllByRecursion}
use Rattle.dvs_base.specs.Loaded.{Load}
use Rattle.dvs_base.specs.Outside.{Files, LoadsFrom, ShelfView}

-- these files hold what a load gave: the first `room + 1` bytes of the file of its name, or the whole file if it is shorter
abbrev pub Holds : Files → Load → Type 0
Holds files l = LoadsFrom (Some files) l.0 (l.1 + 1) l.2

-- the loads that gave bytes between two views of a shelf
abbrev pub loads_since : ShelfView → ShelfView → List Load
loads_since old new = drop (length old.gave) new.gave

-- the files that may be a shelf's: its own if they are known; otherwise all that hold what it gave
abbrev pub MayBe : Option Files → List Load → Files → Type 0
MayBe (Some known) given files = files ≡ known
MayBe None given files = AllByRecursion (Holds files) given

-- the shelf may hold these files, by what its loads gave between two views
abbrev pub MayHold : ShelfView → ShelfView → Files → Type 0
MayHold old new files = MayBe old.held (loads_since old new) files

-- these files, if any, may be the shelf's
abbrev pub Known : Option Files → ShelfView → ShelfView → Type 0
Known None old new = ⊤
Known (Some files) old new = MayHold old new files

-- this holds over all files that the shelf may hold, and over any files
abbrev pub ForFiles : ShelfView → ShelfView → (Option Files → Type 0) → Type 0
ForFiles old new Is = (files : Option Files) → Known files old new → Is files

-- loads as files: each name with the bytes that were given
abbrev pub as_files : List Load → Files
as_files loads = map (λ (l : Load). (l.0, l.2)) loads

-- no two loads are of one name
abbrev pub HaveDistinctNames : List Load → Type 0
HaveDistinctNames [] = ⊤
HaveDistinctNames (l ∷ ls) = AllByRecursion (λ (m : Load). l.0 ≢ m.0) ls × HaveDistinctNames ls

-- no load gave more bytes than its room and one more
abbrev pub AreShort : List Load → Type 0
AreShort loads = AllByRecursion (λ (l : Load). length l.2 ≤ l.1 + 1) loads

-- at most `most` loads gave more bytes, each at most its room and one more
abbrev pub GaveMore : ℕ → ShelfView → ShelfView → Type 0
GaveMore most old new = (made : List Load) × (length made ≤ most) × (new.gave ≡ old.gave ++ made) × AreShort made
