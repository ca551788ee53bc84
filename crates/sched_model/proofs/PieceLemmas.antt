-- The segments of a list of units that grows at its end, and of a long run of one holder.
use Rattle.std.proofs.Common.{◌≡◌, ℕ, zero, suc, ◌+◌, ◌<◌, true, List, [], ◌∷◌, ◌++◌, length, replicate, refl, arith, if◌then◌else◌, ap, ◌∙◌, length-append}
use Rattle.std.proofs.lemmas.List.{length-replicate}
use Rattle.std.proofs.lemmas.Bool.Decides.{nat_tests}
use Rattle.std.specs.List.{AllByRecursion}
use Rattle.sched_model.specs.declared.holder.Holder.{Holder}
use Rattle.sched_model.specs.declared.holder.Holder.TheVariants.{Nobody, Held}
use Rattle.sched_model.specs.Notes.{same_holder, Piece, before_pieces, pieces_of}

abbrev pub piece : Holder → ℕ → Piece
piece h n = record { holder = h; units = n }

pub same_holder-eq : (g h : Holder) → same_holder g h ≡ true → g ≡ h
same_holder-eq g h e = grind (arith, nat_tests)

pub same_holder-refl : (h : Holder) → same_holder h h ≡ true
same_holder-refl Nobody = refl
same_holder-refl (Held i k) = grind (arith, nat_tests)

-- what holds of the holder of each unit holds of the holder of each piece
each-before : (P : Holder → Type 0) (h : Holder) (rs : List Piece) → P h
    → AllByRecursion (λ (r : Piece). P r.holder) rs → AllByRecursion (λ (r : Piece). P r.holder) (before_pieces h rs)
each-before P h rs here all = grind (arith, nat_tests)

pub each-piece : (P : Holder → Type 0) (us : List Holder) → AllByRecursion P us → AllByRecursion (λ (r : Piece). P r.holder) (pieces_of us)
each-piece P [] all = tt
each-piece P (u ∷ us) all = each-before P u (pieces_of us) all.0 (each-piece P us all.1)

-- the pieces, with one more unit after the last
abbrev pub with_unit : List Piece → Holder → List Piece
with_unit [] h = piece h 1 ∷ []
with_unit (r ∷ []) h = if same_holder r.holder h then piece r.holder (r.units + 1) ∷ [] else r ∷ piece h 1 ∷ []
with_unit (r ∷ q ∷ rs) h = r ∷ with_unit (q ∷ rs) h

pub with_unit-before : (u : Holder) (rs : List Piece) (h : Holder) → before_pieces u (with_unit rs h) ≡ with_unit (before_pieces u rs) h
with_unit-before u rs h = grind (arith, nat_tests)

pub pieces_of-push : (us : List Holder) (h : Holder) → pieces_of (us ++ h ∷ []) ≡ with_unit (pieces_of us) h
pieces_of-push [] h = refl
pieces_of-push (u ∷ us) h = ap (before_pieces u) (pieces_of-push us h) ∙ with_unit-before u (pieces_of us) h

-- a run of one holder is one piece
pub pieces_of-run : (n : ℕ) (h : Holder) → pieces_of (replicate (suc n) h) ≡ piece h (suc n) ∷ []
pieces_of-run zero h = refl
pieces_of-run (suc n) h = grind (arith, nat_tests, pieces_of-run n h)

-- the units of segments, laid out one after another
abbrev pub laid : List Piece → List Holder
laid [] = []
laid (r ∷ rs) = replicate r.units r.holder ++ laid rs

laid-before : (h : Holder) (rs : List Piece) → laid (before_pieces h rs) ≡ h ∷ laid rs
laid-before h rs = grind (arith, nat_tests)

-- the units of the segments of some units are these units
pub laid-pieces : (us : List Holder) → laid (pieces_of us) ≡ us
laid-pieces [] = refl
laid-pieces (h ∷ us) = laid-before h (pieces_of us) ∙ ap (λ hs. h ∷ hs) (laid-pieces us)

-- how many units the segments have
abbrev pub total : List Piece → ℕ
total [] = 0
total (r ∷ rs) = r.units + total rs

total-laid : (rs : List Piece) → total rs ≡ length (laid rs)
total-laid [] = refl
total-laid (r ∷ rs) = grind (arith, nat_tests, length-append, length-replicate, total-laid rs)

pub total-pieces : (us : List Holder) → total (pieces_of us) ≡ length us
total-pieces us = total-laid (pieces_of us) ∙ ap length (laid-pieces us)

-- each piece has a unit
abbrev pub HaveUnits : List Piece → Type 0
HaveUnits [] = Unit {0}
HaveUnits (r ∷ rs) = (0 < r.units) × HaveUnits rs

have_before : (h : Holder) (rs : List Piece) → HaveUnits rs → HaveUnits (before_pieces h rs)
have_before h rs a = grind (arith, nat_tests)

pub have_units : (us : List Holder) → HaveUnits (pieces_of us)
have_units [] = tt
have_units (h ∷ us) = have_before h (pieces_of us) (have_units us)
