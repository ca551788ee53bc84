-- Work that fits into some ticks beside loads (after Bini and Buttazzo 2004).
use Rattle.std.specs.Prelude.{ℕ, List, [], ◌∷◌, All, IfSome, slice_get, length, take, ◌+◌, ◌*◌, ◌≡◌, ◌<◌, ◌≤◌, Option, MatchOption}
use Rattle.rm_response.specs.declared.inputs.Load.{Load}
use Rattle.rm_response.specs.declared.inputs.Search.{Search}
use Rattle.rm_response.specs.declared.inputs.Supply.{Supply}
use Rattle.rm_response.specs.declared.left.Left.{Left}
use Rattle.rm_response.specs.declared.relaxed.Relaxed.{Relaxed}
use Rattle.rm_response.specs.Supplies.{IsDone, IsMore}
use Rattle.rm_response.specs.Loads.{AreInTurnTo, AreLoads, AreSearched, HasRate, work_of}

-- `rest` units fit into t of the ticks `low` to `most`: in t ticks a supply does them and the work of the loads
pub record Fits (s : Supply) (xs : List Load) (rest low most t : ℕ) : Type 0 where
  pub from : low ≤ t
  pub within : t ≤ most
  pub done : IsDone s (rest + work_of xs t) t

-- `rest` units fit into none of the ticks from `low` on and below `end` beside the work of the loads
abbrev pub NoneFits : Supply → List Load → ℕ → ℕ → ℕ → Type 0
NoneFits s xs rest low end = (t : ℕ) → low ≤ t → t < end → IsMore s (rest + work_of xs t) t

-- `found` is one of the ticks `low` to `most` into which `rest` units fit, or there is none
abbrev pub FindsFit : Supply → List Load → ℕ → ℕ → ℕ → Option ℕ → Type 0
FindsFit s xs rest low most found = MatchOption found (NoneFits s xs rest low (most + 1)) (Fits s xs rest low most)

-- a search with two supplies finds none of the ticks only if none fits with the low one; what it finds with one supply fits
abbrev pub SearchesFit : Search → List Load → ℕ → ℕ → ℕ → Option ℕ → Type 0
SearchesFit q xs rest low most found =
    MatchOption found (NoneFits q.low xs rest low (most + 1)) (λ t. q.tail ≡ 0 → Fits q.low xs rest low most t)

-- `first` is one of the ticks `low` to `most`, or one more than the last, and `rest` units fit into none before it
pub record NoneBefore (s : Supply) (xs : List Load) (rest low most first : ℕ) : Type 0 where
  pub from : low ≤ first
  pub within : first ≤ most + 1
  pub none : NoneFits s xs rest low first

-- `first` is the first of the ticks `low` to `most` into which `rest` units fit; one more than the last if there is
-- none
pub record IsFirstFit (s : Supply) (xs : List Load) (rest low most first : ℕ) : Type 0 where
  pub before : NoneBefore s xs rest low most first
  pub fit : first ≤ most → IsDone s (rest + work_of xs first) first

-- Some of the loads xs, and what the rates of the others leave of the units of a supply: in no number of ticks do the
-- others ask for less than the supply lacks.
pub record IsRelaxed (s : Supply) (xs : List Load) (units : ℕ) (ys : List Load) : Type 0 where
  pub lower_units : units ≤ s.units
  pub few : length ys ≤ length xs
  pub rates : All (HasRate s.hyper) ys
  pub work : (t : ℕ) → work_of ys t * s.hyper + s.units * t ≤ work_of xs t * s.hyper + units * t

-- The loads of r that count with their jobs, fewer than the loads xs, can be searched with the supply of r, and what
-- does not fit beside them does not fit beside xs.
pub record IsRelaxedSearch (s : Supply) (xs : List Load) (r : Relaxed) : Type 0 where
  pub fewer : r.count < length xs
  pub same_hyper : r.supply.hyper ≡ s.hyper
  pub turn : AreInTurnTo r.tail r.supply (take r.count r.loads)
  pub whole : AreLoads s (take r.count r.loads)
  pub relaxed : IsRelaxed s xs r.supply.units (take r.count r.loads)

-- The loads that are left in a relaxed search are fewer than the loads xs, and for it, and what does not fit beside them
-- does not fit beside xs.
pub record IsRelaxedBy (s : Supply) (xs : List Load) (q : Search) (left : Left) : Type 0 where
  pub fewer : length left.loads.now < length xs
  pub whole : q.whole ≡ s
  pub searched : AreSearched q left.loads.now
  pub none : left.nodes.now ≡ []
  pub relaxed : IsRelaxed s xs q.low.units left.loads.now

-- if some loads of r count with their jobs, they are for a relaxed search
abbrev pub IsNode : Supply → List Load → Relaxed → Type 0
IsNode s xs r = 1 ≤ r.count → IsRelaxedSearch s xs r

-- a node is at the number of the last loads that it is for
abbrev pub AreNodes : Supply → List Load → List Relaxed → Type 0
AreNodes s [] rs = Unit {0}
AreNodes s (x ∷ xs) rs = IfSome (slice_get rs (length (x ∷ xs))) (IsNode s (x ∷ xs)) × AreNodes s xs rs
