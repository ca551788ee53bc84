-- The nodes of a search as loads come and go.
use Rattle.std.proofs.Common.{◌≡◌, ℕ, zero, suc, ◌+◌, ◌<◌, ◌≤◌, List, [], ◌∷◌, ◌++◌, length, take, drop, arith, refl, sym, subst}
use Rattle.std.specs.Prelude.{IfSome, insert, remove, slice_get, slice_index_or}
use Rattle.std.proofs.lemmas.Option.{slice_get_read}
use Rattle.std.proofs.lemmas.List.Edits.{length-insert, length-remove}
use Rattle.rm_response.specs.declared.inputs.Load.{Load}
use Rattle.rm_response.specs.declared.inputs.Supply.{Supply}
use Rattle.rm_response.specs.declared.left.Left.{Left}
use Rattle.rm_response.specs.declared.relaxed.Relaxed.{Relaxed}
use Rattle.rm_response.specs.Fits.{IsNode, AreNodes}

-- what holds of the element at a place holds of it among the first n, if it is there
first-get : (P : Relaxed → Type 0) (rs : List Relaxed) (n m : ℕ) → IfSome (slice_get rs m) P → IfSome (slice_get (take n rs) m) P
first-get P rs zero m here = tt
first-get P [] (suc n) m here = tt
first-get P (r ∷ rs) (suc n) zero here = here
first-get P (r ∷ rs) (suc n) (suc m) here = first-get P rs n m here

-- past the first n is none of them
first-past : (P : Relaxed → Type 0) (rs : List Relaxed) (n m : ℕ) → n ≤ m → IfSome (slice_get (take n rs) m) P
first-past P rs zero m past = tt
first-past P [] (suc n) m past = tt
first-past P (r ∷ rs) (suc n) zero past = absurd (omega (arith, past))
first-past P (r ∷ rs) (suc n) (suc m) past = first-past P rs n m (omega (arith, past))

-- one more comes after the last
more-get : (P : Relaxed → Type 0) (rs : List Relaxed) (r : Relaxed) (m : ℕ) → (m ≡ length rs → P r)
    → IfSome (slice_get rs m) P → IfSome (slice_get (rs ++ r ∷ []) m) P
more-get P [] r zero last here = last refl
more-get P [] r (suc m) last here = tt
more-get P (q ∷ rs) r zero last here = here
more-get P (q ∷ rs) r (suc m) last here = more-get P rs r m (λ is. last (omega (arith, is))) here

-- fewer nodes are nodes too
nodes-first : (s : Supply) (xs : List Load) (rs : List Relaxed) (n : ℕ) → AreNodes s xs rs → AreNodes s xs (take n rs)
nodes-first s [] rs n are = tt
nodes-first s (x ∷ xs) rs n are = (first-get (IsNode s (x ∷ xs)) rs n (length (x ∷ xs)) are.0, nodes-first s xs rs n are.1)

-- no nodes are nodes too
pub nodes-none : (s : Supply) (xs : List Load) → AreNodes s xs []
nodes-none s [] = tt
nodes-none s (x ∷ xs) = (tt, nodes-none s xs)

-- the nodes of loads that are left without nodes
pub left-none : (s : Supply) (left : Left) → left.nodes.now ≡ [] → AreNodes s left.loads.now left.nodes.now
left-none s left none = subst (AreNodes s left.loads.now) (sym none) (nodes-none s left.loads.now)

-- the node at the number of the loads is for them
pub node-at : (s : Supply) (xs : List Load) (rs : List Relaxed) (r : Relaxed) → 1 ≤ length xs → length xs < length rs
    → r ≡ slice_index_or rs (length xs) r → AreNodes s xs rs → IsNode s xs r
node-at s [] rs r some below is are = absurd (omega (arith, some))
node-at s (x ∷ xs) rs r some below is are =
    subst (λ o. IfSome o (IsNode s (x ∷ xs))) (slice_get_read rs (length rs) (length (x ∷ xs)) r refl below is) are.0

-- the node for as many of the last loads as there are nodes can be put after them
pub nodes-more : (s : Supply) (xs : List Load) (rs : List Relaxed) (r : Relaxed)
    → ((k : ℕ) → k + length rs ≡ length xs → IsNode s (drop k xs) r) → AreNodes s xs rs → AreNodes s xs (rs ++ r ∷ [])
nodes-more s [] rs r node are = tt
nodes-more s (x ∷ xs) rs r node are = (
  more-get (IsNode s (x ∷ xs)) rs r (length (x ∷ xs)) (λ is. node 0 (omega (arith, is))) are.0,
  nodes-more s xs rs r (λ k is. node (suc k) (omega (arith, is))) are.1,
)

-- after a load is taken out, those for the loads after it are left
pub nodes-removed : (s : Supply) (xs : List Load) (rs : List Relaxed) (k n : ℕ) → k < length xs → n + k ≤ length xs
    → AreNodes s xs rs → AreNodes s (remove xs k) (take n rs)
nodes-removed s [] rs k n below few are = absurd (omega (arith, below))
nodes-removed s (x ∷ xs) rs zero n below few are = nodes-first s xs rs n are.1
nodes-removed s (x ∷ xs) rs (suc k) n below few are = (
  first-past (IsNode s (x ∷ remove xs k)) rs n (length (x ∷ remove xs k))
      (omega (arith, few, length-remove xs k (omega (arith, below)))),
  nodes-removed s xs rs k n (omega (arith, below)) (omega (arith, few)) are.1,
)

-- after a load is put in, those for the loads after it are left
pub nodes-inserted : (s : Supply) (xs : List Load) (rs : List Relaxed) (k : ℕ) (x : Load) (n : ℕ) → k ≤ length xs
    → n + k ≤ length xs + 1 → AreNodes s xs rs → AreNodes s (insert xs k x) (take n rs)
nodes-inserted s xs rs zero x n within few are =
    (first-past (IsNode s (x ∷ xs)) rs n (length (x ∷ xs)) (omega (arith, few)), nodes-first s xs rs n are)
nodes-inserted s [] rs (suc k) x n within few are = absurd (omega (arith, within))
nodes-inserted s (z ∷ xs) rs (suc k) x n within few are = (
  first-past (IsNode s (z ∷ insert xs k x)) rs n (length (z ∷ insert xs k x))
      (omega (arith, few, length-insert xs k x (omega (arith, within)))),
  nodes-inserted s xs rs k x n (omega (arith, within)) (omega (arith, few)) are.1,
)
