-- Two loads of the same period as one load.
use Rattle.std.proofs.Common.{◌≡◌, ℕ, zero, suc, ◌+◌, ◌*◌, ◌<◌, ◌≤◌, List, [], ◌∷◌, length, take, drop, sym, ap, ap₂, subst, arith}
use Rattle.std.specs.Prelude.{All, slice_index_or}
use Rattle.std.specs.List.{remove}
use Rattle.std.proofs.lemmas.List.Edits.{length-remove}
use Rattle.std.proofs.lemmas.List.Elements.{All-append, All-drop, All-get_or, All-take}
use Rattle.std.proofs.lemmas.List.Sums.{sum_by-cons, sum_by-remove}
use Rattle.grid_fraction.specs.Numbers.{ceil_div}
use Rattle.rm_response.specs.declared.inputs.Load.{Load}
use Rattle.rm_response.specs.declared.inputs.Supply.{Supply}
use Rattle.rm_response.specs.Supplies.{IsDone}
use Rattle.rm_response.specs.Loads.{held, work_of, HasRate, AreInTurn, IsJoined}
use Rattle.rm_response.proofs.LoadFits.{held-once, done-fewer}

-- what holds of a list's elements holds of all but one
all-remove : (P : Load → Type 0) (xs : List Load) (k : ℕ) → All P xs → All P (remove xs k)
all-remove P xs k all = All-append P (take k xs) (drop (suc k) xs) (All-take P k xs all) (All-drop P (suc k) xs all)

-- loads without one of them can be taken away in turn
removed-turn : (s : Supply) (xs : List Load) (k : ℕ) → k < length xs → AreInTurn s xs → AreInTurn s (remove xs k)
removed-turn s [] k below turn = absurd (omega (arith, below))
removed-turn s (x ∷ xs) zero below turn = turn.1
removed-turn s (x ∷ xs) (suc k) below turn =
    let t = turn.0.ticks in
    let less = sum_by-remove (held t) xs k x (omega (arith, below)) in
    let done : IsDone s (work_of (x ∷ remove xs k) t) t =
    done-fewer s (work_of (x ∷ remove xs k) t) (work_of (x ∷ xs) t) t
    (omega (arith, less, sum_by-cons (held t) x xs, sum_by-cons (held t) x (remove xs k))) turn.0.done in (
      record { ticks = t; some = turn.0.some; within = turn.0.within; done = done },
      removed-turn s xs k (omega (arith, below)) turn.1,
    )

-- the worst case of one of some loads is within their work of one tick
pub worst-within : (z : Load) (xs : List Load) (k : ℕ) → k < length xs → z ≡ slice_index_or xs k z → z.worst ≤ work_of xs 1
worst-within z xs k below is =
    let at : held 1 z ≡ held 1 (slice_index_or xs k z) = ap (held 1) is in
    omega (arith, at, sum_by-remove (held 1) xs k z below, held-once 1 z (omega arith) z.some_period)

-- y is a load and the one at place k as one
module _ (x z y : Load) (xs : List Load) (k : ℕ) (below : k < length xs) (is : z ≡ slice_index_or xs k z)
    (same : z.period ≡ x.period) (period : y.period ≡ x.period) (worst : y.worst ≡ x.worst + z.worst)
    (rate : y.rate ≡ x.rate + z.rate) where
  held-both : (t : ℕ) → held t y ≡ held t x + held t z
  held-both t =
      let own : held t y ≡ ceil_div t x.period * (x.worst + z.worst) = ap₂ (λ d n. ceil_div t d * n) period worst in
      let other : ceil_div t x.period * z.worst ≡ held t z = ap (λ d. ceil_div t d * z.worst) (sym same) in
      omega (arith, own, other)

  rate-both : (h : ℕ) → HasRate h x → HasRate h z → HasRate h y
  rate-both h own other =
      let there : z.rate * x.period ≡ z.worst * h = subst (λ d. z.rate * d ≡ z.worst * h) same other in
      let all : y.rate * y.period ≡ (x.rate + z.rate) * x.period = ap₂ (λ r d. r * d) rate period in
      let units : y.worst * h ≡ (x.worst + z.worst) * h = ap (λ n. n * h) worst in
      omega (arith, own, there, all, units)

  pub joined-both : IsJoined x xs y (remove xs k)
  joined-both = record {
    same_period = period;
    fewer = omega (arith, length-remove xs k below);
    work = λ t.
        let at : held t z ≡ held t (slice_index_or xs k z) = ap (held t) is in
        omega (arith, held-both t, at, sum_by-remove (held t) xs k z below);
    rates = λ h own rates.
        let other : HasRate h z = subst (HasRate h) (sym is) (All-get_or (HasRate h) xs k z below rates) in
        (rate-both h own other, all-remove (HasRate h) xs k rates);
    in_turn = λ s turn. removed-turn s xs k below turn;
  }
