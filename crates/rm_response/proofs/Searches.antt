-- Searches with two supplies: which loads they are for, and what the whole supply says of the low one.
use Rattle.std.proofs.Common.{◌≡◌, ◌⊎◌, inl, inr, max, ℕ, ◌+◌, ◌-◌, ◌*◌, ◌<◌, ◌≤◌, List, [], ◌∷◌, Option, Some, None, is_some, true, false, refl, length, sym, ap, ◌∙◌, subst, arith}
use Rattle.std.specs.Prelude.{All}
use Rattle.std.proofs.Math.Nat.{mul-le-mul_left, mul-le-mul_right}
use Rattle.std.proofs.lemmas.List.Elements.{All-tail}
use Rattle.std.proofs.lemmas.List.Sums.{sum_by-cons}
use Rattle.rm_response.specs.declared.inputs.Load.{Load}
use Rattle.rm_response.specs.declared.inputs.Search.{Search}
use Rattle.rm_response.specs.declared.inputs.Supply.{Supply}
use Rattle.rm_response.specs.Supplies.{IsDone, IsMore}
use Rattle.rm_response.specs.Loads.{held, work_of, HasRate, AreServedWithin, AreInTurn, AreInTurnTo, AreLoads, AreSearched, release_before}
use Rattle.rm_response.specs.Fits.{Fits, NoneFits, FindsFit, SearchesFit}
use Rattle.rm_response.proofs.LoadFits.{cases_done, held-once, found-in, found-before}

-- what is not there is None
pub none-of : (found : Option ℕ) → is_some found ≡ false → found ≡ None
none-of None none = refl
none-of (Some t) none = absurd cc

-- loads that can be taken away in turn can be so up to any number of them
turn-to : (n : ℕ) (s : Supply) (xs : List Load) → AreInTurn s xs → AreInTurnTo n s xs
turn-to n s [] turn = tt
turn-to n s (x ∷ xs) turn = (λ lt. turn.0, turn-to n s xs turn.1)

-- of no more loads than the last ones nothing is asked
pub turn-none : (n : ℕ) (s : Supply) (xs : List Load) → length xs ≤ n → AreInTurnTo n s xs
turn-none n s [] few = tt
turn-none n s (x ∷ xs) few = (λ lt. absurd (omega (arith, lt, few)), turn-none n s xs (omega (arith, few)))

-- the loads after the first can be taken away in turn too
pub others-loads : (s : Supply) (x : Load) (xs : List Load) → AreLoads s (x ∷ xs) → AreLoads s xs
others-loads s x xs loads = record {
  few = (let n = loads.few in omega arith);
  rates = All-tail (HasRate s.hyper) x xs loads.rates;
  in_turn = loads.in_turn.1;
}

-- the loads of a search with one supply
pub all-searched : (q : Search) (s : Supply) (xs : List Load) → q.whole ≡ s → q.low ≡ s → AreLoads s xs → AreSearched q xs
all-searched q s xs whole low loads = record {
  few = loads.few;
  rates = subst (λ (r : Supply). All (HasRate r.hyper) xs) (sym low) loads.rates;
  turn = subst (λ (r : Supply). AreInTurnTo q.tail r xs) (sym low) (turn-to q.tail s xs loads.in_turn);
  whole = subst (λ (r : Supply). AreInTurn r xs) (sym whole) loads.in_turn;
}

-- the loads of a search can be searched with its whole supply
pub searched-whole : (q : Search) (xs : List Load) → AreSearched q xs → AreLoads q.whole xs
searched-whole q xs are = record {
  few = are.few;
  rates = subst (λ h. All (HasRate h) xs) q.same_hyper are.rates;
  in_turn = are.whole;
}

-- the loads after the first are those of the search too
pub others-searched : (q : Search) (x : Load) (xs : List Load) → AreSearched q (x ∷ xs) → AreSearched q xs
others-searched q x xs are = record {
  few = (let n = are.few in omega arith);
  rates = All-tail (HasRate q.low.hyper) x xs are.rates;
  turn = are.turn.1;
  whole = are.whole.1;
}

-- what is more than the whole supply does is more than the low one does
pub low-more : (q : Search) (n t : ℕ) → IsMore q.whole n t → IsMore q.low n t
low-more q n t more =
    let less : q.low.units * t ≤ q.whole.units * t = mul-le-mul_right t q.less in
    let same : n * q.low.hyper ≡ n * q.whole.hyper = ap (λ h. n * h) q.same_hyper in
    omega (arith, less, same, more)

-- What the low supply lacks in the first ticks counts as work: what does not fit beside it with the whole supply doesn't
-- fit with the low one, from there on.
pub lack-none : (q : Search) (xs : List Load) (rest lack first end : ℕ)
    → lack * q.whole.hyper ≤ (q.whole.units - q.low.units) * first
    → NoneFits q.whole xs (rest + lack) first end → NoneFits q.low xs rest first end
lack-none q xs rest lack first end within none t from lt =
    elim (cases_done q.low (rest + work_of xs t) t) [
      | inl more ↦ more
      | inr done ↦ absurd (over (q.whole.units - q.low.units) (let le = q.less in omega arith) within done)
    ]
  where
    over : (y : ℕ) → y + q.low.units ≡ q.whole.units → lack * q.whole.hyper ≤ y * first
        → IsDone q.low (rest + work_of xs t) t → ⊥
    over y e le done =
        let more : q.whole.units * t < (rest + lack + work_of xs t) * q.whole.hyper = none t from lt in
        let parts : (y + q.low.units) * t ≡ q.whole.units * t = ap (λ n. n * t) e in
        let later : y * first ≤ y * t = mul-le-mul_left y from in
        let same : (rest + work_of xs t) * q.low.hyper ≡ (rest + work_of xs t) * q.whole.hyper =
        ap (λ h. (rest + work_of xs t) * h) q.same_hyper in
        omega (arith, more, parts, later, same, done, le)

-- so a search with the whole supply decides
pub lack-found : (q r : Search) (xs : List Load) (rest lack low most : ℕ) (found : Option ℕ) → r.low ≡ q.whole → 1 ≤ q.tail
    → lack * q.whole.hyper ≤ (q.whole.units - q.low.units) * low
    → SearchesFit r xs (rest + lack) low most found → SearchesFit q xs rest low most found
lack-found q r xs rest lack low most None is tail within none =
    lack-none q xs rest lack low (most + 1) within (subst (λ (s : Supply). NoneFits s xs (rest + lack) low (most + 1)) is none)
lack-found q r xs rest lack low most (Some t) is tail within fit = λ e. absurd (omega (arith, e, tail))

-- the loads of a relaxed search
pub relaxed-searched : (q : Search) (s : Supply) (ys zs : List Load) → zs ≡ ys → q.whole ≡ s → AreInTurnTo q.tail q.low ys
    → AreLoads s ys → AreSearched q zs
relaxed-searched q s ys zs same whole turn loads = subst (AreSearched q) (sym same) (record {
  few = loads.few;
  rates = subst (λ h. All (HasRate h) ys) (ap (λ (r : Supply). r.hyper) (sym whole) ∙ sym q.same_hyper) loads.rates;
  turn = turn;
  whole = subst (λ (r : Supply). AreInTurn r ys) (sym whole) loads.in_turn;
})

-- a load that the whole supply serves in its period, with all that the low one lacks there, is served by the low one
pub low-served : (q : Search) (x : Load) (xs : List Load) (rest lack t : ℕ) → rest ≡ x.worst + lack + 1
    → (q.whole.units - q.low.units) * x.period < (lack + 1) * q.whole.hyper
    → Fits q.whole xs rest 1 x.period t → AreServedWithin q.low (x ∷ xs) x.period
low-served q x xs rest lack t is above fit = record {
  ticks = t;
  some = fit.from;
  within = fit.within;
  done = low (q.whole.units - q.low.units) (let le = q.less in omega arith) above;
}
  where
    low : (y : ℕ) → y + q.low.units ≡ q.whole.units → y * x.period < (lack + 1) * q.whole.hyper
        → IsDone q.low (work_of (x ∷ xs) t) t
    low y e above =
        let parts : (y + q.low.units) * t ≡ q.whole.units * t = ap (λ n. n * t) e in
        let later : y * t ≤ y * x.period = mul-le-mul_left y fit.within in
        let work : work_of (x ∷ xs) t ≡ x.worst + work_of xs t =
        sum_by-cons (held t) x xs ∙ ap (λ n. n + work_of xs t) (held-once t x fit.from fit.within) in
        let same : work_of (x ∷ xs) t * q.low.hyper ≡ (x.worst + work_of xs t) * q.whole.hyper =
        ap (λ n. n * q.low.hyper) work ∙ ap (λ h. (x.worst + work_of xs t) * h) q.same_hyper in
        let done : (x.worst + lack + 1 + work_of xs t) * q.whole.hyper ≤ q.whole.units * t =
        subst (λ n. (n + work_of xs t) * q.whole.hyper ≤ q.whole.units * t) is fit.done in
        omega (arith, parts, later, same, done, above)

-- so is a load for which the whole supply finds such ticks
pub served-found : (q : Search) (x : Load) (xs : List Load) (rest lack : ℕ) (found : Option ℕ) → rest ≡ x.worst + lack + 1
    → (q.whole.units - q.low.units) * x.period < (lack + 1) * q.whole.hyper
    → FindsFit q.whole xs rest 1 x.period found → is_some found ≡ true → AreServedWithin q.low (x ∷ xs) x.period
served-found q x xs rest lack None is above none some = absurd cc
served-found q x xs rest lack (Some t) is above fit some = low-served q x xs rest lack t is above fit

-- The first load x of a search is taken away.
module _ (q : Search) (x : Load) (xs all : List Load) (parts : all ≡ x ∷ xs) (loads : AreSearched q all) (more : q.tail < length all)
    (rest low most : ℕ) (some : 1 ≤ low) (in_span : low ≤ most) where
  served : AreServedWithin q.low (x ∷ xs) x.period
  served = (subst (AreSearched q) parts loads).turn.0 (omega (arith, more, ap (length {A = Load}) parts))

  all-found : (found : Option ℕ) → SearchesFit q (x ∷ xs) rest low most found → SearchesFit q all rest low most found
  all-found found = subst (λ (ys : List Load). SearchesFit q ys rest low most found) (sym parts)

  -- a search beside its jobs that begin before `most` ticks are over
  module _ (begun after last : ℕ) (first : Option ℕ) (jobs : begun ≡ held most x) (begins : after ≡ max low (release_before most x + 1))
      (ends : last ≡ most) (fit : SearchesFit q xs (rest + begun) after last first) where
    in-period : SearchesFit q xs (rest + begun) after most first
    in-period = subst (λ m. SearchesFit q xs (rest + begun) after m first) ends fit

    -- it decides if it finds some, or if there are no earlier ticks
    pub taken-in : (is_some first ≡ true) ⊎ (release_before most x < low) → SearchesFit q all rest low most first
    taken-in why =
        all-found first (found-in q x xs served rest low most some in_span begun after first (jobs, begins, in-period) why)

    -- otherwise the period before it decides
    pub taken-before : (ended low' last' : ℕ) (found : Option ℕ) → is_some first ≡ false
        → (low' ≡ max low (release_before most x + 1 - x.period)) × (last' ≡ release_before most x) → ended ≡ held last' x
        → SearchesFit q xs (rest + ended) low' last' found → SearchesFit q all rest low most found
    taken-before ended low' last' found none before jobs' fit' =
        all-found found (found-before q x xs served rest low most some in_span begun after ended low' last' first found
        (jobs, begins, in-period) none before.1 before.0 jobs' fit')
