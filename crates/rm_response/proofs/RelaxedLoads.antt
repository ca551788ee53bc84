-- The loads of a relaxed search, one by one, and that they can be taken away in turn.
use Rattle.std.proofs.Common.{◌≡◌, ℕ, ◌+◌, ◌-◌, ◌*◌, ◌<◌, ◌≤◌, List, [], ◌∷◌, ◌++◌, length, take, Option, Some, None, is_some, true, false, length-append, sym, ◌∙◌, ap, subst, arith}
use Rattle.std.specs.Prelude.{All, slice_index_or}
use Rattle.std.proofs.lemmas.List.{take_more}
use Rattle.std.proofs.Math.Nat.{mul-le-mul_right}
use Rattle.std.proofs.lemmas.List.Elements.{All-append, All-cons, All-get_or, All-nil}
use Rattle.std.proofs.lemmas.List.Sums.{sum_by-cons, sum_by_push}
use Rattle.rm_response.specs.declared.inputs.Load.{Load}
use Rattle.rm_response.specs.declared.inputs.Search.{Search}
use Rattle.rm_response.specs.declared.inputs.Supply.{Supply}
use Rattle.rm_response.specs.Loads.{held, work_of, HasRate, AreInTurn}
use Rattle.rm_response.specs.Fits.{FindsFit, SearchesFit, NoneFits, IsRelaxed}
use Rattle.rm_response.proofs.LoadFits.{held-once, done-fewer, rate-held}
use Rattle.rm_response.proofs.Searches.{low-more}

-- the load x is at place k
module _ (s : Supply) (x : Load) (xs ys : List Load) (k n : ℕ) (below : k < length xs) (at : x ≡ slice_index_or xs k x)
    (rates : All (HasRate s.hyper) xs) (is : IsRelaxed s (take k xs) n ys) where
  rate : HasRate s.hyper x
  rate = subst (HasRate s.hyper) (sym at) (All-get_or (HasRate s.hyper) xs k x below rates)

  parts : take (k + 1) xs ≡ take k xs ++ x ∷ []
  parts = take_more xs k x below ∙ ap (λ (y : Load). take k xs ++ y ∷ []) (sym at)

  work-more : (zs : List Load) (t : ℕ) → work_of (zs ++ x ∷ []) t * s.hyper ≡ work_of zs t * s.hyper + held t x * s.hyper
  work-more zs t = ap (λ n. n * s.hyper) (sum_by_push (held t) zs x) ∙ omega arith

  work-next : (t : ℕ) → work_of (take (k + 1) xs) t * s.hyper ≡ work_of (take k xs) t * s.hyper + held t x * s.hyper
  work-next t = ap (λ zs. work_of zs t * s.hyper) parts ∙ work-more (take k xs) t

  length-next : length (take (k + 1) xs) ≡ length (take k xs) + 1
  length-next = ap (length {A = Load}) parts ∙ omega (arith, length-append (take k xs) (x ∷ []))

  -- the next load counts with its jobs
  pub relaxed-counts : IsRelaxed s (take (k + 1) xs) n (ys ++ x ∷ [])
  relaxed-counts = record {
    lower_units = is.lower_units;
    few = (let few = is.few in omega (arith, length-next, length-append ys (x ∷ [])));
    rates = All-append (HasRate s.hyper) ys (x ∷ []) is.rates (All-cons (HasRate s.hyper) x [] rate (All-nil (HasRate s.hyper)));
    work = λ t. omega (arith, is.work t, work-next t, work-more ys t);
  }

  -- the next load counts with its rate
  pub relaxed-leaves : IsRelaxed s (take (k + 1) xs) (n - x.rate) ys
  relaxed-leaves = record {
    lower_units = (let le = is.lower_units in omega arith);
    few = (let few = is.few in omega (arith, length-next));
    rates = is.rates;
    work = λ t.
        let left : n * t ≤ (n - x.rate + x.rate) * t = mul-le-mul_right t (omega arith) in
        omega (arith, is.work t, work-next t, rate-held s.hyper t x rate, left);
  }

-- if some ticks serve one job of a load within its period beside loads that can be taken away in turn, so can all
pub turn-found : (s : Supply) (x : Load) (xs : List Load) (job : ℕ) (found : Option ℕ) → job ≡ x.worst
    → FindsFit s xs job 1 x.period found → is_some found ≡ true → AreInTurn s xs → AreInTurn s (x ∷ xs)
turn-found s x xs job None own fit some turn = absurd cc
turn-found s x xs job (Some t) own fit some turn =
    let done = done-fewer s (work_of (x ∷ xs) t) (job + work_of xs t) t
    (omega (arith, sum_by-cons (held t) x xs, held-once t x fit.from fit.within, own)) fit.done in
    (record { ticks = t; some = fit.from; within = fit.within; done = done }, turn)

-- what does not fit beside relaxed loads does not fit beside all
relaxed-none : (q r : Search) (xs ys : List Load) (rest low end : ℕ) → r.whole ≡ q.whole → IsRelaxed q.whole xs r.low.units ys
    → NoneFits r.low ys rest low end → NoneFits q.low xs rest low end
relaxed-none q r xs ys rest low end whole is none t from lt =
    let same : r.low.hyper ≡ q.whole.hyper = r.same_hyper ∙ ap (λ (s : Supply). s.hyper) whole in
    let more : r.low.units * t < (rest + work_of ys t) * q.whole.hyper =
    subst (λ h. r.low.units * t < (rest + work_of ys t) * h) same (none t from lt) in
    low-more q (rest + work_of xs t) t (omega (arith, more, is.work t))

-- a search beside relaxed loads that finds nothing decides
pub none-found : (q : Search) (xs : List Load) (r : Search) (ys : List Load) (rest low most : ℕ) (found : Option ℕ)
    → r.whole ≡ q.whole → IsRelaxed q.whole xs r.low.units ys → SearchesFit r ys rest low most found
    → is_some found ≡ false → NoneFits q.low xs rest low (most + 1)
none-found q xs r ys rest low most None whole is none not = relaxed-none q r xs ys rest low (most + 1) whole is none
none-found q xs r ys rest low most (Some t) whole is fit not = absurd cc
