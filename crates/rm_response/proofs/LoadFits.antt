-- Whether work fits into some ticks beside loads, by the first of them, and that the loads can be taken away in turn.
use Rattle.std.proofs.Common.{◌≡◌, ◌⊎◌, inl, inr, ℕ, zero, suc, ◌+◌, ◌-◌, ◌*◌, ◌/◌, ◌<◌, ◌≤◌, max, true, false, List, [], ◌∷◌, Option, Some, None, is_some, take, sym, ◌∙◌, ap, subst, arith, div-add-mod', mod-lt}
use Rattle.std.specs.Prelude.{All, insert}
use Rattle.std.specs.Int.{div_ceil}
use Rattle.std.proofs.Math.Nat.{mul-le-mul_left, mul-le-mul_right, div-mul-le_self}
use Rattle.std.proofs.lemmas.Bool.{cases_lt}
use Rattle.std.proofs.lemmas.Nat.{mul-le}
use Rattle.std.proofs.lemmas.List.Elements.{All-head, All-tail}
use Rattle.std.proofs.lemmas.List.Sums.{sum_by-cons, sum_by-insert}
use Rattle.grid_fraction.specs.Numbers.{ceil_div}
use Rattle.grid_fraction.proofs.Ceilings.{ceil-mono, div_ceil_is}
use Rattle.governor.proofs.RmLevels.{ceil_covers}
use Rattle.rm_response_laws.proofs.Ceilings.{ceil-after, ceil-least, ceil-sum}
use Rattle.rm_response.specs.declared.inputs.Load.{Load}
use Rattle.rm_response.specs.declared.inputs.Search.{Search}
use Rattle.rm_response.specs.declared.inputs.Supply.{Supply}
use Rattle.rm_response.specs.Supplies.{IsDone, IsMore}
use Rattle.rm_response.specs.Loads.{held, work_of, rates_of, HasRate, AreServedWithin, AreInTurn}
use Rattle.rm_response.specs.Fits.{Fits, NoneFits, NoneBefore, SearchesFit}

-- of fewer units all are done too, and more units are too many too
pub done-fewer : (s : Supply) (m n t : ℕ) → m ≤ n → IsDone s n t → IsDone s m t
done-fewer s m n t le done = omega (arith, done, mul-le-mul_right s.hyper le)

pub more-most : (s : Supply) (m n t : ℕ) → m ≤ n → IsMore s m t → IsMore s n t
more-most s m n t le more = omega (arith, more, mul-le-mul_right s.hyper le)

-- n units are done in t ticks, or they are more
pub cases_done : (s : Supply) (n t : ℕ) → IsMore s n t ⊎ IsDone s n t
cases_done s n t = elim (cases_lt (s.units * t) (n * s.hyper)) [ inl more ↦ inl more | inr done ↦ inr done ]

-- what the work of u ticks has beside that of some tasks fits into the units that their rates leave
spare-does : (r b units h u c : ℕ) → (r + b) * h ≤ units * u → u * c ≤ h * b → r * h ≤ (units - c) * u
spare-does r b units h u c done rates = elim (cases_lt units c) [
  | inl over ↦
      let none : units - c ≡ 0 = omega arith in
      let more : units * u ≤ c * u = mul-le-mul_right u (omega arith) in
      rw none (omega (arith, more))
  | inr within ↦ split (units - c) (omega arith)
]
  where
    split : (x : ℕ) → x + c ≡ units → r * h ≤ x * u
    split x e =
        let whole : (x + c) * u ≡ units * u = ap (λ y. y * u) e in
        omega (arith, whole)

-- if each number that passes also passes s later, with s at most d, one of the d numbers after `low` passes, and is at
-- least t, if t passes and is no later than the last of them
later-past : (P : ℕ → Type 0) (s d low : ℕ) → 1 ≤ s → s ≤ d → ((t : ℕ) → P t → P (t + s))
    → (n t : ℕ) → t ≤ low + d → low < t + n → P t → (u : ℕ) × (t ≤ u) × (low < u) × (u ≤ low + d) × P u
later-past P s d low some most step zero t within past here = (t, omega arith, omega arith, within, here)
later-past P s d low some most step (suc n) t within past here =
    elim (cases_lt low t) [
      | inl after ↦ (t, omega arith, after, within, here)
      | inr before ↦
          let later = later-past P s d low some most step n (t + s) (omega arith) (omega arith) (step t here) in
          (later.0, omega (arith, later.1), later.2, later.3, later.4)
    ]

-- in ticks up to its period a load asks for one job
pub held-once : (t : ℕ) (x : Load) → 1 ≤ t → t ≤ x.period → held t x ≡ x.worst
held-once t x some within =
    let one : ceil_div t x.period ≡ 1 = ap (λ u. ceil_div u x.period) (omega arith) ∙ ceil-after 0 x.period t some within in
    ap (λ n. n * x.worst) one ∙ omega arith

held-later : (t u : ℕ) (x : Load) → t ≤ u → held t x ≤ held u x
held-later t u x le = mul-le-mul_right x.worst (ceil-mono t u x.period x.some_period le)

-- in more ticks loads can ask for no less work
pub work-later : (t u : ℕ) (xs : List Load) → t ≤ u → work_of xs t ≤ work_of xs u
work-later t u [] le = omega arith
work-later t u (x ∷ xs) le =
    let first = held-later t u x le in
    let others = work-later t u xs le in
    omega (arith, first, others, sum_by-cons (held t) x xs, sum_by-cons (held u) x xs)

-- the work of a sum of ticks is at most the sum of the work
work-sum : (t s : ℕ) (xs : List Load) → work_of xs (t + s) ≤ work_of xs t + work_of xs s
work-sum t s [] = omega arith
work-sum t s (x ∷ xs) =
    let first = mul-le-mul_right x.worst (ceil-sum t s x.period x.some_period) in
    let others = work-sum t s xs in
    omega (arith, first, others, sum_by-cons (held (t + s)) x xs, sum_by-cons (held t) x xs, sum_by-cons (held s) x xs)

-- the rate of a load for t ticks is within the work of its jobs that they can hold
pub rate-held : (h t : ℕ) (x : Load) → HasRate h x → t * x.rate ≤ h * held t x
rate-held h t x rate =
    let m : t * x.rate ≤ ceil_div t x.period * x.period * x.rate = mul-le-mul_right x.rate (ceil_covers t x.period x.some_period) in
    let whole : ceil_div t x.period * (x.rate * x.period) ≡ ceil_div t x.period * (x.worst * h) = ap (λ n. ceil_div t x.period * n) rate in
    omega (arith, m, whole)

rates-work : (h t : ℕ) (xs : List Load) → All (HasRate h) xs → t * rates_of xs ≤ h * work_of xs t
rates-work h t [] rates = omega arith
rates-work h t (x ∷ xs) rates =
    let first = rate-held h t x (All-head (HasRate h) x xs rates) in
    let others = rates-work h t xs (All-tail (HasRate h) x xs rates) in
    let left : t * rates_of (x ∷ xs) ≡ t * (x.rate + rates_of xs) = ap (λ n. t * n) (sum_by-cons (λ (y : Load). y.rate) x xs) in
    let right : h * work_of (x ∷ xs) t ≡ h * (held t x + work_of xs t) = ap (λ n. h * n) (sum_by-cons (held t) x xs) in
    omega (arith, first, others, left, right)

-- if `rest` units take more than `most` ticks of what the rates leave, they don't fit
pub none-beyond : (s : Supply) (xs : List Load) (rest most : ℕ) → All (HasRate s.hyper) xs
    → (s.units - rates_of xs) * most < rest * s.hyper → NoneFits s xs rest 0 (most + 1)
none-beyond s xs rest most rates over t from lt =
    elim (cases_done s (rest + work_of xs t) t) [
      | inl more ↦ more
      | inr done ↦
          let less = spare-does rest (work_of xs t) s.units s.hyper t (rates_of xs) done (rates-work s.hyper t xs rates) in
          let within : (s.units - rates_of xs) * t ≤ (s.units - rates_of xs) * most = mul-le-mul_left (s.units - rates_of xs) (omega arith) in
          absurd (omega (arith, less, within, over))
    ]

-- if `rest` units and the work of `least` ticks are more than `next` ticks less one do, they fit into none before those
pub none-raised : (s : Supply) (xs : List Load) (rest low least next : ℕ) → NoneFits s xs rest low least
    → ((t : ℕ) → t < next → IsMore s (rest + work_of xs least) t) → NoneFits s xs rest low next
none-raised s xs rest low least next none over t from lt =
    elim (cases_lt t least) [
      | inl before ↦ none t from before
      | inr after ↦
          let more = work-later least t xs after in
          more-most s (rest + work_of xs least) (rest + work_of xs t) t (omega (arith, more)) (over t lt)
    ]

-- fewer ticks than n units take don't do them
pub more-before : (s : Supply) (n next t : ℕ) → next ≡ div_ceil (n * s.hyper) s.units → t < next → IsMore s n t
more-before s n next t is lt =
    ceil-least (n * s.hyper) s.units t s.some_units (omega (arith, lt, is, div_ceil_is (n * s.hyper) s.units s.some_units))

-- what exceeds the speed for `last` ticks is more than any of these do
pub more-within : (s : Supply) (n last t : ℕ) → s.speed * last < n → t < last + 1 → IsMore s n t
more-within s n last t over lt =
    let ticks : s.units * t ≤ s.speed * s.hyper * last = mul-le s.units t (s.speed * s.hyper) last s.within (omega arith) in
    let units : suc (s.speed * last) * s.hyper ≤ n * s.hyper = mul-le-mul_right s.hyper over in
    omega (arith, ticks, units, s.some_hyper)

-- none before a first tick, and from there none before a later one, is none before the later one
pub before-later : (s : Supply) (xs : List Load) (rest low most first later : ℕ) → NoneBefore s xs rest low most first
    → NoneBefore s xs rest first most later → NoneBefore s xs rest low most later
before-later s xs rest low most first later one two = record {
  from = (let f = one.from in let g = two.from in omega arith);
  within = two.within;
  none = λ t from lt. elim (cases_lt t first) [ inl before ↦ one.none t from before | inr after ↦ two.none t after lt ];
}

-- the first load and the others
module _ (q : Search) (x : Load) (xs : List Load) (served : AreServedWithin q.low (x ∷ xs) x.period) where
  abbrev s : Supply
  s = q.low

  abbrev d : ℕ
  d = x.period

  split : (t : ℕ) → work_of (x ∷ xs) t ≡ held t x + work_of xs t
  split t = sum_by-cons (held t) x xs

  -- what fits beside the jobs of the first load in m ticks fits beside those in fewer
  fits-fewer : (rest from m low most t : ℕ) → low ≤ from → m ≤ most → Fits s xs (rest + held m x) from m t
      → Fits s (x ∷ xs) rest low most t
  fits-fewer rest from m low most t after le fit = record {
    from = (let g = fit.from in omega arith);
    within = (let w = fit.within in omega arith);
    done = done-fewer s (rest + work_of (x ∷ xs) t) (rest + held m x + work_of xs t) t
        (omega (arith, split t, held-later t m x fit.within)) fit.done;
  }

  -- after the last multiple of the period up to m, as many jobs of the first load begin in t ticks as in m
  held-after : (q t m : ℕ) → q * d < t → t ≤ m → m ≤ q * d + d → held t x ≡ held m x
  held-after q t m past le within =
      let first : t ≡ q * d + (t - q * d) = omega arith in
      let second : m ≡ q * d + (m - q * d) = omega arith in
      let one = ap (λ u. ceil_div u d) first ∙ ceil-after q d (t - q * d) (omega arith) (omega arith) in
      let two = ap (λ u. ceil_div u d) second ∙ ceil-after q d (m - q * d) (omega arith) (omega arith) in
      ap (λ n. n * x.worst) (one ∙ sym two)

  -- Units fit beside the loads only if they fit beside the others and the jobs of the first: in the period of the
  -- first that has the last of the ticks, or in the one before it.
  none-first : (rest low most q : ℕ) → 1 ≤ low → q * d < most → most ≤ q * d + d
      → NoneFits s xs (rest + held most x) (max low (q * d + 1)) (most + 1)
      → (low ≤ q * d → NoneFits s xs (rest + held (q * d) x) (max low (q * d + 1 - d)) (q * d + 1))
      → NoneFits s (x ∷ xs) rest low (most + 1)
  none-first rest low most q some below high none-in none-before t from lt =
      elim (cases_done s (rest + work_of (x ∷ xs) t) t) [
        | inl more ↦ more
        | inr done ↦
            elim (cases_lt (q * d) t) [
              | inl past ↦
                  let same = held-after q t most past (omega arith) high in
                  more-most s (rest + held most x + work_of xs t) (rest + work_of (x ∷ xs) t) t (omega (arith, split t, same))
                  (none-in t (omega (arith, past, from)) lt)
              | inr within ↦ absurd (early q within done (none-before (omega (arith, from, within))))
            ]
      ]
    where
      early : (q : ℕ) → t ≤ q * d → IsDone s (rest + work_of (x ∷ xs) t) t
          → NoneFits s xs (rest + held (q * d) x) (max low (q * d + 1 - d)) (q * d + 1) → ⊥
      early zero within done none = omega (arith, within, some, from)
      early (suc q) within done none =
          let n = served.ticks in
          let later : (u : ℕ) → IsDone s (rest + work_of (x ∷ xs) u) u → IsDone s (rest + work_of (x ∷ xs) (u + n)) (u + n) =
          λ u fit.
          let less : rest + work_of (x ∷ xs) (u + n) ≤ rest + work_of (x ∷ xs) u + work_of (x ∷ xs) n =
          omega (arith, work-sum u n (x ∷ xs)) in
          omega (arith, mul-le-mul_right s.hyper less, served.done, fit) in
          let found = later-past (λ u. IsDone s (rest + work_of (x ∷ xs) u) u) n d (q * d) served.some served.within
          later (suc (q * d)) t (omega (arith, within)) (omega arith) done in
          let same = held-after q found.0 (suc q * d) found.2 (omega (arith, found.3)) (omega arith) in
          let over = none found.0 (omega (arith, found.1, found.2, from)) (omega (arith, found.3)) in
          let less = done-fewer s (rest + held (suc q * d) x + work_of xs found.0) (rest + work_of (x ∷ xs) found.0) found.0
          (omega (arith, split found.0, same)) found.4 in
          omega (arith, over, less)

  module _ (rest low most : ℕ) (some : 1 ≤ low) (in_span : low ≤ most) where
    -- the last release of the first load before `most`
    abbrev release : ℕ
    release = (most - 1) / d * d

    below : release < most
    below = omega (arith, div-mul-le_self (most - 1) d, some, in_span)

    neither : NoneFits s xs (rest + held most x) (max low (release + 1)) (most + 1)
        → (low ≤ release → NoneFits s xs (rest + held release x) (max low (release + 1 - d)) (release + 1))
        → NoneFits s (x ∷ xs) rest low (most + 1)
    neither none-in none-before =
        let split = div-add-mod' (most - 1) d in
        let less = mod-lt (most - 1) x.some_period in
        none-first rest low most ((most - 1) / d) some below (omega (arith, split, less, some, in_span)) none-in none-before

    -- what is found beside the jobs that begin before `most` ticks are over, and no less than `after` ticks
    abbrev FindsIn : ℕ → ℕ → Option ℕ → Type 0
    FindsIn begun after found = (begun ≡ held most x) × (after ≡ max low (release + 1)) × SearchesFit q xs (rest + begun) after most found

    in-period : (begun after : ℕ) (found : Option ℕ) → FindsIn begun after found
        → SearchesFit q xs (rest + held most x) (max low (release + 1)) most found
    in-period begun after found is =
        subst (λ b. SearchesFit q xs (rest + b) (max low (release + 1)) most found) is.0
        (subst (λ a. SearchesFit q xs (rest + begun) a most found) is.1 is.2)

    -- these jobs decide, or there are no earlier ticks
    pub found-in : (begun after : ℕ) (found : Option ℕ) → FindsIn begun after found
        → (is_some found ≡ true) ⊎ (release < low) → SearchesFit q (x ∷ xs) rest low most found
    found-in begun after (Some t) is why = λ e.
        fits-fewer rest (max low (release + 1)) most low most t (omega arith) (omega arith) (in-period begun after (Some t) is e)
    found-in begun after None is (inl some') = absurd cc
    found-in begun after None is (inr early) = neither (in-period begun after None is) (λ le. absurd (omega (arith, early, le)))

    -- if they find none, the jobs that begin before the last release decide, in the period before it
    pub found-before : (begun after ended from last : ℕ) (first found : Option ℕ) → FindsIn begun after first
        → is_some first ≡ false → last ≡ release → from ≡ max low (release + 1 - d) → ended ≡ held last x
        → SearchesFit q xs (rest + ended) from last found → SearchesFit q (x ∷ xs) rest low most found
    found-before begun after ended from last (Some t) found is e l f jobs later = absurd cc
    found-before begun after ended from last None found is e l f jobs later =
        go found (subst (λ (n : ℕ). SearchesFit q xs (rest + held n x) (max low (release + 1 - d)) n found) l
        (subst (λ (a : ℕ). SearchesFit q xs (rest + held last x) a last found) f
        (subst (λ (b : ℕ). SearchesFit q xs (rest + b) from last found) jobs later)))
      where
        go : (found : Option ℕ) → SearchesFit q xs (rest + held release x) (max low (release + 1 - d)) release found
            → SearchesFit q (x ∷ xs) rest low most found
        go (Some t) fit = λ e'.
            fits-fewer rest (max low (release + 1 - d)) release low most t (omega arith) (omega (arith, below)) (fit e')
        go None none = neither (in-period begun after None is) (λ le. none)

-- a load y that is served in n ticks can be put into others after some whose periods are at least n
pub put-in_turn : (s : Supply) (n : ℕ) (y : Load) (xs : List Load) (k : ℕ) → AreInTurn s xs → 1 ≤ n → n ≤ y.period
    → IsDone s (work_of (y ∷ xs) n) n → All (λ x. n ≤ x.period) (take k xs) → AreInTurn s (insert xs k y)
put-in_turn s n y xs zero turn some within done long =
    (record { ticks = n; some = some; within = within; done = done }, turn)
put-in_turn s n y [] (suc k) turn some within done long =
    (record { ticks = n; some = some; within = within; done = done }, turn)
put-in_turn s n y (x ∷ xs) (suc k) turn some within done long =
    let own = sum_by-cons (held n) y (x ∷ xs) in
    let parts = sum_by-cons (held n) x xs in
    let fewer : IsDone s (work_of (y ∷ xs) n) n =
    done-fewer s (work_of (y ∷ xs) n) (work_of (y ∷ (x ∷ xs)) n) n (omega (arith, sum_by-cons (held n) y xs, own, parts)) done in
    let all : IsDone s (work_of (x ∷ insert xs k y) n) n =
    done-fewer s (work_of (x ∷ insert xs k y) n) (work_of (y ∷ (x ∷ xs)) n) n
    (omega (arith, sum_by-cons (held n) x (insert xs k y), sum_by-insert (held n) xs k y, own, parts)) done in (
      record { ticks = n; some = some; within = All-head (λ z. n ≤ z.period) x (take k xs) long; done = all },
      put-in_turn s n y xs k turn.1 some within fewer (All-tail (λ z. n ≤ z.period) x (take k xs) long),
    )
