-- Some two corners hold, for every number of units that the highest speed does in the ticks.
use Rattle.std.proofs.lemmas.Bool.Decides.{nat_tests}
use Rattle.std.proofs.Common.{◌≡◌, ◌⊎◌, inl, inr, ℕ, zero, suc, ◌-◌, ◌*◌, ◌<◌, ◌≤◌, arith, mul-le-mul_left}
use Rattle.std.proofs.lemmas.Bool.{cases_lt}
use Rattle.energy_bound.proofs.Lines.{Above, above-first, above-second, ratio-trans, slope-above, above-slope, above-chain}

-- Points by their number: the first coordinate rises, and the second doesn't fall.
module _ (u c : ℕ → ℕ) (last : ℕ)
    (rise : (j k : ℕ) → j < k → k ≤ last → u j < u k)
    (climb : (j k : ℕ) → j ≤ k → k ≤ last → c j ≤ c k) where
  abbrev pub OnLine : ℕ → ℕ → ℕ → Type 0
  OnLine a b k = Above (u a) (c a) (u b) (c b) (u k) (c k)

  -- what holds up to n and of n + 1 holds up to n + 1
  up_to-more : (P : ℕ → Type 0) (n : ℕ) → ((k : ℕ) → k ≤ n → P k) → P (suc n) → (k : ℕ) → k ≤ suc n → P k
  up_to-more P n below here k le = grind (arith, nat_tests)

  -- the first coordinate's rise from point k to a later point z; `fall` is the second's
  abbrev run : ℕ → ℕ → ℕ
  run z k = u z - u k

  abbrev fall : ℕ → ℕ → ℕ
  fall z k = c z - c k

  to-line : (p z k : ℕ) → p < z → k < z → z ≤ last → fall z k * run z p ≤ fall z p * run z k → OnLine p z k
  to-line p z k pz kz zl h =
      slope-above (u p) (c p) (u z) (c z) (u k) (c k) (run z p) (fall z p) (run z k) (fall z k)
      (let s = rise p z pz zl in omega arith) (let s = climb p z (omega arith) zl in omega arith)
      (let s = rise k z kz zl in omega arith) (let s = climb k z (omega arith) zl in omega arith) h

  of-line : (p z k : ℕ) → p < z → k < z → z ≤ last → OnLine p z k → fall z k * run z p ≤ fall z p * run z k
  of-line p z k pz kz zl h =
      above-slope (u p) (c p) (u z) (c z) (u k) (c k) (run z p) (fall z p) (run z k) (fall z k)
      (let s = rise p z pz zl in omega arith) (let s = climb p z (omega arith) zl in omega arith)
      (let s = rise k z kz zl in omega arith) (let s = climb k z (omega arith) zl in omega arith) h

  -- all points up to n are on or above the line through p and z
  pub record Touches (n z p : ℕ) : Type 0 where
    pub within : p ≤ n
    pub above : (k : ℕ) → k ≤ n → OnLine p z k

  -- some point up to n has the steepest line to a later one z: no point up to n is below it
  tangent : (n z : ℕ) → n < z → z ≤ last → (p : ℕ) × Touches n z p
  tangent zero z lt zl = grind (arith, above-first (u 0) (c 0) (u z) (c z))
  tangent (suc n) z lt zl = go (tangent n z (omega arith) zl)
    where
      go : (p : ℕ) × Touches n z p → (p : ℕ) × Touches (suc n) z p
      go (p, t) = either (cases_lt (fall z p * run z (suc n)) (fall z (suc n) * run z p))
        where
          before : p < z
          before = omega (arith, t.within)

          either : (fall z p * run z (suc n) < fall z (suc n) * run z p) ⊎ (fall z (suc n) * run z p ≤ fall z p * run z (suc n)) → (q : ℕ) × Touches (suc n) z q
          either (inr le) = (
            p,
            record {
              within = omega (arith, t.within);
              above = up_to-more (OnLine p z) n t.above (to-line p z (suc n) before lt zl le);
            },
          )
          either (inl steeper) = (
            suc n,
            record {
              within = omega arith;
              above = up_to-more (OnLine (suc n) z) n each (above-first (u (suc n)) (c (suc n)) (u z) (c z));
            },
          )
            where
              each : (k : ℕ) → k ≤ n → OnLine (suc n) z k
              each k le =
                  to-line (suc n) z k lt (omega arith) zl
                  (ratio-trans (fall z k) (run z k) (fall z p) (run z p) (fall z (suc n)) (run z (suc n))
                  (let s = rise p z before zl in omega arith)
                  (of-line p z k before (omega arith) zl (t.above k le))
                  (omega arith))

  -- no point up to n is below the line through a and b, and W lies between T times their first coordinates
  pub record Encloses (T W n a b : ℕ) : Type 0 where
    pub order : a < b
    pub within : b ≤ n
    pub low : T * u a ≤ W
    pub high : W ≤ T * u b
    pub above : (k : ℕ) → k ≤ n → OnLine a b k

  abbrev pub Enclosed : ℕ → ℕ → ℕ → Type 0
  Enclosed T W n = (a : ℕ) × ((b : ℕ) × Encloses T W n a b)

  u-climb : (j k : ℕ) → j ≤ k → k ≤ last → u j ≤ u k
  u-climb j k jk kl = grind (arith, nat_tests)

  first-two : (T W : ℕ) → u 0 ≡ 0 → 1 ≤ last → W ≤ T * u 1 → Enclosed T W 1
  first-two T W none le fits = grind (arith, up_to-more, above-first (u 0) (c 0) (u 1) (c 1), above-second (u 0) (c 0) (u 1) (c 1))

  -- with one more point, the tangent to it encloses W if it begins low enough
  with-tangent : (T W n p : ℕ) → W ≤ T * u (suc n) → Touches n (suc n) p → T * u p ≤ W → Enclosed T W (suc n)
  with-tangent T W n p fits t low = grind (arith, nat_tests, up_to-more, above-second)

  -- with one more point, the pair before it encloses W if the tangent begins too high
  with-before : (T W n p a b : ℕ) → suc n ≤ last → Touches n (suc n) p → W < T * u p → Encloses T W n a b → Encloses T W (suc n) a b
  with-before T W n p a b le t over h = record {
    order = h.order;
    within = omega (arith, h.within);
    low = h.low;
    high = h.high;
    above = up_to-more (OnLine a b) n h.above last_one;
  }
    where
      z : ℕ
      z = suc n

      before : a < p
      before = order (cases_lt a p)
        where
          order : (a < p) ⊎ (p ≤ a) → a < p
          order (inl less) = less
          order (inr ge) = absurd (omega (arith, mul-le-mul_left T (u-climb p a ge (omega (arith, h.order, h.within))), h.low))

      last_one : OnLine a b z
      last_one =
          above-chain (u a) (c a) (u b) (c b) (u p) (c p) (u z) (c z)
          (let s = rise a b h.order (omega (arith, h.within)) in omega arith)
          (climb a b (omega (arith, h.order)) (omega (arith, h.within)))
          (rise a p before (omega (arith, t.within)))
          (climb a p (omega (arith, before)) (omega (arith, t.within)))
          (let s = rise p z (omega (arith, t.within)) le in omega arith)
          (climb p z (omega (arith, t.within)) le)
          (h.above p t.within)
          (t.above a (omega (arith, before, t.within)))

  next-pair : (T W n : ℕ) → suc n ≤ last → W ≤ T * u (suc n) → (p : ℕ) × Touches n (suc n) p → (W ≤ T * u n → Enclosed T W n) → Enclosed T W (suc n)
  next-pair T W n le fits (p, t) ih = either (cases_lt W (T * u p))
    where
      either : (W < T * u p) ⊎ (T * u p ≤ W) → Enclosed T W (suc n)
      either (inr low) = with-tangent T W n p fits t low
      either (inl over) =
          let (a, (b, h)) = ih (omega (arith, mul-le-mul_left T (u-climb p n t.within (omega arith)))) in
          (a, (b, with-before T W n p a b le t over h))

  pub enclosed : (T W n : ℕ) → u 0 ≡ 0 → suc n ≤ last → W ≤ T * u (suc n) → Enclosed T W (suc n)
  enclosed T W zero none le fits = first-two T W none le fits
  enclosed T W (suc n) none le fits = next-pair T W (suc n) le fits (tangent (suc n) (suc (suc n)) (omega arith) le) (enclosed T W n none (omega arith))
