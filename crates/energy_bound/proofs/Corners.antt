-- The corners of a table within the limits: their units rise, their costs don't fall, and the first two that hold are those
-- that the search finds.
use Rattle.std.proofs.Common.{◌≡◌, ◌≢◌, true, false, ℕ, zero, suc, ◌+◌, ◌-◌, ◌*◌, ◌<◌, ◌≤◌, length, refl, sym, ◌∙◌, ap, arith, mul-le-mul, mul-le-mul_left, mul-le-mul_right, Bool, not, nat_lt, nat_le, Ok}
use Rattle.std.proofs.lemmas.Bool.{cases_lt, and_parts, and_from, not-true, not-false, ltb-true, leb-true, lt-ltb, le-leb, false_from_ne_true}
use Rattle.std.proofs.lemmas.Bool.Decides.{nat_tests}
use Rattle.freq_table.specs.declared.machine.Point.{Point}
use Rattle.freq_table.specs.Tables.{Table, point_at, speed_at, IsTable, highest_speed}
use Rattle.energy.specs.Segments.{segment_energy}
use Rattle.grid_fraction.specs.Numbers.{all_below, any_below}
use Rattle.grid_fraction.proofs.Searches.{first_from-is, any_below-none, any_below-false, any_below-found, all-found}
use Rattle.energy_bound.specs.Corners.{corner_units, corner_cost, last_corner, IsAbove, Holds, IsFirstPartner, IsFirstPair}
use Rattle.energy_bound.proofs.Lines.{Above, above-rise}
use Rattle.energy_bound.proofs.Pairs.{enclosed}
use Rattle.energy_bound.specs.declared.least.Least.{Least}
use Rattle.energy_bound.specs.Certificates.{least_of}
use Rattle.energy_bound.specs.FirstPairs.{corner_count, is_above, is_holding, high_corner, low_corner, least_energy_of}

-- a function that doesn't fall from one number to the next doesn't fall between any two
pub climb-le : (f : ℕ → ℕ) (last : ℕ) → ((k : ℕ) → suc k ≤ last → f k ≤ f (suc k)) → (j k : ℕ) → j ≤ k → k ≤ last → f j ≤ f k
climb-le f last step j zero le within = let e : j ≡ 0 = omega arith in omega (arith, ap f e)
climb-le f last step j (suc k) le within = grind (arith, nat_tests, climb-le f last step j k)

pub climb-lt : (f : ℕ → ℕ) (last : ℕ) → ((k : ℕ) → suc k ≤ last → f k < f (suc k)) → (j k : ℕ) → j < k → k ≤ last → f j < f k
climb-lt f last step j zero lt within = absurd (omega arith)
climb-lt f last step j (suc k) lt within =
    omega (arith, climb-le f last (λ i le. (let s = step i le in omega arith)) j k (omega arith) (omega arith), step k within)

-- the cost of an idle tick, by the speed, the voltage and the idle share
idle_tick : (f v share : ℕ) → f * v * v * share ≡ v * v * (1000 * 0 + share * (f - 0))
idle_tick f v share = let e : f - 0 ≡ f = omega arith in rw e (omega arith)

full_tick : (f v share : ℕ) → f * v * v * 1000 ≡ v * v * (1000 * f + share * (f - f))
full_tick f v share = let e : f - f ≡ 0 = omega arith in rw e (omega arith)

module _ (m : Table) where
  abbrev pub volts : ℕ → ℕ
  volts e = (point_at m e).millivolts

  pub idle-cost : speed_at m 0 * volts 0 * volts 0 * m.idle ≡ corner_cost m 0
  idle-cost = idle_tick (speed_at m 0) (volts 0) m.idle

  pub full-cost : (e : ℕ) → speed_at m e * volts e * volts e * 1000 ≡ corner_cost m (suc e)
  full-cost e = full_tick (speed_at m e) (volts e) m.idle

-- the energy of an idle tick at the first entry is the cost of corner 0
pub corner-idle : (m : Table) (k : ℕ) (p : Point) (cost : ℕ) → k ≡ 0 → p ≡ point_at m 0 → cost ≡ segment_energy m 0 p.speed true → cost ≡ corner_cost m k
corner-idle m k p cost z e is = is ∙ (ap (λ (q : Point). segment_energy m 0 q.speed true) e ∙ (idle-cost m ∙ ap (corner_cost m) (sym z)))

pub corner-full : (m : Table) (k : ℕ) (p : Point) (cost : ℕ) → k ≢ 0 → p ≡ point_at m (k - 1)
    → cost ≡ segment_energy m (k - 1) p.speed false → cost ≡ corner_cost m k
corner-full m k p cost ne e is = grind (arith, nat_tests, full-cost)

module _ (m : Table) (table : IsTable m) where
  next-units : (k : ℕ) → suc k ≤ last_corner m → corner_units m k < corner_units m (suc k)
  next-units k le = grind (arith, nat_tests)

  pub units-rise : (j k : ℕ) → j < k → k ≤ last_corner m → corner_units m j < corner_units m k
  units-rise = climb-lt (corner_units m) (last_corner m) next-units

  pub units-climb : (j k : ℕ) → j ≤ k → k ≤ last_corner m → corner_units m j ≤ corner_units m k
  units-climb = climb-le (corner_units m) (last_corner m) (λ k le. (let s = next-units k le in omega arith))

  -- corners are in the order of their units
  pub units-order : (j k : ℕ) → j ≤ last_corner m → k ≤ last_corner m → corner_units m j < corner_units m k → j < k
  units-order j k jl kl lt = grind (arith, nat_tests, cases_lt, units-climb)

  pub units-same : (j k : ℕ) → j ≤ last_corner m → k ≤ last_corner m → corner_units m j ≡ corner_units m k → j ≡ k
  units-same j k jl kl e = grind (arith, nat_tests, cases_lt, units-rise)

  pub volts-climb : (j k : ℕ) → j ≤ k → k < length m.points → volts m j ≤ volts m k
  volts-climb j k le lt = climb-le (volts m) (length m.points - 1) step j k le (omega arith)
    where
      step : (e : ℕ) → suc e ≤ length m.points - 1 → volts m e ≤ volts m (suc e)
      step e le' = grind (arith, nat_tests)

  -- a full tick costs no less at an entry with a higher speed and voltage
  full-climb : (f g v w : ℕ) → f ≤ g → v ≤ w → f * v * v * 1000 ≤ g * w * w * 1000
  full-climb f g v w fg vw = mul-le-mul_right 1000 (mul-le-mul (mul-le-mul fg vw) vw)

  next-cost : (k : ℕ) → suc k ≤ last_corner m → corner_cost m k ≤ corner_cost m (suc k)
  next-cost zero le = grind (arith, mul-le-mul_left (speed_at m 0 * volts m 0 * volts m 0) table.low_idle, idle-cost m, full-cost m 0)
  next-cost (suc e) le = grind (arith, full-climb, next-units (suc e) le, full-cost m e, full-cost m (suc e))

  pub cost-climb : (j k : ℕ) → j ≤ k → k ≤ last_corner m → corner_cost m j ≤ corner_cost m k
  cost-climb = climb-le (corner_cost m) (last_corner m) next-cost

  -- a corner that is on or above the line of two by sums (`Above`) is so by differences (`IsAbove`)
  pub lies-above : (a b k : ℕ) → a < b → b ≤ last_corner m
      → Above (corner_units m a) (corner_cost m a) (corner_units m b) (corner_cost m b) (corner_units m k)
      (corner_cost m k) → IsAbove (corner_units m a) (corner_cost m a) (corner_units m b) (corner_cost m b)
      (corner_units m k) (corner_cost m k)
  lies-above a b k lt le =
      above-rise (corner_units m a) (corner_cost m a) (corner_units m b) (corner_cost m b)
      (corner_units m b - corner_units m a) (corner_cost m b - corner_cost m a) (corner_units m k)
      (corner_cost m k)
      (let s = units-rise a b lt le in omega arith) (let s = cost-climb a b (omega arith) le in omega arith)

-- being above a line, carried over to equal units and costs
pub above-found : (p c q d x y p' c' q' d' x' y' : ℕ) → p ≡ p' → c ≡ c' → q ≡ q' → d ≡ d' → x ≡ x' → y ≡ y' → IsAbove p c q d x y → IsAbove p' c' q' d' x' y'
above-found p c q d x y p' c' q' d' x' y' pe ce qe de xe ye h = grind (arith, nat_tests)

module _ (m : Table) (table : IsTable m) (units ticks : ℕ) where
  -- the last corner is a full tick at the highest speed
  pub last-units : corner_units m (last_corner m) ≡ highest_speed m
  last-units = grind (arith, nat_tests)

  -- if the highest speed does the units in the ticks, some two corners hold
  pub some-holds : units ≤ ticks * highest_speed m → (a : ℕ) × ((b : ℕ) × Holds m units ticks a b)
  some-holds fits = go (last_corner m) refl
    where
      go : (n : ℕ) → last_corner m ≡ n → (a : ℕ) × ((b : ℕ) × Holds m units ticks a b)
      go zero e = absurd (let some = table.some in omega arith)
      go (suc n) e =
          let high : units ≤ ticks * corner_units m (suc n) = omega (arith, ap (λ v. ticks * v) (ap (corner_units m) (sym e) ∙ last-units)) in
          let (a, (b, r)) = enclosed (corner_units m) (corner_cost m) (last_corner m) (units-rise m table)
          (cost-climb m table) ticks units n refl (omega arith) high in (
            a,
            (
              b,
              record {
                slower = units-rise m table a b r.order (omega (arith, r.within));
                low = omega (arith, r.order, r.within);
                high = omega (arith, r.within);
                enough = r.low;
                within = r.high;
                supporting = λ k le. lies-above m table a b k r.order (omega (arith, r.within)) (r.above k (omega arith));
              },
            ),
          )

  -- if no low corner below a holds with any, and b is the first that holds with a, they are the first pair
  pub first-pair : (a b : ℕ) → ((c d : ℕ) → c < a → Holds m units ticks c d → ⊥) → IsFirstPartner m units ticks a b → IsFirstPair m units ticks a b
  first-pair a b none r = grind (arith, nat_tests, cases_lt, units-rise, units-climb)

all-each : (n : ℕ) (test : ℕ → Bool) → all_below n test ≡ true → (k : ℕ) → k < n → test k ≡ true
all-each n test all k lt =
    not-false (test k) (any_below-false n (λ j. not (test j)) (not-true (any_below n (λ j. not (test j))) all) k lt)

above-true : (p c q d x y : ℕ) → IsAbove p c q d x y → is_above p c q d x y ≡ true
above-true p c q d x y h = grind (arith, nat_tests)

true-above : (p c q d x y : ℕ) → is_above p c q d x y ≡ true → IsAbove p c q d x y
true-above p c q d x y e = grind (arith, nat_tests)

module _ (m : Table) (units ticks : ℕ) where
  holding-true : (a b : ℕ) → Holds m units ticks a b → is_holding m units ticks a b ≡ true
  holding-true a b h = grind (arith, nat_tests, and_from, lt-ltb, le-leb, all-found, above-true)

  true-holding : (a b : ℕ) → a ≤ last_corner m → b ≤ last_corner m → is_holding m units ticks a b ≡ true
      → Holds m units ticks a b
  true-holding a b low high e =
      let (slower, e1) = and_parts (nat_lt (corner_units m a) (corner_units m b)) _ e in
      let (enough, e2) = and_parts (nat_le (ticks * corner_units m a) units) _ e1 in
      let (within, supporting) = and_parts (nat_le units (ticks * corner_units m b)) _ e2 in
      record {
        slower = ltb-true _ _ slower;
        low = low;
        high = high;
        enough = leb-true _ _ enough;
        within = leb-true _ _ within;
        supporting = λ k le. true-above _ _ _ _ _ _ (all-each (corner_count m) _ supporting k (omega arith));
      }

  -- the test is false for two corners that don't hold
  not-holding : (a b : ℕ) → a ≤ last_corner m → b ≤ last_corner m → (Holds m units ticks a b → ⊥)
      → is_holding m units ticks a b ≡ false
  not-holding a b low high none = false_from_ne_true (is_holding m units ticks a b) (λ e. none (true-holding a b low high e))

  high-is : (a b : ℕ) → IsFirstPartner m units ticks a b → high_corner m units ticks a ≡ b
  high-is a b r =
      let high : b < corner_count m = omega (arith, r.holds.high) in
      first_from-is (corner_count m) b (is_holding m units ticks a) high
      (λ c lt. not-holding a c r.holds.low (omega arith) (r.first c lt)) (holding-true a b r.holds)

  low-is : (a b : ℕ) → ((c d : ℕ) → c < a → Holds m units ticks c d → ⊥) → Holds m units ticks a b
      → low_corner m units ticks ≡ a
  low-is a b none h =
      let low : a < corner_count m = omega (arith, h.low) in
      first_from-is (corner_count m) a (λ c. any_below (corner_count m) (is_holding m units ticks c)) low
      (λ c lt. any_below-none (corner_count m) (is_holding m units ticks c)
      (λ d less. not-holding c d (omega arith) (omega arith) (none c d lt)))
      (any_below-found (corner_count m) (is_holding m units ticks a) b (omega (arith, h.high)) (holding-true a b h))

  -- if the units are not too many, the answer is the certificate of the first corner with a partner and the partner
  pub found-is : (a b : ℕ) (l : Least) → units ≤ ticks * highest_speed m
      → ((c d : ℕ) → c < a → Holds m units ticks c d → ⊥) → IsFirstPartner m units ticks a b
      → l ≡ least_of m units ticks a b → Ok l ≡ least_energy_of m units ticks
  found-is a b l fits none r is = grind (arith, low-is a b none r.holds, high-is a b r)
