-- The speeds of a table rise, and the entry that a demand picks, found among the entries, meets it if the last one does.
use Rattle.std.proofs.Common.{◌≡◌, ◌⊎◌, inl, inr, ℕ, zero, suc, ◌+◌, ◌*◌, ◌<◌, ◌≤◌, Bool, true, false, length, refl, sym, ◌∙◌, ap, arith, true≢false, eq-or-lt_of_le, ◌-◌, min}
use Rattle.std.proofs.lemmas.Bool.{le-leb, leb-true, cases_lt}
use Rattle.grid_fraction.specs.declared.Frac.{Frac}
use Rattle.grid_fraction.specs.Numbers.{any_below, first_from}
use Rattle.grid_fraction.specs.Fraction.{meets}
use Rattle.grid_fraction.proofs.Searches.{first_from-found, first_from-most, any_below-false, first_from-is, first_from-none, any_below-none, any_below-found}
use Rattle.freq_table.specs.Tables.{Table, speed_at, last_entry, highest_speed, lowest_entry, lowest_pick, IsTable}

pub speeds_rise : (m : Table) → IsTable m → (j k : ℕ) → j ≤ k → k < length m.points → speed_at m j ≤ speed_at m k
speeds_rise m table j zero le h = let e : j ≡ 0 = omega arith in ap-le (ap (speed_at m) e)
  where
    ap-le : {a b : ℕ} → a ≡ b → a ≤ b
    ap-le e = omega arith
speeds_rise m table j (suc k) le h = go (eq-or-lt_of_le le) (speeds_rise m table j k)
  where
    go : (j ≡ suc k) ⊎ (j < suc k) → (j ≤ k → k < length m.points → speed_at m j ≤ speed_at m k) → speed_at m j ≤ speed_at m (suc k)
    go (inl e) ih = omega (arith, ap (speed_at m) e)
    go (inr l) ih =
        let next : k + 1 ≡ suc k = omega arith in
        let step : speed_at m k < speed_at m (k + 1) = table.rising k (omega arith) in
        omega (arith, ih (omega arith) (omega arith), step, ap (speed_at m) next)

pub below_highest : (m : Table) → IsTable m → (k : ℕ) → k < length m.points → speed_at m k ≤ highest_speed m
below_highest m table k h = speeds_rise m table k (last_entry m) (omega arith) (omega arith)

-- the entry that a demand picks is one of the table
pub lowest_within : (m : Table) (d : Frac) → 1 ≤ length m.points → lowest_entry m d < length m.points
lowest_within m d some = omega arith

-- the lowest entry that meets a demand is at most any that does
pub lowest-most : (m : Table) (d : Frac) (k : ℕ) → d.num ≤ speed_at m k * d.den → lowest_entry m d ≤ k
lowest-most m d k h =
    omega (arith, first_from-most (length m.points) 0 k (λ e. meets (speed_at m e) d) (omega arith) (le-leb d.num (speed_at m k * d.den) h))

-- if the highest speed meets a demand, the speed of the picked entry does
pub picked_meets : (m : Table) → IsTable m → (d : Frac) → d.num ≤ highest_speed m * d.den → d.num ≤ speed_at m (lowest_entry m d) * d.den
picked_meets m table d h =
    let test : ℕ → Bool = λ e. meets (speed_at m e) d in
    let n : ℕ = length m.points in
    let some : 1 ≤ n = table.some in
    let last : test (last_entry m) ≡ true = le-leb _ _ h in
    let found : (test (first_from n 0 test) ≡ true) × (0 ≤ first_from n 0 test) = first_from-found n 0 (last_entry m) test (omega arith) (omega arith) last in
    elim (cases_lt (last_entry m) (first_from n 0 test)) [
      | inl over ↦
          let same : lowest_entry m d ≡ last_entry m = omega arith in
          rw same h
      | inr within ↦
          let same : lowest_entry m d ≡ first_from n 0 test = omega arith in
          rw same (leb-true _ _ found.0)
    ]

-- if the highest speed meets a demand, the pick says that it is met
pub picked_met : (m : Table) → IsTable m → (d : Frac) → d.num ≤ highest_speed m * d.den → (lowest_pick m d).met ≡ true
picked_met m table d h = go (any_below (length m.points) (λ e. meets (speed_at m e) d)) refl
  where
    go : (b : Bool) → any_below (length m.points) (λ e. meets (speed_at m e) d) ≡ b → any_below (length m.points) (λ e. meets (speed_at m e) d) ≡ true
    go true e = e
    go false e =
        let some : 1 ≤ length m.points = table.some in
        let off : meets (speed_at m (last_entry m)) d ≡ false = any_below-false (length m.points) (λ e. meets (speed_at m e) d) e
        (last_entry m) (omega arith) in
        absurd (true≢false (sym (le-leb _ _ h) ∙ off))

pub lowest_pick-met : (m : Table) (d : Frac) (i : ℕ) → i < length m.points → ((k : ℕ) → k < i → meets (speed_at m k) d ≡ false) → meets (speed_at m i) d ≡ true
    → record { index = i; met = true } ≡ lowest_pick m d
lowest_pick-met m d i lt before here =
    let entry : first_from (length m.points) 0 (λ e. meets (speed_at m e) d) ≡ i =
    first_from-is (length m.points) i (λ e. meets (speed_at m e) d) lt before here in
    let met : any_below (length m.points) (λ e. meets (speed_at m e) d) ≡ true = any_below-found (length m.points) (λ e. meets (speed_at m e) d) i lt here in
    let low : i ≡ min i (length m.points - 1) = omega arith in
    rw (entry, met, ← low) refl

pub lowest_pick-none : (m : Table) (d : Frac) → 1 ≤ length m.points → ((k : ℕ) → k < length m.points → meets (speed_at m k) d ≡ false)
    → record { index = length m.points - 1; met = false } ≡ lowest_pick m d
lowest_pick-none m d some h =
    let entry : first_from (length m.points) 0 (λ e. meets (speed_at m e) d) ≡ 0 + length m.points =
    first_from-none (length m.points) 0 (λ e. meets (speed_at m e) d) (λ k low high. h k (omega arith)) in
    let met : any_below (length m.points) (λ e. meets (speed_at m e) d) ≡ false = any_below-none (length m.points) (λ e. meets (speed_at m e) d) h in
    let low : length m.points - 1 ≡ min (0 + length m.points) (length m.points - 1) = omega arith in
    rw (entry, met, ← low) refl
