-- The certificate of least energy that two corners give.
use Rattle.std.specs.Prelude.{◌≡◌, ℕ, ◌+◌, ◌*◌, ◌-◌, ◌<◌, nat_lt}
use Rattle.std.specs.Int.{abs_diff}
use Rattle.freq_table.specs.Tables.{Table, highest_speed}
use Rattle.energy_bound.specs.declared.least.Least.{Least}
use Rattle.energy_bound.specs.declared.least.Over.{Over}
use Rattle.energy_bound.specs.Corners.{corner_units, corner_cost, Holds, IsFirstPair}

-- the units are more than the highest speed does in the ticks, and the error has both numbers
pub record IsOver (m : Table) (units ticks : ℕ) (e : Over) : Type 0 where
  pub num : e.num ≡ units
  pub cap : e.cap ≡ ticks * highest_speed m
  pub more : e.cap < e.num

-- the certificate of corners a and b: over `rounds` repetitions, the ticks at each of them and their energy; and the
-- prices of a unit and of a tick along the line through the two
abbrev pub least_of : Table → ℕ → ℕ → ℕ → ℕ → Least
least_of m units ticks a b =
    let p = corner_units m a in
    let q = corner_units m b in
    let cp = corner_cost m a in
    let cq = corner_cost m b in
    record {
      rounds = q - p;
      low = p;
      low_ticks = ticks * q - units;
      high = q;
      high_ticks = units - ticks * p;
      energy = (units - ticks * p) * cq + (ticks * q - units) * cp;
      unit_price = cq - cp;
      tick_minus = nat_lt (cp * q) (cq * p);
      tick_price = abs_diff (cp * q) (cq * p);
    }

-- the answer is the certificate of two corners that hold
abbrev pub IsCertificate : Table → ℕ → ℕ → Least → Type 0
IsCertificate m units ticks l = (a b : ℕ) × Holds m units ticks a b × (l ≡ least_of m units ticks a b)

-- the answer is the certificate of the first two corners that hold
abbrev pub IsFirstCertificate : Table → ℕ → ℕ → Least → Type 0
IsFirstCertificate m units ticks l = (a b : ℕ) × IsFirstPair m units ticks a b × (l ≡ least_of m units ticks a b)
