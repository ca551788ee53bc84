-- Points on or above the line through two others, in natural numbers without differences.
use Rattle.std.proofs.Common.{◌≡◌, ℕ, ◌+◌, ◌-◌, ◌*◌, ◌<◌, ◌≤◌, arith, ap, mul-le-mul_left, mul-le-mul_right}
use Rattle.std.proofs.Math.Nat.{le_of_mul-le-mul_left}

-- the point (x, y) is on or above the line through (p, c) and (q, d), where p < q
abbrev pub Above : (p c q d x y : ℕ) → Type 0
Above p c q d x y = d * x + c * q + p * y ≤ q * y + d * p + c * x

pub above-first : (p c q d : ℕ) → Above p c q d p c
above-first p c q d = omega arith

pub above-second : (p c q d : ℕ) → Above p c q d q d
above-second p c q d = omega arith

-- for a point on or above a line: its place by D and M, the units and cost by which the second point exceeds the first
pub above-rise : (p c q d D M x y : ℕ) → p + D ≡ q → c + M ≡ d → Above p c q d x y → M * x + c * q ≤ D * y + d * p
above-rise p c q d D M x y e f h = omega (arith, ap (λ v. v * x) f, ap (λ v. v * y) e, h)

-- the order of fractions is transitive, for a middle denominator from 1 on
pub ratio-trans : (a b c d e f : ℕ) → 0 < d → a * d ≤ c * b → c * f ≤ e * d → a * f ≤ e * b
ratio-trans a b c d e f pos h g =
    le_of_mul-le-mul_left {m = a * f} {n = e * b} {k = d} (omega (arith, mul-le-mul_right f h, mul-le-mul_right b g)) pos

-- how far (x, y) is from the line through (p, c) and (U, C), by the slopes to (U, C) from both: E and M are the place
-- and the cost by which (U, C) exceeds (p, c), D and N those by which it exceeds (x, y)
slope-sums : (p c U C x y E M D N : ℕ) → p + E ≡ U → c + M ≡ C → x + D ≡ U → y + N ≡ C
    → U * y + C * p + c * x + N * E ≡ C * x + c * U + p * y + M * D
slope-sums p c U C x y E M D N pe cm xd yn =
    omega (
      arith,
      ap (λ v. v * x) cm,
      ap (λ v. v * p) cm,
      ap (λ v. c * v) pe,
      ap (λ v. v * y) pe,
      ap (λ v. M * v) pe,
      ap (λ v. M * v) xd,
      ap (λ v. E * v) cm,
      ap (λ v. E * v) yn,
    )

-- the point (x, y) is on or above the line from (p, c) to (U, C) if the slope from (x, y) to (U, C) is at most that
-- from (p, c), by the amounts by which (U, C) exceeds both
pub slope-above : (p c U C x y E M D N : ℕ) → p + E ≡ U → c + M ≡ C → x + D ≡ U → y + N ≡ C → N * E ≤ M * D → Above p c U C x y
slope-above p c U C x y E M D N pe cm xd yn h = omega (arith, slope-sums p c U C x y E M D N pe cm xd yn, h)

pub above-slope : (p c U C x y E M D N : ℕ) → p + E ≡ U → c + M ≡ C → x + D ≡ U → y + N ≡ C → Above p c U C x y → N * E ≤ M * D
above-slope p c U C x y E M D N pe cm xd yn h = omega (arith, slope-sums p c U C x y E M D N pe cm xd yn, h)

-- if one point is on or above the line of a pair, and the first of the pair is on or above the line from that
-- point to a last one, the last one is on or above the line of the pair
chain-by : (p c D M P X Q Y : ℕ) → 0 < P → Above p c (p + D) (c + M) (p + P) (c + X)
    → Above (p + P) (c + X) (p + P + Q) (c + X + Y) p c
    → Above p c (p + D) (c + M) (p + P + Q) (c + X + Y)
chain-by p c D M P X Q Y pos h g =
    let near : M * P ≤ D * X = omega (arith, h) in
    let on : X * Q ≤ Y * P = omega (arith, g) in
    let far : M * Q ≤ D * Y = le_of_mul-le-mul_left {m = M * Q} {n = D * Y} {k = P} (omega (arith, mul-le-mul_right Q near, mul-le-mul_left D on)) pos in
    omega (arith, near, far)

pub above-chain : (p c q d r e s f : ℕ) → p ≤ q → c ≤ d → p < r → c ≤ e → r ≤ s → e ≤ f
    → Above p c q d r e → Above r e s f p c → Above p c q d s f
above-chain p c q d r e s f pq cd pr ce rs ef h g =
    let to_q : p + (q - p) ≡ q = omega arith in
    let to_d : c + (d - c) ≡ d = omega arith in
    let to_r : p + (r - p) ≡ r = omega arith in
    let to_e : c + (e - c) ≡ e = omega arith in
    let to_s : r + (s - r) ≡ s = omega arith in
    let to_f : e + (f - e) ≡ f = omega arith in
    rw (to_q, to_d, to_r, to_e, to_s, to_f) at
    (chain-by p c (q - p) (d - c) (r - p) (e - c) (s - r) (f - e) (omega arith)
    (rw (to_q, to_d, to_r, to_e) h)
    (rw (to_r, to_e, to_s, to_f) g))
