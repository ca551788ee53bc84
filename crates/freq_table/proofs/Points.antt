-- A list with one more point, and a table from its points.
use Rattle.std.proofs.Common.{◌≡◌, ◌<◌, ◌≤◌, ℕ, ◌+◌, ◌-◌, nat_lt, nat_le, true, List, [], ◌∷◌, ◌++◌, length, Some, ap, sym, ◌∙◌, arith, eq-or-lt_of_le, inl, inr, ◌⊎◌}
use Rattle.std.proofs.lemmas.Bool.{and_parts}
use Rattle.std.proofs.lemmas.Bool.Decides.{nat_tests}
use Rattle.std.proofs.lemmas.List.{get_or_append_left}
use Rattle.std.proofs.lemmas.Option.{slice_get-get_or}
use Rattle.std.proofs.Math.ListN.{length-append}
use Rattle.std.proofs.Math.Seq.{get_or-append_seam}
use Rattle.freq_table.specs.declared.machine.Point.{Point}
use Rattle.freq_table.specs.Tables.{IsPoint}
use Rattle.freq_table.specs.Limits.{ArePoints, point_in}
use Rattle.freq_table.specs.MachineFile.{may_follow, last_of}

abbrev no_point : Point
no_point = record { speed = 0; millivolts = 0 }

last_or_before : (P : ℕ → Type 0) (n i : ℕ) → i < n + 1 → (i < n → P i) → (i ≡ n → P i) → P i
last_or_before P n i lt before last = go (eq-or-lt_of_le (let le : i ≤ n = omega arith in le))
  where
    go : (i ≡ n) ⊎ (i < n) → P i
    go (inl e) = last e
    go (inr l) = before l

point_in-before : (points : List Point) (x : Point) (e : ℕ) → e < length points → point_in (points ++ x ∷ []) e ≡ point_in points e
point_in-before points x e lt = get_or_append_left points (x ∷ []) no_point e lt

point_in-last : (points : List Point) (x : Point) (e : ℕ) → e ≡ length points → point_in (points ++ x ∷ []) e ≡ x
point_in-last points x e same = rw same (get_or-append_seam points x [] no_point)

rises : (before x : Point) → may_follow (Some before) x ≡ true → (before.speed < x.speed) × (before.millivolts ≤ x.millivolts)
rises before x h =
    let (a, b) = and_parts (nat_lt before.speed x.speed) (nat_le before.millivolts x.millivolts) h in
    (grind (arith, nat_tests), grind (arith, nat_tests))

follows : (points : List Point) (x : Point) (e : ℕ) → e + 1 ≡ length points → may_follow (last_of points) x ≡ true
    → ((point_in points e).speed < x.speed) × ((point_in points e).millivolts ≤ x.millivolts)
follows points x e same h =
    let place : length points - 1 ≡ e = omega arith in
    let lt : e < length points = omega arith in
    let last : last_of points ≡ Some (point_in points e) = rw place (slice_get-get_or points e no_point lt) in
    rises (point_in points e) x (ap (λ o. may_follow o x) (sym last) ∙ h)

pub ArePoints-push : (points : List Point) (x : Point) → ArePoints points → IsPoint x → may_follow (last_of points) x ≡ true → ArePoints (points ++ x ∷ [])
ArePoints-push points x known within after = record {
  each = λ e lt. last_or_before (λ e. IsPoint (point_in (points ++ x ∷ []) e)) (length points) e (omega (arith, length-append points (x ∷ [])))
      (λ l. rw (point_in-before points x e l) (known.each e l))
      (λ same. rw (point_in-last points x e same) within);
  rising = λ e lt. last_or_before (λ f. (point_in (points ++ x ∷ []) e).speed < (point_in (points ++ x ∷ []) f).speed) (length points)
      (e + 1) (omega (arith, length-append points (x ∷ [])))
      (λ l. let inside : e < length points = omega arith in rw (point_in-before points x e inside, point_in-before points x (e + 1) l) (known.rising e l))
      (λ same. let inside : e < length points = omega arith in
      rw (point_in-before points x e inside, point_in-last points x (e + 1) same) (follows points x e same after).0);
  not_falling = λ e lt. last_or_before (λ f. (point_in (points ++ x ∷ []) e).millivolts ≤ (point_in (points ++ x ∷ []) f).millivolts)
      (length points) (e + 1) (omega (arith, length-append points (x ∷ [])))
      (λ l. let inside : e < length points = omega arith in rw (point_in-before points x e inside, point_in-before points x (e + 1) l) (known.not_falling e l))
      (λ same. let inside : e < length points = omega arith in
      rw (point_in-before points x e inside, point_in-last points x (e + 1) same) (follows points x e same after).1);
}
