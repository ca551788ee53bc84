-- The units that each task got in some ticks: no less than its jobs have had.
use Rattle.std.proofs.Common.{◌≡◌, ℕ, suc, ◌+◌, ◌-◌, ◌<◌, ◌≤◌, Bool, true, false, eqb, List, [], ◌∷◌, length, refl, arith, if◌then◌else◌}
use Rattle.std.proofs.lemmas.Bool.Decides.{nat_tests}
use Rattle.grid_fraction.specs.Numbers.{sum_below}
use Rattle.grid_fraction.proofs.Sums.{sum_below-le, sum_below-add, sum_below-own, sum_below-up, sum_below-zero}
use Rattle.sched_model.specs.Plan.{Plan}
use Rattle.sched_model.specs.Jobs.{release, due, latest, is_in_window}
use Rattle.sched_model.specs.Ticks.{Tick, exec, share}
use Rattle.sched_model.proofs.JobLaws.{latest-is}

-- the units that task i got in all ticks
abbrev pub served : List Tick → ℕ → ℕ
served [] i = 0
served (x ∷ past) i = served past i + share x i

-- each tick is in the window of at most one job of a task
one-window : (p : Plan) (i t s m : ℕ) → sum_below m (λ k. if is_in_window p i (suc k) t then s else 0) ≤ s
one-window p i t s m =
    let j = latest p i t - 1 in
    let one : ℕ → ℕ = λ k. if eqb k j then s else 0 in
    let alone : sum_below (m + (j + 1)) one ≡ s = sum_below-own (m + (j + 1)) j (λ k. s) (omega arith) in
    omega (
      arith,
      alone,
      sum_below-up m (m + (j + 1)) one (omega arith),
      sum_below-le m (λ k. if is_in_window p i (suc k) t then s else 0) one
          (λ k lt. own k (is_in_window p i (suc k) t) refl (eqb k j) refl),
    )
  where
    own : (k : ℕ) (b : Bool) → is_in_window p i (suc k) t ≡ b → (c : Bool) → eqb k (latest p i t - 1) ≡ c
        → (if b then s else 0) ≤ (if c then s else 0)
    own k true e true g = omega arith
    own k true e false g =
        let from : release p i (suc k) ≤ t = grind (arith, nat_tests) in
        let until : t < due p i (suc k) = grind (arith, nat_tests) in
        let job : latest p i t ≡ suc k = latest-is p i (suc k) t from until in
        let same : k ≡ latest p i t - 1 = omega arith in
        absurd (grind (arith, nat_tests))
    own k false e c g = omega arith

-- the jobs of a task have had no more units than the task got
pub jobs-served : (p : Plan) (i m : ℕ) (past : List Tick) → sum_below m (λ k. exec p past i (suc k)) ≤ served past i
jobs-served p i m [] = omega (arith, sum_below-zero m (λ k. 0) (λ k lt. refl))
jobs-served p i m (x ∷ past) =
    omega (
      arith,
      sum_below-add m (λ k. exec p past i (suc k))
          (λ k. if is_in_window p i (suc k) (length past) then share x i else 0),
      jobs-served p i m past,
      one-window p i (length past) (share x i) m,
    )
