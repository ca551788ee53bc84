-- The static demand under RM is the greatest share that the level of a task asks for of its period.
use Rattle.std.proofs.Common.{◌≡◌, ◌≢◌, ℕ, ◌+◌, ◌*◌, ◌<◌, ◌≤◌, Bool, true, false, ◌||◌, ◌&&◌, not, ◌⊎◌, inl, inr, nat_eq, nat_lt, refl, arith, ap, ◌∙◌, sym, true≢false, add-one, zero, suc, ◌-◌, ◌^◌, subst}
use Rattle.std.proofs.lemmas.Bool.Decides.{nat_tests}
use Rattle.std.proofs.Math.Nat.{mul-le-mul_right, mul-lt-mul_of_pos_right, le_of_mul-le-mul_right, lt_of_mul-lt-mul_right}
use Rattle.grid_fraction.specs.Numbers.{any_below}
use Rattle.grid_fraction.proofs.Searches.{any_below-none, any_below-false, below_suc, first_from-is}
use Rattle.dvs_base.specs.declared.kind.Scheduler.{Scheduler}
use Rattle.sched_model.specs.Plan.{Plan, count, period}
use Rattle.sched_model.specs.Priority.{stands_before}
use Rattle.sched_model.specs.Tests.{level_work}
use Rattle.sched_model.specs.StaticDemand.{outweighs, heaviest, static_demand_of, static_demand}
use Rattle.sched_model.proofs.Orders.{before-trans}
use Rattle.sched_model.specs.Admission.{IsWithinLimits}
use Rattle.sched_model.proofs.Limits.{some_task, some_period, every_period, low_period, some_hyper, low_hyper}

-- a number that outweighs another is greater, or equal with the tie decided for it
over : (a b : ℕ) (c : Bool) → (nat_lt b a || (nat_eq a b && c)) ≡ true → (b < a) ⊎ ((a ≡ b) × (c ≡ true))
over a b c h = grind (arith, nat_tests)

over_less : (a b : ℕ) (c : Bool) → b < a → (nat_lt b a || (nat_eq a b && c)) ≡ true
over_less a b c h = grind (arith, nat_tests)

over_same : (a b : ℕ) (c : Bool) → a ≡ b → c ≡ true → (nat_lt b a || (nat_eq a b && c)) ≡ true
over_same a b c h g = grind (arith, nat_tests)

-- fractions by their products: x/u over y/v over z/w
module _ (x u y v z w : ℕ) (some_v : 0 < v) where
  ends : y * u ≤ x * v → z * v ≤ y * w → z * u ≤ x * w
  ends first second =
      let left : y * u * w ≤ x * v * w = mul-le-mul_right w first in
      let right : z * v * u ≤ y * w * u = mul-le-mul_right u second in
      let both : z * u * v ≤ x * w * v = omega (arith, left, right) in
      le_of_mul-le-mul_right both some_v

  ends_first : 0 < w → y * u < x * v → z * v ≤ y * w → z * u < x * w
  ends_first some_w first second =
      let left : y * u * w < x * v * w = mul-lt-mul_of_pos_right first some_w in
      let right : z * v * u ≤ y * w * u = mul-le-mul_right u second in
      let both : z * u * v < x * w * v = omega (arith, left, right) in
      lt_of_mul-lt-mul_right v both

  ends_second : 0 < u → y * u ≤ x * v → z * v < y * w → z * u < x * w
  ends_second some_u first second =
      let left : y * u * w ≤ x * v * w = mul-le-mul_right w first in
      let right : z * v * u < y * w * u = mul-lt-mul_of_pos_right second some_u in
      let both : z * u * v < x * w * v = omega (arith, left, right) in
      lt_of_mul-lt-mul_right v both

-- whether s j / q j is greater than s i / q i, or equal to it with j before i
abbrev pub beats : (ℕ → ℕ) → (ℕ → ℕ) → ℕ → ℕ → Bool
beats s q j i = nat_lt (s i * q j) (s j * q i) || (nat_eq (s j * q i) (s i * q j) && stands_before q j i)

pub beats-self : (s q : ℕ → ℕ) (i : ℕ) → beats s q i i ≡ false
beats-self s q i = grind (arith, nat_tests)

pub beats-trans : (s q : ℕ → ℕ) (k j i : ℕ) → 0 < q k → 0 < q j → 0 < q i → beats s q k j ≡ true → beats s q j i ≡ true → beats s q k i ≡ true
beats-trans s q k j i pk pj pi f g =
    go (over (s k * q j) (s j * q k) (stands_before q k j) f) (over (s j * q i) (s i * q j) (stands_before q j i) g)
  where
    go : (s j * q k < s k * q j) ⊎ ((s k * q j ≡ s j * q k) × (stands_before q k j ≡ true))
        → (s i * q j < s j * q i) ⊎ ((s j * q i ≡ s i * q j) × (stands_before q j i ≡ true)) → beats s q k i ≡ true
    go (inl a) (inl b) = over_less (s k * q i) (s i * q k) (stands_before q k i) (ends_first (s k) (q k) (s j) (q j) (s i) (q i) pj pi a (omega (arith, b)))
    go (inl a) (inr b) = over_less (s k * q i) (s i * q k) (stands_before q k i) (ends_first (s k) (q k) (s j) (q j) (s i) (q i) pj pi a (omega (arith, b.0)))
    go (inr a) (inl b) = over_less (s k * q i) (s i * q k) (stands_before q k i) (ends_second (s k) (q k) (s j) (q j) (s i) (q i) pj pk (omega (arith, a.0)) b)
    go (inr a) (inr b) =
        let down = ends (s k) (q k) (s j) (q j) (s i) (q i) pj (omega (arith, a.0)) (omega (arith, b.0)) in
        let up = ends (s i) (q i) (s j) (q j) (s k) (q k) pj (omega (arith, b.0)) (omega (arith, a.0)) in
        over_same (s k * q i) (s i * q k) (stands_before q k i) (omega (arith, up, down)) (before-trans q k j i a.1 b.1)

pub beats-total : (s q : ℕ → ℕ) (j i : ℕ) → j ≢ i → beats s q j i ≡ false → beats s q i j ≡ true
beats-total s q j i ne h = grind (arith, nat_tests)

-- `found` is below m, and none below m beats it
pub record IsHeaviest (s q : ℕ → ℕ) (m found : ℕ) : Type 0 where
  pub below : found < m
  pub unbeaten : (k : ℕ) → k < m → beats s q k found ≡ false

pub heaviest-kept : (s q : ℕ → ℕ) (m found : ℕ) → IsHeaviest s q m found → beats s q m found ≡ false → IsHeaviest s q (m + 1) found
heaviest-kept s q m found h e = grind (arith, nat_tests)

pub heaviest-next : (s q : ℕ → ℕ) (m found : ℕ) → ((i : ℕ) → i ≤ m → 0 < q i) → IsHeaviest s q m found → beats s q m found ≡ true → IsHeaviest s q (m + 1) m
heaviest-next s q m found some h e = grind (arith, nat_tests, below_suc, beats-self, beats-trans)

pub heaviest-all : (p : Plan) (found : ℕ) → IsHeaviest (level_work p) (period p) (count p) found → found ≡ heaviest p
heaviest-all p found h =
    sym (first_from-is (count p) found (λ i. not (any_below (count p) (λ j. outweighs p j i))) h.below off on)
  where
    on : not (any_below (count p) (λ j. outweighs p j found)) ≡ true
    on = ap not (any_below-none (count p) (λ j. outweighs p j found) h.unbeaten)

    off : (k : ℕ) → k < found → not (any_below (count p) (λ j. outweighs p j k)) ≡ false
    off k lt = go (any_below (count p) (λ j. outweighs p j k)) refl
      where
        beaten : outweighs p found k ≡ true
        beaten = beats-total (level_work p) (period p) k found (λ e. omega (arith, lt, e)) (h.unbeaten k (omega (arith, h.below, lt)))

        go : (b : Bool) → any_below (count p) (λ j. outweighs p j k) ≡ b → not (any_below (count p) (λ j. outweighs p j k)) ≡ false
        go true e = ap not e
        go false e = absurd (true≢false (sym beaten ∙ any_below-false (count p) (λ j. outweighs p j k) e found h.below))

not_over : (a b : ℕ) (c : Bool) → (nat_lt b a || (nat_eq a b && c)) ≡ false → a ≤ b
not_over a b c h = grind (arith, nat_tests)

module _ (p : Plan) (lim : IsWithinLimits p) where
  -- the heaviest of the first m tasks
  abbrev Found : ℕ → Type 0
  Found m = (i : ℕ) × IsHeaviest (level_work p) (period p) m i

  some-found : (m : ℕ) → Found (suc m)
  some-found zero = grind (arith, beats-self (level_work p) (period p) 0)
  some-found (suc m) = subst Found (add-one (suc m)) (next (some-found m))
    where
      next : Found (suc m) → Found (suc m + 1)
      next f = by (beats (level_work p) (period p) (suc m) f.0) refl
        where
          by : (b : Bool) → beats (level_work p) (period p) (suc m) f.0 ≡ b → Found (suc m + 1)
          by false e = (f.0, heaviest-kept (level_work p) (period p) (suc m) f.0 f.1 e)
          by true e = (suc m, heaviest-next (level_work p) (period p) (suc m) f.0 (λ i le. every_period p lim i) f.1 e)

  heaviest-is : IsHeaviest (level_work p) (period p) (count p) (heaviest p)
  heaviest-is =
      let last : suc (count p - 1) ≡ count p = omega (arith, some_task p lim) in
      let f : Found (count p) = subst Found last (some-found (count p - 1)) in
      subst (IsHeaviest (level_work p) (period p) (count p)) (heaviest-all p f.0 f.1) f.1

  pub heaviest_within : heaviest p < count p
  heaviest_within = heaviest-is.below

  pub heaviest_greatest : (j : ℕ) → j < count p → level_work p j * period p (heaviest p) ≤ level_work p (heaviest p) * period p j
  heaviest_greatest j h = not_over _ _ _ (heaviest-is.unbeaten j h)

static_den_by : (plan : Plan) (lim : IsWithinLimits plan) (sch : Scheduler) → (0 < (static_demand_of sch plan).den) × ((static_demand_of sch plan).den ≤ 2 ^ 64)
static_den_by plan lim sch = grind (arith, nat_tests, some_hyper, low_hyper, some_period, heaviest_within, low_period)

pub static_den : (plan : Plan) → IsWithinLimits plan → (0 < (static_demand plan).den) × ((static_demand plan).den ≤ 2 ^ 64)
static_den plan lim = static_den_by plan lim plan.scheduler
