-- The constrained demand is the one that its search finds, and decides: a speed that meets it meets every deadline, and
-- another speed misses one at worst.
use Rattle.std.proofs.Common.{◌≡◌, inl, inr, ℕ, zero, suc, ◌-◌, ◌*◌, ◌<◌, ◌≤◌, Bool, true, false, not, ◌&&◌, ◌||◌, nat_eq, nat_le, refl, sym, ◌∙◌, ap, subst, arith, true≢false, length, mul-le-mul_right, le_of_mul-le-mul_right}
use Rattle.std.proofs.lemmas.Bool.{cases_lt}
use Rattle.std.proofs.lemmas.Bool.Decides.{nat_tests}
use Rattle.grid_fraction.specs.declared.Frac.{Frac}
use Rattle.grid_fraction.specs.Numbers.{any_below, all_below, first_from}
use Rattle.grid_fraction.proofs.Searches.{any_below-found, first_from-found, first_from-most, any-some, all-found}
use Rattle.sched_model.specs.Plan.{Plan, count, hyper}
use Rattle.sched_model.specs.Jobs.{release}
use Rattle.freq_table.specs.Tables.{speed_at}
use Rattle.sched_model.specs.Admission.{IsWithinLimits}
use Rattle.sched_model.proofs.Limits.{every_period}
use Rattle.edf_demand_laws.specs.Constrained.{IsConstrained, absolute}
use Rattle.edf_demand_laws.specs.ProcessorDemand.{IsDeadline, IsConstrainedDemand, processor_demand, is_deadline, is_busiest, constrained_demand}
use Rattle.edf_demand_laws.specs.MetOrMissed.{MeetsAlways, MissesAtWorst}
use Rattle.edf_demand_laws.proofs.AllSpans.{demand-greatest}
use Rattle.edf_demand_laws.proofs.Enough.{enough, needed}
use Rattle.edf_demand_laws.proofs.ConstrainedSchedules.{schedule-exists, schedule-only}

all-false : (n : ℕ) (test : ℕ → Bool) (i : ℕ) → i < n → test i ≡ false → all_below n test ≡ false
all-false n test i lt h = ap not (any_below-found n (λ j. not (test j)) i lt (ap not h))

module _ (p : Plan) (relative : ℕ → ℕ) (con : IsConstrained p relative) where
  -- a job's number is at most its absolute deadline
  few_jobs : (i k : ℕ) → i < count p → suc k ≤ absolute p relative i (suc k)
  unfolding release
  few_jobs i k h = grind arith

  found : (d : ℕ) → IsDeadline p relative d → is_deadline p relative d ≡ true
  found d at = go at.job at.some at.is
    where
      go : (job : ℕ) → 1 ≤ job → absolute p relative at.task job ≡ d → is_deadline p relative d ≡ true
      go zero some is = absurd (omega (arith, some))
      go (suc k) some is =
          any_below-found (count p) (λ i. any_below d (λ j. nat_eq (absolute p relative i (suc j)) d)) at.task at.below
          (any_below-found d (λ j. nat_eq (absolute p relative at.task (suc j)) d) k
          (omega (arith, few_jobs at.task k at.below, is)) (grind (arith, nat_tests)))

  deadline-of : (d : ℕ) → is_deadline p relative d ≡ true → IsDeadline p relative d
  deadline-of d h = grind (arith, any-some)

  module _ (demand : Frac) (is : IsConstrainedDemand p relative demand) where
    abbrev h : ℕ → ℕ
    h = processor_demand p relative

    abbrev over : ℕ → ℕ → Bool
    over d e = not (is_deadline p relative e) || nat_le (h e * d) (h d * e)

    -- at no absolute deadline up to the hyperperiod the demand per tick exceeds the constrained demand
    none_over : (e : ℕ) → e < suc (hyper p) → over demand.den e ≡ true
    none_over e lt = grind (arith, deadline-of)

    busiest : is_busiest p relative demand.den ≡ true
    busiest = rw (found demand.den is.deadline, all-found (suc (hyper p)) (over demand.den) none_over) refl

    -- at each earlier absolute deadline the demand per tick is below the constrained demand
    not_earlier : (d : ℕ) → d < demand.den → is_busiest p relative d ≡ false
    not_earlier d lt = go (is_deadline p relative d) refl
      where
        less : is_deadline p relative d ≡ true → nat_le (h demand.den * d) (h d * demand.den) ≡ false
        less s =
            let fewer = is.least d (deadline-of d s) lt in
            let same : demand.num * d ≡ h demand.den * d = ap (λ n. n * d) is.num in
            grind (arith, nat_tests)

        go : (b : Bool) → is_deadline p relative d ≡ b → (b && all_below (suc (hyper p)) (over d)) ≡ false
        go false s = refl
        go true s =
            all-false (suc (hyper p)) (over d) demand.den (omega (arith, is.within))
            (rw (found demand.den is.deadline, less s) refl)

    some_den : 1 ≤ demand.den
    some_den = grind arith

    pub is-constrained_demand : demand ≡ constrained_demand p relative
    unfolding constrained_demand
    is-constrained_demand =
        let d : ℕ = first_from (hyper p) 1 (is_busiest p relative) in
        let most : d ≤ demand.den = first_from-most (hyper p) 1 demand.den (is_busiest p relative) some_den busiest in
        let hit = first_from-found (hyper p) 1 demand.den (is_busiest p relative) some_den (omega (arith, is.within)) busiest in
        let same : demand.den ≡ d = elim (cases_lt d demand.den) [
          | inl less ↦ absurd (true≢false (sym hit.0 ∙ not_earlier d less))
          | inr more ↦ omega (arith, most, more)
        ] in
        subst (λ (m : ℕ). demand ≡ record { num = h m; den = m }) same
        (ap (λ (n : ℕ). record { num = n; den = demand.den }) is.num)

module _ (p : Plan) (lim : IsWithinLimits p) (relative : ℕ → ℕ) (con : IsConstrained p relative) (demand : Frac)
    (is : IsConstrainedDemand p relative demand) where
  -- the constrained demand is at a tick from 1 on
  pub some-den : 0 < demand.den
  some-den = omega (arith, is.deadline.is, con.some is.deadline.task is.deadline.below)

  -- a speed that meets the constrained demand does the demand of every span
  pub fits-everywhere : (f : ℕ) → demand.num ≤ f * demand.den → (d : ℕ) → processor_demand p relative d ≤ f * d
  fits-everywhere f meets d =
      let all = demand-greatest p lim relative con demand is d in
      let times : demand.num * d ≤ f * demand.den * d = mul-le-mul_right d meets in
      le_of_mul-le-mul_right {m = processor_demand p relative d} {n = f * d} {k = demand.den} (omega (arith, all, times)) some-den

  -- a speed that meets the constrained demand meets every deadline
  pub meets-always : (f : ℕ) → demand.num ≤ f * demand.den → MeetsAlways p relative f
  meets-always f meets dem ticks within h =
      enough p relative dem f (every_period p lim) con within (fits-everywhere f meets) ticks h

  -- the speed of an entry that doesn't meet the constrained demand misses a deadline at worst
  pub misses-at-worst : (e : ℕ) → e < length p.machine.points → speed_at p.machine e * demand.den < demand.num
      → MissesAtWorst p relative e demand.den
  misses-at-worst e lt over = grind (arith, schedule-exists, needed, schedule-only)
