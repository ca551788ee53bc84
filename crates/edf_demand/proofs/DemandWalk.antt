-- The walk finds the constrained demand.
use Rattle.std.proofs.Common.{◌≡◌, ◌⊎◌, inl, inr, ℕ, zero, suc, ◌+◌, ◌*◌, ◌/◌, ◌^◌, ◌<◌, ◌≤◌, Bool, true, false, nat_eq, if◌then◌else◌, refl, ◌∙◌, ap, subst, arith, eq-or-lt_of_le}
use Rattle.std.proofs.Math.Nat.{mul-le-mul_left, mul-le-mul_right}
use Rattle.std.proofs.lemmas.Bool.{cases_lt, eqb-true, eqb-false, ltb-true, ltb-false}
use Rattle.std.proofs.lemmas.Bool.Decides.{nat_tests}
use Rattle.dvs_base.specs.declared.limits.TheConstants.{MOST_JOBS}
use Rattle.grid_fraction.specs.declared.Frac.{Frac}
use Rattle.grid_fraction.specs.Fraction.{is_greater}
use Rattle.grid_fraction.specs.Numbers.{sum_below, sum_where, least_below}
use Rattle.grid_fraction.proofs.Sums.{sum_below-le, sum_below-same, sum_below-add}
use Rattle.grid_fraction.proofs.Least.{least-below, least-above, least-found}
use Rattle.sched_model.specs.Plan.{Plan, count, worst, period, hyper}
use Rattle.sched_model.specs.Admission.{IsWithinLimits}
use Rattle.sched_model.proofs.Limits.{some_task, every_period, low_worst, some_hyper, period_divides}
use Rattle.sched_model.proofs.LevelSums.{sum_below-times, sum_below-term}
use Rattle.edf_demand_laws.specs.Constrained.{IsConstrained, absolute}
use Rattle.edf_demand_laws.specs.ProcessorDemand.{jobs_due, work_due, processor_demand, IsDeadline, IsConstrainedDemand}
use Rattle.edf_demand_laws.proofs.JobsDue.{jobs_due-above, jobs_due-below, jobs_due-most}
use Rattle.edf_demand_laws.proofs.AllSpans.{absolute-suc, none-demand}
use Rattle.edf_demand.specs.Walk.{next_deadline, Moved}
use Rattle.edf_demand.specs.Answers.{hyper_jobs}
use Rattle.edf_demand.proofs.Calendars.{products, next-later, due-now, due-later}

-- `best` is the greatest h(d)/d over the absolute deadlines d up to t, at the earliest d
pub record IsBusiest (p : Plan) (relative : ℕ → ℕ) (t : ℕ) (best : Frac) : Type 0 where
  pub some : 1 ≤ best.den
  pub low : best.den ≤ 2 ^ 48
  pub low_num : best.num ≤ MOST_JOBS * 2 ^ 61
  pub found : 1 ≤ best.num
      → (best.num ≡ processor_demand p relative best.den) × IsDeadline p relative best.den × (best.den ≤ hyper p)
  pub greatest : (d : ℕ) → IsDeadline p relative d → d ≤ t
      → processor_demand p relative d * best.den ≤ best.num * d
  pub least : (d : ℕ) → IsDeadline p relative d → d < best.den
      → processor_demand p relative d * best.den < best.num * d

-- the state of the walk: each task's next deadline, the earliest of them, the work due before it, and the greatest
-- demand per tick so far
pub record IsWalkedTo (p : Plan) (relative : ℕ → ℕ) (next : ℕ → ℕ) (now work : ℕ) (best : Frac) : Type 0 where
  pub taken : ℕ
  pub nexts : (i : ℕ) → i < count p → next i ≡ next_deadline p relative taken i
  pub now_is : now ≡ least_below (count p) next
  pub work_is : work ≡ processor_demand p relative taken
  pub busiest : IsBusiest p relative taken best
  pub within : taken ≤ hyper p

module _ (p : Plan) (lim : IsWithinLimits p) (relative : ℕ → ℕ) (con : IsConstrained p relative) where
  -- the number of jobs of task i that are due by d
  abbrev due_by : ℕ → ℕ → ℕ
  due_by d i = jobs_due (period p i) (relative i) d

  abbrev h : ℕ → ℕ
  h = processor_demand p relative

  some-worst : (i : ℕ) → i < count p → 1 ≤ worst p i
  some-worst i lt = omega (arith, (lim.tasks.each i lt).some_worst)

  -- the demand within a hyperperiod is at most 100000 * 2^61
  pub low-demand : hyper_jobs p.tasks ≤ MOST_JOBS → (d : ℕ) → d ≤ hyper p
      → processor_demand p relative d ≤ MOST_JOBS * 2 ^ 61
  low-demand few d le =
      let most : ℕ → ℕ = λ i. 2 ^ 61 * (hyper p / period p i) in
      let task : (i : ℕ) → i < count p → work_due p relative d i ≤ most i =
      λ i lt.
      let q = hyper p / period p i in
      let whole : q * period p i ≡ hyper p = period_divides p lim i lt in
      let before : (r : ℕ) → relative i + r * period p i ≤ d → r < q =
      λ r by. products (period p i) (relative i) (every_period p lim i) r q (omega (arith, con.some i lt)) in
      let jobs : due_by d i ≤ q = jobs_due-most (period p i) (relative i) d q before in
      omega (arith, mul-le-mul_right (worst p i) jobs, mul-le-mul_left q (low_worst p lim i lt)) in
      let each = sum_below-le (count p) (work_due p relative d) most task in
      omega (arith, each, sum_below-times (count p) (2 ^ 61) (λ i. hyper p / period p i))

  -- at each absolute deadline some work is due
  some-demand : (d : ℕ) → IsDeadline p relative d → 1 ≤ processor_demand p relative d
  some-demand d at = go at.job at.some at.is
    where
      go : (k : ℕ) → 1 ≤ k → absolute p relative at.task k ≡ d → 1 ≤ processor_demand p relative d
      go zero some e = absurd (omega arith)
      go (suc q) some e =
          let i = at.task in
          let is = absolute-suc p relative i q (con.first i at.below) in
          let by : q < due_by d i = jobs_due-above (period p i) (relative i) d q (every_period p lim i) (omega (arith, is)) in
          let one : 1 ≤ due_by d i = omega (arith, by) in
          let term = sum_below-term (count p) (work_due p relative d) i at.below in
          omega (arith, term, mul-le-mul_right (worst p i) one, some-worst i at.below)

  -- the first absolute deadline of the first task is within the hyperperiod
  first-deadline : IsDeadline p relative (relative 0)
  first-deadline = record {
    task = 0;
    job = 1;
    below = some_task p lim;
    some = omega arith;
    is = absolute-suc p relative 0 0 (con.first 0 (some_task p lim)) ∙ omega arith;
  }

  first-within : relative 0 ≤ hyper p
  first-within =
      let first : 0 < count p = some_task p lim in
      go (hyper p / period p 0) (period_divides p lim 0 first)
    where
      go : (q : ℕ) → q * period p 0 ≡ hyper p → relative 0 ≤ hyper p
      go zero e = absurd (omega (arith, some_hyper p lim))
      go (suc q) e = omega (arith, con.within 0 (some_task p lim))

  positive : (d : ℕ) → IsDeadline p relative d → 1 ≤ d
  positive d at = omega (arith, at.is, con.some at.task at.below)

  busiest-start : IsBusiest p relative 0 (record { num = 0; den = 1 })
  busiest-start = grind (arith, nat_tests, positive)

  -- at the start each task is at its first deadline, and no work is due before it
  pub walk-start : (next : ℕ → ℕ) → ((i : ℕ) → i < count p → next i ≡ relative i)
      → IsWalkedTo p relative next (least_below (count p) next) 0 (record { num = 0; den = 1 })
  walk-start next same = grind (arith, nat_tests, busiest-start, jobs_due-most, none-demand)

  module _ (next : ℕ → ℕ) (now work : ℕ) (best : Frac) (w : IsWalkedTo p relative next now work best) where
    now-first : (i : ℕ) → i < count p → now ≤ next_deadline p relative w.taken i
    now-first i lt = omega (arith, w.now_is, w.nexts i lt, least-below (count p) next i lt)

    pub now-later : w.taken < now
    now-later = grind (arith, nat_tests, every_period, least-above, next-later, some_task)

    -- the tick is an absolute deadline, and there is none between the last one and the tick
    now-deadline : IsDeadline p relative now
    now-deadline =
        let r = least-found (count p) next (some_task p lim) in
        let jobs = due_by w.taken r.0 in
        let place = absolute-suc p relative r.0 jobs (con.first r.0 r.1) in
        record {
          task = r.0;
          job = suc jobs;
          below = r.1;
          some = omega arith;
          is = omega (arith, place, w.nexts r.0 r.1, w.now_is, r.2);
        }

    none-between : (d : ℕ) → IsDeadline p relative d → w.taken < d → now ≤ d
    none-between d at lt = go at.job at.some at.is
      where
        go : (k : ℕ) → 1 ≤ k → absolute p relative at.task k ≡ d → now ≤ d
        go zero some e = absurd (omega arith)
        go (suc q) some e =
            let i = at.task in
            let m = due_by w.taken i in
            let is = absolute-suc p relative i q (con.first i at.below) in
            let by : relative i + q * period p i ≡ d = omega (arith, is) in
            elim (cases_lt q m) [
              | inl before ↦
                  let low = jobs_due-below (period p i) (relative i) w.taken q before in
                  absurd (omega (arith, low, by))
              | inr from ↦ omega (arith, now-first i at.below, mul-le-mul_right (period p i) from, by)
            ]

    -- each job that is due at the tick is one more of its task that is due by then
    due-is : (i : ℕ) → i < count p
        → due_by now i ≡ due_by w.taken i + (if nat_eq (next i) now then 1 else 0)
    due-is i lt = grind (arith, nat_tests, due-later, due-now, eq-or-lt_of_le, eqb-false, eqb-true, every_period, now-first, now-later)

    pub work-next : work + sum_where (count p) (λ i. nat_eq (next i) now) (worst p)
        ≡ processor_demand p relative now
    work-next =
        let n = count p in
        let here : ℕ → ℕ = λ i. if nat_eq (next i) now then worst p i else 0 in
        let whole = sum_below-add n (work_due p relative w.taken) here in
        let task : (i : ℕ) → i < n → work_due p relative w.taken i + here i ≡ work_due p relative now i =
        λ i lt. rw (due-is i lt) (counted (nat_eq (next i) now) (due_by w.taken i) (worst p i)) in
        let each : sum_below n (λ i. work_due p relative w.taken i + here i) ≡ processor_demand p relative now =
        sum_below-same n (λ i. work_due p relative w.taken i + here i) (work_due p relative now) task in
        omega (arith, whole, each, w.work_is)
      where
        counted : (b : Bool) (m c : ℕ) → m * c + (if b then c else 0) ≡ (m + (if b then 1 else 0)) * c
        counted true m c = omega arith
        counted false m c = omega arith

    -- the absolute deadlines up to the tick are the earlier ones and the tick
    up-to-now : (d : ℕ) → IsDeadline p relative d → d ≤ now → (d ≤ w.taken) ⊎ (d ≡ now)
    up-to-now d at le = elim (cases_lt w.taken d) [
      | inl later ↦ inr (omega (arith, none-between d at later))
      | inr before ↦ inl before
    ]

    -- if the demand at the tick isn't greater, the greatest so far stays
    busiest-kept : h now * best.den ≤ best.num * now → IsBusiest p relative now best
    busiest-kept low = grind (arith, nat_tests, up-to-now)

    -- if the demand at the tick is greater than the greatest so far, it is greater than each earlier one
    busier : (d : ℕ) → IsDeadline p relative d → d ≤ w.taken → best.num * now < h now * best.den → h d * now < h now * d
    busier d at le more = elim (cases_lt (h d * now) (h now * d)) [
      | inl less ↦ less
      | inr most ↦ absurd (
          let old : h d * best.den * now ≤ best.num * d * now = mul-le-mul_right now (w.busiest.greatest d at le) in
          let new : suc (best.num * now) * d ≤ h now * best.den * d = mul-le-mul_right d more in
          let both : h now * d * best.den ≤ h d * now * best.den = mul-le-mul_right best.den most in
          omega (arith, old, new, both, positive d at))
    ]

    busiest-taken : hyper_jobs p.tasks ≤ MOST_JOBS → now ≤ hyper p → best.num * now < h now * best.den
        → IsBusiest p relative now (record { num = h now; den = now })
    busiest-taken few le more = grind (arith, nat_tests, busier, low-demand, now-deadline, positive, up-to-now)

    -- with the jobs of the tick taken, the walk is at the next deadline
    pub walk-on : (after : ℕ → ℕ) (then-best : Frac) → now ≤ hyper p → Moved p next now after
        → IsBusiest p relative now then-best
        → IsWalkedTo p relative after (least_below (count p) after) (h now) then-best
    walk-on after then-best le moved is = record {
      taken = now;
      nexts = λ i lt. moved i lt ∙ follows i lt (nat_eq (next i) now) refl;
      now_is = refl;
      work_is = refl;
      busiest = is;
      within = le;
    }
      where
        follows : (i : ℕ) → i < count p → (b : Bool) → nat_eq (next i) now ≡ b
            → (if b then now + period p i else next i) ≡ next_deadline p relative now i
        follows i lt true e =
            let same = eqb-true (next i) now e in
            let more : due_by now i ≡ due_by w.taken i + 1 =
            due-now (period p i) (relative i) (every_period p lim i) w.taken now (omega (arith, same, w.nexts i lt)) in
            let product : due_by now i * period p i ≡ (due_by w.taken i + 1) * period p i =
            ap (λ (m : ℕ). m * period p i) more in
            omega (arith, same, w.nexts i lt, product)
        follows i lt false e =
            let none : due_by now i ≡ due_by w.taken i =
            subst (λ (b : Bool). due_by now i ≡ due_by w.taken i + (if b then 1 else 0)) e (due-is i lt)
            ∙ omega arith in
            let product : due_by now i * period p i ≡ due_by w.taken i * period p i =
            ap (λ (m : ℕ). m * period p i) none in
            omega (arith, w.nexts i lt, product)

    -- the next deadline is later than the tick
    pub goes-on : (after : ℕ → ℕ) (then_now : ℕ) → Moved p next now after → then_now ≡ least_below (count p) after
        → now < then_now
    goes-on after then_now moved e = grind (arith, nat_tests, every_period, least-above, now-first, some_task)

    -- a step of the walk, whether or not the demand at the tick is the greatest so far
    module _ (few : hyper_jobs p.tasks ≤ MOST_JOBS) (le : now ≤ hyper p) (after : ℕ → ℕ) (then_now sum den : ℕ)
        (moved : Moved p next now after) (then_is : then_now ≡ least_below (count p) after) (sum_is : sum ≡ h now)
        (den_is : den ≡ now) where
      here-is : (then-best : Frac) → IsBusiest p relative now then-best
          → IsWalkedTo p relative after then_now sum then-best
      here-is then-best is = grind (arith, nat_tests, walk-on)

      abbrev here : Frac
      here = record { num = sum; den = den }

      pub walk-takes : is_greater here best ≡ true → IsWalkedTo p relative after then_now sum here
      walk-takes more = grind (arith, nat_tests, busiest-taken, here-is, ltb-true)

      pub walk-keeps : is_greater here best ≡ false → IsWalkedTo p relative after then_now sum best
      walk-keeps less = grind (arith, nat_tests, busiest-kept, here-is, ltb-false)

    -- once the tick is beyond the hyperperiod, the constrained demand is found
    pub walk-ends : hyper p < now → IsConstrainedDemand p relative best
    walk-ends over =
        let reached : relative 0 ≤ w.taken = (elim (cases_lt w.taken (relative 0)) [
          | inl later ↦
              let by = none-between (relative 0) first-deadline later in
              absurd (omega (arith, by, first-within))
          | inr before ↦ before
        ]) in
        let top = w.busiest.greatest (relative 0) first-deadline reached in
        let some = some-demand (relative 0) first-deadline in
        let one : 1 ≤ best.num = some-num best.num (h (relative 0)) best.den (relative 0) some w.busiest.some top in
        let is = w.busiest.found one in
        record {
          num = is.0;
          deadline = is.1;
          within = is.2;
          greatest = λ d at le. w.busiest.greatest d at (elim (cases_lt w.taken d) [
            | inl later ↦ absurd (let by = none-between d at later in omega (arith, by))
            | inr before ↦ before
          ]);
          least = w.busiest.least;
        }
      where
        some-num : (n a b c : ℕ) → 1 ≤ a → 1 ≤ b → a * b ≤ n * c → 1 ≤ n
        some-num zero a b c sa sb le =
            let times : 1 * b ≤ a * b = mul-le-mul_right b sa in
            absurd (omega (arith, times))
        some-num (suc n) a b c sa sb le = omega arith
