-- The absolute deadlines of one hyperperiod decide for spans of every length.
use Rattle.std.proofs.Common.{◌≡◌, ◌⊎◌, inl, inr, ℕ, zero, suc, ◌+◌, ◌-◌, ◌*◌, ◌/◌, ◌<◌, ◌≤◌, arith, subst, sym, ◌∙◌, ap, eq-or-lt_of_le, le_of_suc-le-suc, add-mul, mul-add, mul-le-mul_right}
use Rattle.std.proofs.lemmas.Bool.{cases_lt}
use Rattle.grid_fraction.specs.declared.Frac.{Frac}
use Rattle.grid_fraction.specs.Numbers.{sum_below}
use Rattle.grid_fraction.proofs.Sums.{sum_below-le, sum_below-add, sum_below-zero}
use Rattle.sched_model.specs.Plan.{Plan, count, period, offset, worst, hyper, rate}
use Rattle.sched_model.specs.Jobs.{release}
use Rattle.sched_model.specs.Tests.{total_rate}
use Rattle.sched_model.specs.Admission.{IsWithinLimits}
use Rattle.sched_model.proofs.Limits.{every_period, some_hyper, period_divides}
use Rattle.edf_demand_laws.specs.Constrained.{IsConstrained, absolute}
use Rattle.edf_demand_laws.specs.ProcessorDemand.{jobs_due, work_due, processor_demand, IsDeadline, IsConstrainedDemand}
use Rattle.edf_demand_laws.proofs.JobsDue.{jobs_due-above, jobs_due-below, jobs_due-most}

-- the absolute deadline of job q + 1 is its task's relative deadline and q periods
pub absolute-suc : (p : Plan) (relative : ℕ → ℕ) (i q : ℕ) → offset p i ≡ 0
    → absolute p relative i (suc q) ≡ relative i + q * period p i
unfolding release
absolute-suc p relative i q first = let e : suc q - 1 ≡ q = omega arith in rw e (omega (arith, first))

-- q periods later, a task has at most q more jobs due
more_jobs : (every within d q : ℕ) → 0 < every → jobs_due every within (d + q * every) ≤ jobs_due every within d + q
more_jobs every within d q some =
    jobs_due-most every within (d + q * every) (jobs_due every within d + q) (λ r le.
    elim (cases_lt r q) [
      | inl before ↦ omega arith
      | inr from ↦
          let whole : (r - q) + q ≡ r = omega arith in
          let apart : (r - q) * every + q * every ≡ r * every =
          sym (add-mul (r - q) q every) ∙ ap (λ (m : ℕ). m * every) whole in
          omega (arith, jobs_due-above every within d (r - q) some (omega arith))
    ])

-- in q periods, a task has at least q jobs due
hyper_jobs : (every within q : ℕ) → 0 < every → within ≤ every → q ≤ jobs_due every within (q * every)
hyper_jobs every within zero some le = omega arith
hyper_jobs every within (suc q) some le = jobs_due-above every within (suc q * every) q some (omega arith)

-- at the next tick a task has no more jobs due, or one of its jobs has that tick as its absolute deadline
next_job : (every within d : ℕ) → 0 < every
    → ((q : ℕ) × (within + q * every ≡ suc d)) ⊎ (jobs_due every within (suc d) ≤ jobs_due every within d)
next_job every within d some = grind (arith, jobs_due-below every within (suc d), eq-or-lt_of_le, jobs_due-above)

module _ (p : Plan) (lim : IsWithinLimits p) (relative : ℕ → ℕ) (con : IsConstrained p relative) where
  -- the number of jobs of task i that are due by d
  abbrev due_by : ℕ → ℕ → ℕ
  due_by d i = jobs_due (period p i) (relative i) d

  -- the work of the jobs of task i that are due by d
  abbrev work_by : ℕ → ℕ → ℕ
  work_by d i = work_due p relative d i

  -- the processor demand of a hyperperiod is at least the work of a hyperperiod
  pub hyper-demand : total_rate p ≤ processor_demand p relative (hyper p)
  hyper-demand =
      sum_below-le (count p) (rate p) (work_by (hyper p)) (λ i lt.
      let q = hyper p / period p i in
      let whole : q * period p i ≡ hyper p = period_divides p lim i lt in
      let all : q ≤ due_by (hyper p) i =
      subst (λ (m : ℕ). q ≤ due_by m i) whole (hyper_jobs (period p i) (relative i) q (every_period p lim i) (con.within i lt)) in
      omega (arith, mul-le-mul_right (worst p i) all))

  -- a hyperperiod more adds at most its work to the processor demand
  pub later-demand : (d : ℕ) → processor_demand p relative (d + hyper p) ≤ processor_demand p relative d + total_rate p
  later-demand d =
      let n = count p in
      let more : (i : ℕ) → i < n → work_by (d + hyper p) i ≤ work_by d i + rate p i =
      λ i lt.
      let q = hyper p / period p i in
      let whole : q * period p i ≡ hyper p = period_divides p lim i lt in
      let all : due_by (d + hyper p) i ≤ due_by d i + q =
      subst (λ (m : ℕ). due_by (d + m) i ≤ due_by d i + q) whole
      (more_jobs (period p i) (relative i) d q (every_period p lim i)) in
      omega (arith, mul-le-mul_right (worst p i) all) in
      subst (λ (m : ℕ). sum_below n (work_by (d + hyper p)) ≤ m) (sum_below-add n (work_by d) (rate p))
      (sum_below-le n (work_by (d + hyper p)) (λ i. work_by d i + rate p i) more)

  -- no work is due by tick 0
  pub none-demand : processor_demand p relative 0 ≡ 0
  none-demand = grind (arith, sum_below-zero, jobs_due-most)

  -- the processor demand grows only at absolute deadlines
  next-demand : (d : ℕ)
      → IsDeadline p relative (suc d) ⊎ (processor_demand p relative (suc d) ≤ processor_demand p relative d)
  next-demand d = elim (look (count p) (omega arith)) [
    | inl now ↦ inl now
    | inr still ↦
        inr (sum_below-le (count p) (work_by (suc d)) (work_by d) (λ i lt. mul-le-mul_right (worst p i) (still i lt)))
  ]
    where
      look : (m : ℕ) → m ≤ count p
          → IsDeadline p relative (suc d) ⊎ ((i : ℕ) → i < m → due_by (suc d) i ≤ due_by d i)
      look zero le = inr (λ i lt. absurd (omega arith))
      look (suc m) le = elim (next_job (period p m) (relative m) d (every_period p lim m)) [
        | inl now ↦ inl (record {
          task = m;
          job = suc now.0;
          below = omega arith;
          some = omega arith;
          is = absolute-suc p relative m now.0 (con.first m (omega arith)) ∙ now.1;
        })
        | inr still ↦ elim (look m (omega arith)) [
          | inl now ↦ inl now
          | inr before ↦ inr (λ i lt. elim (eq-or-lt_of_le (le_of_suc-le-suc lt)) [
            | inl last ↦ subst (λ (j : ℕ). due_by (suc d) j ≤ due_by d j) (sym last) still
            | inr earlier ↦ before i earlier
          ])
        ]
      ]

  -- the greatest demand per tick A/B at the absolute deadlines up to the hyperperiod bounds the demand of every span
  module _ (A B : ℕ)
      (each : (d : ℕ) → IsDeadline p relative d → d ≤ hyper p → processor_demand p relative d * B ≤ A * d) where
    up_to_hyper : (d : ℕ) → d ≤ hyper p → processor_demand p relative d * B ≤ A * d
    up_to_hyper zero le = rw none-demand (omega arith)
    up_to_hyper (suc d) le = grind (arith, next-demand d, mul-le-mul_right, up_to_hyper d (omega arith))

    by_steps : (n d : ℕ) → d ≤ n → processor_demand p relative d * B ≤ A * d
    by_steps zero d le = let z : d ≡ 0 = omega arith in rw (z, none-demand) (omega arith)
    by_steps (suc n) d le = elim (cases_lt (hyper p) d) [
      | inr within ↦ up_to_hyper d within
      | inl past ↦
          let r : ℕ = d - hyper p in
          let whole : r + hyper p ≡ d = omega arith in
          let earlier : processor_demand p relative r * B ≤ A * r = by_steps n r (omega (arith, some_hyper p lim)) in
          let adds : processor_demand p relative d ≤ processor_demand p relative r + total_rate p =
          subst (λ (m : ℕ). processor_demand p relative m ≤ processor_demand p relative r + total_rate p) whole
          (later-demand r) in
          let times = mul-le-mul_right B adds in
          let all = mul-le-mul_right B hyper-demand in
          let last = up_to_hyper (hyper p) (omega arith) in
          let parts : A * r + A * hyper p ≡ A * d = sym (mul-add A r (hyper p)) ∙ ap (λ (m : ℕ). A * m) whole in
          omega (arith, times, all, last, parts, earlier)
    ]

    pub demand-everywhere : (d : ℕ) → processor_demand p relative d * B ≤ A * d
    demand-everywhere d = by_steps d d (omega arith)

  -- the constrained demand bounds the demand per tick of every span
  pub demand-greatest : (demand : Frac) → IsConstrainedDemand p relative demand → (d : ℕ)
      → processor_demand p relative d * demand.den ≤ demand.num * d
  demand-greatest demand is = demand-everywhere demand.num demand.den is.greatest
