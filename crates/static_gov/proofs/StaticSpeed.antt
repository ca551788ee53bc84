-- The lowest entry that meets the static demand is the lowest that is enough.
use Rattle.std.proofs.Common.{◌≡◌, ℕ, zero, suc, ◌+◌, ◌-◌, ◌*◌, ◌/◌, ◌<◌, ◌≤◌, Bool, true, false, List, [], ◌∷◌, length, refl, sym, ◌∙◌, ap, subst, arith, mul-le-mul_left, nat_lt, inl, inr}
use Rattle.std.proofs.Math.Nat.{mul-le-mul_right}
use Rattle.std.proofs.lemmas.Bool.{cases_lt}
use Rattle.std.proofs.lemmas.Bool.Decides.{nat_tests}
use Rattle.dvs_base.specs.declared.kind.Scheduler.{Scheduler}
use Rattle.dvs_base.specs.declared.kind.Scheduler.TheVariants.{Edf, Rm}
use Rattle.dvs_base.specs.declared.kind.GovernorKind.TheVariants.{Fixed}
use Rattle.grid_fraction.specs.Fraction.{meets}
use Rattle.grid_fraction.specs.Numbers.{any_below, first_from, list_below, sum_below}
use Rattle.grid_fraction.proofs.Searches.{any-some, any_below-false, first_from-is}
use Rattle.grid_fraction.proofs.Sums.{sum_below-add, sum_below-le, sum_below-least, sum_below-zero}
use Rattle.freq_table.specs.Tables.{speed_at, lowest_entry, IsTable}
use Rattle.freq_table.proofs.Chosen.{speeds_rise, lowest_within, lowest-most}
use Rattle.sched_model.specs.Plan.{Plan, count, point, period, offset, worst, rate, hyper}
use Rattle.sched_model.specs.Tests.{PassesAt, total_rate}
use Rattle.sched_model.specs.Jobs.{JobDemands, due, worst_demand}
use Rattle.sched_model.specs.Ticks.{PublishedDemand, Tick, at, exec, share, units_left, IsMet}
use Rattle.sched_model.specs.Priority.{allotment, key_of}
use Rattle.sched_model.specs.Schedule.{entry_in_force, schedule, schedule_by, IsScheduleBy}
use Rattle.sched_model.specs.Demand.{published}
use Rattle.sched_model.specs.StaticDemand.{heaviest, static_demand_of, static_demand}
use Rattle.sched_model.specs.Admission.{IsWithinLimits, IsAdmitted}
use Rattle.sched_model.proofs.LevelSums.{sum_below-term, sum_below-times}
use Rattle.sched_model.proofs.Limits.{period_divides}
use Rattle.sched_model.proofs.StaticShare.{heaviest_within}
use Rattle.sched_model.proofs.Schedules.{schedule_exists, schedule-suc, schedule-none, exec-drop}
use Rattle.sched_model.proofs.Served.{served, jobs-served}
use Rattle.sched_model.proofs.Units.{shares-fit}
use Rattle.governor.proofs.Fits.{IsEnough, static_enough}
use Rattle.governor.proofs.Worst.{entry-same, published-fixed, worst-met}
use Rattle.static_gov.specs.StaticSpeed.{speed_of, schedule_with, Misses, IsLowestEnough}

-- an entry's own speed as a demand picks this entry
own-lowest : (p : Plan) → IsTable p.machine → (e : ℕ) → e < length p.machine.points → lowest_entry p.machine (speed_of p e) ≡ e
own-lowest p table e lt =
    let n : ℕ = length p.machine.points in
    let test : ℕ → Bool = λ k. meets (speed_at p.machine k) (speed_of p e) in
    let first : first_from n 0 test ≡ e = first_from-is n e test lt below here in
    omega (arith, first)
  where
    below : (k : ℕ) → k < e → meets (speed_at p.machine k) (speed_of p e) ≡ false
    below k l =
        let next : speed_at p.machine k < speed_at p.machine (k + 1) = table.rising k (omega arith) in
        let rest : speed_at p.machine (k + 1) ≤ speed_at p.machine e = speeds_rise p.machine table (k + 1) e (omega arith) lt in
        grind (arith, nat_tests, next, rest)

    here : meets (speed_at p.machine e) (speed_of p e) ≡ true
    here = grind (arith, nat_tests)

-- the tick with entry e that may follow the ticks of `past`
abbrev tick_with : Plan → JobDemands → ℕ → List Tick → Tick
tick_with p dem e past = record {
  entry = e;
  shares = list_below (count p) (allotment (count p) (key_of p.scheduler p (length past)) ((point p e).speed) (units_left p dem past));
}

-- two published demands that always pick the same entry have the same schedule
same-schedule : (p : Plan) (dem : JobDemands) (ask other : PublishedDemand)
    → ((past : List Tick) → entry_in_force p dem ask past ≡ entry_in_force p dem other past)
    → (t : ℕ) → schedule_by p dem ask t ≡ schedule_by p dem other t
same-schedule p dem ask other same zero = schedule-none p dem ask ∙ sym (schedule-none p dem other)
same-schedule p dem ask other same (suc t) =
    schedule-suc p dem ask t
    ∙ (ap (λ (past : List Tick). tick_with p dem (entry_in_force p dem ask past) past ∷ past) (same-schedule p dem ask other same t)
    ∙ (ap (λ (e : ℕ). tick_with p dem e (schedule_by p dem other t) ∷ schedule_by p dem other t) (same (schedule_by p dem other t))
    ∙ sym (schedule-suc p dem other t)))

-- a speed at which the test passes meets the static demand
meets-static : (p : Plan) → IsWithinLimits p → (f : ℕ) (s : Scheduler) → PassesAt f s p
    → (static_demand_of s p).num ≤ f * (static_demand_of s p).den
meets-static p lim f Edf passes = passes
meets-static p lim f Rm passes = passes (heaviest p) (heaviest_within p lim)

passes-by : (p : Plan) (f : ℕ) (s : Scheduler) → p.scheduler ≡ s → IsEnough f p → PassesAt f s p
passes-by p f Edf is enough = enough.edf is
passes-by p f Rm is enough = enough.rm is

-- tasks that ask for w units in H ticks, n times, don't get them by tick O + n * H at a speed with less in H ticks
too-much : (F O H n w s : ℕ) → n ≡ F * O + 1 → F * H < w → n * w ≤ s → s ≤ F * (O + n * H) → ⊥
too-much F O H n w s is over least most =
    let grown : n * (F * H + 1) ≤ n * w = mul-le-mul_left n (omega arith) in
    omega (arith, grown, is, least, most)

-- the schedule with entry f always in force
module _ (p : Plan) (lim : IsWithinLimits p) (f : ℕ) (lt : f < length p.machine.points) where
  abbrev dem : JobDemands
  dem = worst_demand p

  abbrev ask : PublishedDemand
  ask past = speed_of p f

  always : (past : List Tick) → entry_in_force p dem ask past ≡ f
  always past = entry-same p dem ask (speed_of p f) (λ past. refl) past ∙ own-lowest p lim.machine f lt

  -- all tasks together get at most the speed in each tick
  all-served : (past : List Tick) → IsScheduleBy p dem ask past → sum_below (count p) (served past) ≤ speed_at p.machine f * length past
  all-served [] legal = omega (arith, sum_below-zero (count p) (served []) (λ i l. refl))
  all-served (x ∷ past) legal =
      let speed : (point p x.entry).speed ≡ speed_at p.machine f = ap (speed_at p.machine) (legal.1.entry ∙ always past) in
      omega (
        arith,
        speed,
        sum_below-add (count p) (served past) (share x),
        shares-fit p dem ask past x legal.1,
        all-served past legal.0,
      )

  -- the sum of the offsets
  abbrev offsets : ℕ
  offsets = sum_below (count p) (offset p)

  -- how many hyperperiods it takes until a job misses
  abbrev times : ℕ
  times = speed_at p.machine f * offsets + 1

  abbrev last : ℕ
  last = offsets + times * hyper p

  abbrev ticks : List Tick
  ticks = schedule_with p f last

  long : length ticks ≡ last
  long = (schedule_exists p dem ask last).1

  -- how many jobs of a task are due by then
  abbrev jobs : ℕ → ℕ
  jobs i = times * (hyper p / period p i)

  due-by : (i j : ℕ) → i < count p → j < jobs i → due p i (suc j) ≤ length ticks
  unfolding due
  due-by i j below jl =
      let each : suc j * period p i ≤ jobs i * period p i = mul-le-mul_right (period p i) (omega arith) in
      let whole : jobs i * period p i ≡ times * hyper p = omega (arith, ap (λ (m : ℕ). times * m) (period_divides p lim i below)) in
      let first : offset p i ≤ offsets = sum_below-term (count p) (offset p) i below in
      omega (arith, long, each, whole, first)

  -- whether job j + 1 of task i has had less than its worst case by its deadline
  abbrev misses : ℕ → ℕ → Bool
  misses i j = nat_lt (exec p (at (due p i (suc j)) ticks) i (suc j)) (worst p i)

  -- a task that misses no deadline got its worst case for each job
  own-served : (i : ℕ) → i < count p → ((j : ℕ) → j < jobs i → misses i j ≡ false) → times * rate p i ≤ served ticks i
  own-served i below met =
      let least : jobs i * worst p i ≤ sum_below (jobs i) (λ j. exec p ticks i (suc j)) =
      sum_below-least (jobs i) (worst p i) (λ j. exec p ticks i (suc j)) had in
      let same : times * rate p i ≡ jobs i * worst p i = omega arith in
      omega (arith, least, same, jobs-served p i (jobs i) ticks)
    where
      had : (j : ℕ) → j < jobs i → worst p i ≤ exec p ticks i (suc j)
      had j jl =
          let all : worst p i ≤ exec p (at (due p i (suc j)) ticks) i (suc j) = grind (arith, nat_tests, met j jl) in
          omega (arith, all, exec-drop p i (suc j) (length ticks - due p i (suc j)) ticks)

  some-missed : speed_at p.machine f * hyper p < total_rate p → Misses p dem ticks
  some-missed over = go (any_below (count p) (λ i. any_below (jobs i) (misses i))) refl
    where
      go : (b : Bool) → any_below (count p) (λ i. any_below (jobs i) (misses i)) ≡ b → Misses p dem ticks
      go true e =
          let (i, below, on) = any-some (count p) (λ i. any_below (jobs i) (misses i)) e in
          let (j, jl, less) = any-some (jobs i) (misses i) on in
          record {
            task = i;
            job = suc j;
            of_plan = below;
            some_job = omega arith;
            in_ticks = due-by i j below jl;
            less = grind (arith, nat_tests, less);
          }
      go false e =
          let each : (i : ℕ) → i < count p → times * rate p i ≤ served ticks i =
          λ i below. own-served i below (any_below-false (jobs i) (misses i) (any_below-false (count p) (λ i. any_below (jobs i) (misses i)) e i below)) in
          let all : sum_below (count p) (λ i. times * rate p i) ≤ sum_below (count p) (served ticks) =
          sum_below-le (count p) (λ i. times * rate p i) (served ticks) each in
          let most : sum_below (count p) (served ticks) ≤ speed_at p.machine f * last =
          subst (λ (n : ℕ). sum_below (count p) (served ticks) ≤ speed_at p.machine f * n) long
          (all-served ticks (schedule_exists p dem ask last).0) in
          absurd (too-much (speed_at p.machine f) offsets (hyper p) times (total_rate p) (sum_below (count p) (served ticks)) refl over
          (omega (arith, all, sum_below-times (count p) times (rate p))) most)

module _ (p : Plan) (adm : IsAdmitted p) where
  abbrev lowest : ℕ
  lowest = lowest_entry p.machine (static_demand p)

  within : lowest < length p.machine.points
  within = lowest_within p.machine (static_demand p) adm.limits.machine.some

  -- the schedule under static is that with this entry
  same-entry : (past : List Tick) → entry_in_force p (worst_demand p) (published p Fixed (worst_demand p)) past
      ≡ entry_in_force p (worst_demand p) (λ past. speed_of p lowest) past
  same-entry past =
      entry-same p (worst_demand p) (published p Fixed (worst_demand p)) (static_demand p) (published-fixed p (worst_demand p)) past
      ∙ sym (always p adm.limits lowest within past)

  same-ticks : (t : ℕ) → schedule p Fixed (worst_demand p) t ≡ schedule_with p lowest t
  same-ticks = same-schedule p (worst_demand p) (published p Fixed (worst_demand p)) (λ past. speed_of p lowest) same-entry

  fails-below : (f : ℕ) → f < lowest → PassesAt (speed_at p.machine f) p.scheduler p → ⊥
  fails-below f lt passes =
      let low : lowest ≤ f = lowest-most p.machine (static_demand p) f (meets-static p adm.limits (speed_at p.machine f) p.scheduler passes) in
      omega (arith, low, lt)

  misses-below : p.scheduler ≡ Edf → (f : ℕ) → f < lowest → (t : ℕ) × Misses p (worst_demand p) (schedule_with p f t)
  misses-below edf f lt = (last p adm.limits f lower, some-missed p adm.limits f lower over)
    where
      lower : f < length p.machine.points
      lower = omega (arith, lt, within)

      over : speed_at p.machine f * hyper p < total_rate p
      over = elim (cases_lt (speed_at p.machine f * hyper p) (total_rate p)) [
        | inl more ↦ more
        | inr fits ↦ absurd (fails-below f lt (subst (λ (s : Scheduler). PassesAt (speed_at p.machine f) s p) (sym edf) fits))
      ]

  pub lowest-enough : IsLowestEnough p (lowest_entry p.machine (static_demand p))
  lowest-enough = record {
    in_table = within;
    picks = λ f le. own-lowest p adm.limits.machine f (omega (arith, le, within));
    passes = passes-by p (speed_at p.machine lowest) p.scheduler refl (static_enough p adm);
    meets = λ t. subst (IsMet p (worst_demand p)) (same-ticks t) (worst-met p adm t);
    fails = fails-below;
    misses = misses-below;
  }
