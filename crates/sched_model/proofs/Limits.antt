-- What the limits say of a plan's numbers.
use Rattle.std.proofs.lemmas.Bool.Decides.{nat_tests}
use Rattle.std.proofs.Common.{◌≡◌, ℕ, ◌+◌, ◌*◌, ◌/◌, ◌^◌, ◌<◌, ◌≤◌, suc, get_or, arith, mul-le-mul_left}
use Rattle.std.specs.Prelude.{map}
use Rattle.std.specs.List.{All}
use Rattle.std.proofs.lemmas.List.{length-map, get_or-map}
use Rattle.std.proofs.Math.ListN.{get_or-eq_default}
use Rattle.std.proofs.lemmas.Bool.{cases_lt}
use Rattle.std.proofs.lemmas.List.Elements.{All-from_get_or}
use Rattle.grid_fraction.proofs.Multiples.{least_common_multiple-pos, mul-div-least_common_multiple}
use Rattle.task_model.specs.declared.limits.TheConstants.{LONGEST_PERIOD, LONGEST_HYPERPERIOD}
use Rattle.freq_table.specs.declared.limits.TheConstants.{MOST_MILLIVOLTS}
use Rattle.task_model.specs.Tasks.{no_task}
use Rattle.sched_model.specs.Plan.{Plan, count, period, worst, hyper}
use Rattle.sched_model.specs.Jobs.{latest, latest_since, deadline}
use Rattle.sched_model.specs.Admission.{IsWithinLimits}
use Rattle.sched_model.specs.Notes.{most_unit_energy}
use Rattle.sched_model.proofs.JobLaws.{due-within, latest_since-le, last_release-le}

module _ (p : Plan) (lim : IsWithinLimits p) where
  pub some_task : 0 < count p
  some_task = lim.tasks.some

  pub some_period : (i : ℕ) → i < count p → 0 < period p i
  some_period i h = (lim.tasks.each i h).some_period

  -- every period is positive, also that of a number past the last task
  pub every_period : (i : ℕ) → 0 < period p i
  every_period i = grind (arith, nat_tests, cases_lt, some_period, get_or-eq_default)

  -- the latest job was released by tick t
  pub latest-early : (i t : ℕ) → i < count p → latest_since p i (latest p i t) < suc t
  latest-early i t lt = omega (arith, latest_since-le p i t (every_period i) lt, last_release-le p t)

  pub low_period : (i : ℕ) → i < count p → period p i ≤ LONGEST_PERIOD
  low_period i h = (lim.tasks.each i h).low_period

  pub low_worst : (i : ℕ) → i < count p → worst p i ≤ 2 ^ 61
  low_worst i h = omega (arith, (lim.tasks.each i h).low_worst, lim.machine.low_charge)

  -- the latest job is due within the longest period
  pub deadline-soon : (i t : ℕ) → i < count p → deadline p i t ≤ t + LONGEST_PERIOD
  deadline-soon i t h = due-within p i t LONGEST_PERIOD (some_period i h) ((lim.tasks.each i h).low_offset) (low_period i h)

  period_in : (i : ℕ) → i < count p → get_or (map (λ t. t.period) p.tasks) i 1 ≡ period p i
  period_in i h = get_or-map (λ t. t.period) p.tasks i no_task 1 h

  each_some : All (λ n. 0 < n) (map (λ t. t.period) p.tasks)
  each_some = All-from_get_or (λ n. 0 < n) (map (λ t. t.period) p.tasks) 1 (λ i lt.
      let h : i < count p = omega (arith, length-map p.tasks (λ t. t.period)) in
      rw (period_in i h) (some_period i h))

  pub some_hyper : 0 < hyper p
  some_hyper = least_common_multiple-pos (map (λ t. t.period) p.tasks) each_some

  pub low_hyper : hyper p ≤ LONGEST_HYPERPERIOD
  low_hyper = lim.tasks.hyper

  pub period_divides : (i : ℕ) → i < count p → hyper p / period p i * period p i ≡ hyper p
  period_divides i h = grind (arith, nat_tests, each_some, length-map, mul-div-least_common_multiple, period_in i h)

-- units at these millivolts, at this many thousandths of a running unit, cost at most the highest price each
pub energy-most : (units mv rate : ℕ) → mv ≤ MOST_MILLIVOLTS → rate ≤ 1000 → units * mv * mv * rate ≤ most_unit_energy * units
energy-most units mv rate low cheap = grind (arith, nat_tests, mul-le-mul_left)
