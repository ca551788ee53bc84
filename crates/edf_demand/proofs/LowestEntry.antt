-- Relative deadlines within the limits, and what the lowest entry that meets the constrained demand does.
use Rattle.std.proofs.Common.{ℕ, List, length, slice_index, ◌≡◌, ◌<◌, ◌≤◌, refl, sym, ◌∙◌, subst, arith, inl, inr, ◌*◌, Bool, true, false, Ok, Err, ap, true≢false}
use Rattle.std.proofs.Math.Nat.{mul-le-mul_right}
use Rattle.std.proofs.lemmas.Bool.{cases_lt, le-leb, leb-true, false_from_ne_true}
use Rattle.std.proofs.lemmas.Bool.Decides.{nat_tests}
use Rattle.dvs_base.specs.declared.kind.Scheduler.TheVariants.{Edf}
use Rattle.task_model.specs.declared.task.Task.{Task}
use Rattle.task_model.specs.Tasks.{task_at, IsTaskSet, NoneOffset}
use Rattle.freq_table.specs.Tables.{Table, IsTable, speed_at, last_entry, highest_speed, lowest_entry, lowest_pick}
use Rattle.sched_model.specs.Plan.{Plan, plan_of, count, offset, top_speed}
use Rattle.sched_model.specs.Admission.{IsWithinLimits}
use Rattle.edf_demand_laws.specs.Constrained.{IsConstrained}
use Rattle.dvs_base.specs.declared.limits.TheConstants.{MOST_JOBS}
use Rattle.task_model.proofs.FirstOffset.{none-found}
use Rattle.grid_fraction.specs.declared.Frac.{Frac}
use Rattle.grid_fraction.specs.Fraction.{meets}
use Rattle.grid_fraction.proofs.Searches.{any_below-none, any_below-false}
use Rattle.freq_table.specs.declared.machine.Pick.{Pick}
use Rattle.freq_table.proofs.Chosen.{below_highest, lowest_within, lowest-most, picked_meets}
use Rattle.edf_demand_laws.specs.ProcessorDemand.{IsConstrainedDemand, constrained_demand}
use Rattle.edf_demand_laws.proofs.DemandDecides.{meets-always, misses-at-worst}
use Rattle.deadline_list.specs.Deadlines.{AreFor}
use Rattle.edf_demand.specs.declared.lowest_speed.ConstrainFault.TheVariants.{Denied}
use Rattle.edf_demand.specs.Answers.{LooksAtDemand, IsLowestSpeed, IsOverload, hyper_jobs, pick_answer, demand_answer, tested_answer}

pub within_limits : (p : Plan) → IsTaskSet p.tasks → IsTable p.machine → IsWithinLimits p
within_limits p tasks machine = record { tasks = tasks; machine = machine }

pub constrained_of : (tasks : List Task) (machine : Table) (deadlines : List ℕ) → AreFor tasks deadlines
    → NoneOffset (λ k. (task_at tasks k).offset) (length tasks)
    → IsConstrained (plan_of tasks machine Edf) (slice_index deadlines)
constrained_of tasks machine deadlines are none = record { first = none; some = are.some; within = are.within }

module _ (p : Plan) (relative : ℕ → ℕ) where
  module _ (none : NoneOffset (offset p) (count p)) where
    module _ (few : hyper_jobs p.tasks ≤ MOST_JOBS) (demand : Frac) (is : demand ≡ constrained_demand p relative) where
      looked_at : tested_answer p relative ≡ demand_answer p demand
      looked_at = grind (arith, nat_tests, none-found)

      pub answer-met : (e : ℕ) → lowest_pick p.machine demand ≡ (record { index = e; met = true })
          → tested_answer p relative ≡ Ok (record { demand = demand; point = e })
      answer-met e pick = looked_at ∙ ap (pick_answer p demand) pick

      pub answer-denied : (cap : ℕ) → cap ≡ top_speed p * demand.den → (lowest_pick p.machine demand).met ≡ false
          → tested_answer p relative ≡ Err (Denied demand.den demand.num cap)
      answer-denied cap cap_is met =
          looked_at ∙ (rw met refl ∙ ap (λ n. Err (Denied demand.den demand.num n)) (sym cap_is))

-- if the highest speed doesn't meet a demand, no entry does
none-meets : (m : Table) → IsTable m → (d : Frac) → highest_speed m * d.den < d.num → (lowest_pick m d).met ≡ false
none-meets m table d over = grind (arith, nat_tests, any_below-none, below_highest, false_from_ne_true, leb-true, mul-le-mul_right)

-- a demand that some entry meets is met by the highest speed
met-highest : (m : Table) → IsTable m → (d : Frac) → (lowest_pick m d).met ≡ true → d.num ≤ highest_speed m * d.den
met-highest m table d met = grind (arith, nat_tests, cases_lt, none-meets)

module _ (p : Plan) (lim : IsWithinLimits p) (relative : ℕ → ℕ) (con : IsConstrained p relative) (demand : Frac)
    (is : IsConstrainedDemand p relative demand) where
  pub lowest-speed : (e : ℕ) → lowest_pick p.machine demand ≡ (record { index = e; met = true })
      → IsLowestSpeed p relative (record { demand = demand; point = e })
  lowest-speed e pick =
      let here : lowest_entry p.machine demand ≡ e = ap (λ (x : Pick). x.index) pick in
      let met : (lowest_pick p.machine demand).met ≡ true = ap (λ (x : Pick). x.met) pick in
      let top = met-highest p.machine lim.machine demand met in
      let does : demand.num ≤ speed_at p.machine e * demand.den =
      subst (λ (k : ℕ). demand.num ≤ speed_at p.machine k * demand.den) here
      (picked_meets p.machine lim.machine demand top) in
      record {
        meets = meets-always p lim relative con demand is (speed_at p.machine e) does;
        lower = λ k lt.
            let within = lowest_within p.machine demand lim.machine.some in
            misses-at-worst p lim relative con demand is k (omega (arith, within, here))
            (elim (cases_lt (speed_at p.machine k * demand.den) demand.num) [
              | inl over ↦ over
              | inr fits ↦ absurd (omega (arith, lowest-most p.machine demand k fits, here))
            ]);
      }

  last-within : last_entry p.machine < length p.machine.points
  last-within = let some : 1 ≤ length p.machine.points = lim.machine.some in omega arith

  pub overload : LooksAtDemand p → (cap : ℕ) → cap ≡ top_speed p * demand.den → (lowest_pick p.machine demand).met ≡ false
      → IsOverload p relative demand.den demand.num cap
  overload tested cap cap_is met =
      let each : ℕ → Bool = λ e. meets (speed_at p.machine e) demand in
      let over : top_speed p * demand.den < demand.num = (elim (cases_lt (top_speed p * demand.den) demand.num) [
        | inl more ↦ more
        | inr fits ↦ absurd (
            let off : each (last_entry p.machine) ≡ false =
            any_below-false (length p.machine.points) each met (last_entry p.machine) last-within in
            true≢false (sym (le-leb demand.num (top_speed p * demand.den) fits) ∙ off))
      ]) in
      record {
        tested = tested;
        demand = is;
        cap_is = cap_is;
        over = omega (arith, over, cap_is);
        misses = misses-at-worst p lim relative con demand is (last_entry p.machine) last-within over;
      }
