-- Processor demands, the order of tasks, and a deadline that is missed, by evaluation.
use Rattle.std.proofs.Common.{◌≡◌, ℕ, zero, suc, [], ◌∷◌, codes, refl, arith}
use Rattle.dvs_base.specs.declared.kind.Scheduler.TheVariants.{Edf}
use Rattle.grid_fraction.specs.Fraction as fraction
use Rattle.sched_model.specs.Plan.{Plan, plan_of}
use Rattle.sched_model.specs.Jobs.{release, due, latest, worst_demand, IsWithin}
use Rattle.sched_model.specs.Ticks.{exec}
use Rattle.sched_model.proofs.Examples.{task_of, entry_of}
use Rattle.edf_demand_laws.specs.Constrained.{schedule_at}
use Rattle.edf_demand_laws.specs.MetOrMissed.{MeetsAlways}
use Rattle.edf_demand_laws.specs.ProcessorDemand.{processor_demand, constrained_demand}
use Rattle.edf_demand_laws.proofs.ConstrainedSchedules.{schedule-exists}
use Rattle.sched_model.proofs.JobLaws.{worst_demand-le}

abbrev pair : Plan
pair =
    plan_of (task_of (codes "a") 4 2 ∷ task_of (codes "b") 6 3 ∷ [])
    (record { points = entry_of 1 1000 ∷ []; idle = 0; charge = 0 }) Edf

-- the relative deadlines: 2 ticks for task a, and 5 for b
abbrev deadlines : ℕ → ℕ
deadlines zero = 2
deadlines (suc i) = 5

abbrev work : ℕ → ℕ
work d = processor_demand pair deadlines d

-- the processor demands at the absolute deadlines of one hyperperiod;
-- the greatest per tick is at 6, and it is more than one unit
demands : (work 2 ≡ 2) × (work 5 ≡ 5) × (work 6 ≡ 7) × (work 10 ≡ 9) × (work 11 ≡ 12)
demands = (refl, refl, refl, refl, refl)

-- the constrained demand is the demand of 7 units at tick 6
busiest : constrained_demand pair deadlines ≡ record { num = 7; den = 6 }
unfolding constrained_demand release fraction.least_common_multiple
busiest = refl

-- two tasks whose demands per tick at 2 and at 8 are equal: 2/2 and 8/8; the earlier is the constrained demand
abbrev even_pair : Plan
even_pair =
    plan_of (task_of (codes "a") 4 2 ∷ task_of (codes "b") 8 4 ∷ [])
    (record { points = entry_of 1 1000 ∷ []; idle = 0; charge = 0 }) Edf

abbrev even_deadlines : ℕ → ℕ
even_deadlines zero = 2
even_deadlines (suc i) = 8

earliest_of_equal : constrained_demand even_pair even_deadlines ≡ record { num = 2; den = 2 }
unfolding constrained_demand release fraction.least_common_multiple
earliest_of_equal = refl

-- before the first absolute deadline nothing is due
none_due : work 1 ≡ 0
none_due = refl

-- with one unit a tick the second job of a, due at 6, has had 1 of its 2 units by then
second_job : exec pair (schedule_at pair deadlines (worst_demand pair) 0 6) 0 2 ≡ 1
unfolding release due latest
second_job = refl

-- deadlines by which b is due earlier than a, though a precedes it in the file and has the shorter period
abbrev turned : ℕ → ℕ
turned zero = 4
turned (suc i) = 3

earlier_first : exec pair (schedule_at pair turned (worst_demand pair) 0 3) 1 1 ≡ 3
unfolding release due latest
earlier_first = refl

-- so one unit a tick doesn't meet every deadline: that of the second job of a is the end of the sixth tick
one_unit_misses : MeetsAlways pair deadlines 1 → ⊥
unfolding release due latest
one_unit_misses meets =
    let within : IsWithin pair (worst_demand pair) = record { most = λ i k h. worst_demand-le pair i k; none = λ i. refl } in
    omega (
      arith,
      meets (worst_demand pair) (schedule_at pair deadlines (worst_demand pair) 0 6) within
          (schedule-exists pair deadlines (worst_demand pair) 0 6).0 0 2 (omega arith) (omega arith) (omega arith),
    )
