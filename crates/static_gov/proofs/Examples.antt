-- The lowest entries of a worked set under both schedulers, and what lower ones miss, by evaluation.
use Rattle.std.proofs.Common.{◌≡◌, refl, arith}
use Rattle.dvs_base.specs.declared.kind.Scheduler.TheVariants.{Edf, Rm}
use Rattle.grid_fraction.specs.Fraction.{least_common_multiple}
use Rattle.freq_table.specs.Tables.{lowest_entry}
use Rattle.sched_model.specs.Jobs.{release, due, latest, worst_demand}
use Rattle.sched_model.specs.Ticks.{exec}
use Rattle.sched_model.specs.Tests.{PassesAt}
use Rattle.sched_model.specs.StaticDemand.{static_demand}
use Rattle.sched_model.specs.Schedule.{schedule_by}
use Rattle.sched_model.proofs.Examples.{three_speeds, paper_example}
use Rattle.static_gov.specs.StaticSpeed.{schedule_with, Misses}

-- of the speeds 2, 3 and 4 the demand 836/280 picks 3 under EDF, and the demand 52/14 picks 4 under RM
edf_entry : lowest_entry three_speeds (static_demand (paper_example Edf)) ≡ 1
unfolding least_common_multiple
edf_entry = refl

rm_entry : lowest_entry three_speeds (static_demand (paper_example Rm)) ≡ 2
rm_entry = refl

-- speed 2 does 560 of the 836 units of a hyperperiod, and speed 3 does 42 of the 52 units of a period of the third task
edf_fails : PassesAt 2 Edf (paper_example Edf) → ⊥
unfolding least_common_multiple
edf_fails passes = omega (arith, passes)

rm_fails : PassesAt 3 Rm (paper_example Rm) → ⊥
rm_fails passes = omega (arith, passes 2 (omega arith))

-- at speed 2 the first job of the second task, which is due at tick 10, has had 8 of its 12 units by then
second_task : exec (paper_example Edf) (schedule_with (paper_example Edf) 0 10) 1 1 ≡ 8
unfolding release due latest schedule_by
second_task = refl

late_second_task : Misses (paper_example Edf) (worst_demand (paper_example Edf)) (schedule_with (paper_example Edf) 0 10)
unfolding release due latest schedule_by
late_second_task = record {
  task = 1;
  job = 1;
  of_plan = omega arith;
  some_job = omega arith;
  in_ticks = omega arith;
  less = omega arith;
}
