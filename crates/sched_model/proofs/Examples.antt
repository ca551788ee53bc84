-- Worked plans, their demands and the lines of their speeds, and values of the definitions by evaluation.
use Rattle.std.proofs.Common.{◌≡◌, ℕ, List, [], ◌∷◌, refl, codes, arith, Bool, true, false, true≢false, sym, filter}
use Rattle.dvs_base.specs.declared.kind.Scheduler.{Scheduler}
use Rattle.dvs_base.specs.declared.kind.Scheduler.TheVariants.{Edf, Rm}
use Rattle.dvs_base.specs.declared.kind.GovernorKind.TheVariants.{Plain, Fixed, Cycle, Ahead}
use Rattle.grid_fraction.specs.declared.Frac.{Frac}
use Rattle.grid_fraction.specs.Fraction.{least_common_multiple}
use Rattle.task_model.specs.declared.task.Task.{Task}
use Rattle.task_model.specs.DemandRows.{DemandRow}
use Rattle.freq_table.specs.declared.machine.Point.{Point}
use Rattle.freq_table.specs.Tables.{Table}
use Rattle.dvs_base.specs.declared.note.Note.{Note}
use Rattle.dvs_base.specs.declared.note.Note.TheVariants.{Speed, End}
use Rattle.dvs_base.specs.declared.kind.GovernorKind.{GovernorKind}
use Rattle.sched_model.specs.Plan.{Plan}
use Rattle.sched_model.specs.Jobs.{release, due, latest, worst_demand, demand_of}
use Rattle.sched_model.specs.Ticks.{Tick, IsMet}
use Rattle.sched_model.specs.Priority.{in_order}
use Rattle.sched_model.specs.Demand.{published, IsAlwaysMet}
use Rattle.sched_model.specs.StaticDemand.{static_demand}
use Rattle.sched_model.specs.Tests.{level_work}
use Rattle.sched_model.specs.Schedule.{schedule_by, AlwaysMeets}
use Rattle.sched_model.specs.Backlog.{backlog}
use Rattle.sched_model.specs.Notes.{notes_before_end}
use Rattle.sched_model.specs.RunNotes.{run_notes}

abbrev pub task_from : ℕ → List ℕ → ℕ → ℕ → Task
task_from offset name period worst = record { name = name; period = period; worst = worst; offset = offset }

abbrev pub task_of : List ℕ → ℕ → ℕ → Task
task_of = task_from 0

abbrev pub entry_of : ℕ → ℕ → Point
entry_of speed millivolts = record { speed = speed; millivolts = millivolts }

abbrev pub row : ℕ → ℕ → ℕ → DemandRow
row i k units = record { task = i; job = k; units = units }

-- three speeds; idle units and switches of speed cost nothing
abbrev pub three_speeds : Table
three_speeds = record {
  points = entry_of 2 3000 ∷ entry_of 3 4000 ∷ entry_of 4 5000 ∷ [];
  idle = 0;
  charge = 0;
}

-- the example of Pillai and Shin 2001, with 4 units for a millisecond at full speed
abbrev pub paper_example : Scheduler → Plan
paper_example s = record {
  tasks = task_of (codes "t1") 8 12 ∷ task_of (codes "t2") 10 12 ∷ task_of (codes "t3") 14 4 ∷ [];
  machine = three_speeds;
  scheduler = s;
}

abbrev pub paper_demands : List DemandRow
paper_demands = row 0 1 8 ∷ row 0 2 4 ∷ row 1 1 4 ∷ row 1 2 4 ∷ row 2 1 4 ∷ row 2 2 4 ∷ []

-- a set that fills the processor at the highest speed
abbrev pub heavy_set : Plan
heavy_set = record {
  tasks = task_of (codes "a") 3 12 ∷ task_of (codes "b") 4 12 ∷ task_of (codes "c") 12 60 ∷ [];
  machine = record { points = entry_of 6 3000 ∷ entry_of 12 5000 ∷ []; idle = 0; charge = 0 };
  scheduler = Edf;
}

-- two tasks under RM, with the longer period first
abbrev pub two_tasks : Plan
two_tasks = record {
  tasks = task_of (codes "a") 6 3 ∷ task_of (codes "b") 4 4 ∷ [];
  machine = record { points = entry_of 2 1000 ∷ []; idle = 0; charge = 0 };
  scheduler = Rm;
}

-- two tasks under RM whose static speed is below the highest
abbrev pub light_set : Plan
light_set = record {
  tasks = task_of (codes "x") 4 4 ∷ task_of (codes "y") 8 6 ∷ [];
  machine = three_speeds;
  scheduler = Rm;
}

-- two tasks under EDF, the second of which is released first at tick 2
abbrev pub late_second : Plan
late_second = record {
  tasks = task_of (codes "x") 4 4 ∷ task_from 2 (codes "y") 6 6 ∷ [];
  machine = three_speeds;
  scheduler = Edf;
}

-- one task whose first release is at tick 5
abbrev pub late_alone : Scheduler → Plan
late_alone s = record {
  tasks = task_from 5 (codes "x") 4 4 ∷ [];
  machine = three_speeds;
  scheduler = s;
}

-- a controller with six tasks
abbrev pub controller : Plan
controller = record {
  tasks =
      task_of (codes "imu") 50 796
      ∷ task_of (codes "radio") 100 1196
      ∷ task_of (codes "motor") 200 1996
      ∷ task_of (codes "baro") 250 2496
      ∷ task_of (codes "log") 400 3996
      ∷ task_of (codes "ui") 1000 9996
      ∷ [];
  machine = record {
    points = entry_of 40 1100 ∷ entry_of 60 1250 ∷ entry_of 80 1400 ∷ entry_of 100 1600 ∷ [];
    idle = 100;
    charge = 2;
  };
  scheduler = Edf;
}

abbrev pub controller_demands : List DemandRow
controller_demands = row 0 1 196 ∷ row 0 2 396 ∷ row 1 1 596 ∷ row 2 1 996 ∷ row 4 1 396 ∷ row 5 1 196 ∷ []

-- two tasks under EDF: first the shorter period is due earlier, and later the two deadlines are equal
abbrev pub early_and_late : Plan
early_and_late = record {
  tasks = task_of (codes "a") 8 16 ∷ task_of (codes "b") 4 8 ∷ [];
  machine = record { points = entry_of 1 1000 ∷ entry_of 2 2000 ∷ entry_of 4 3000 ∷ []; idle = 0; charge = 0 };
  scheduler = Edf;
}

-- three tasks under EDF, of which the last two are always due together
abbrev pub due_together : Plan
due_together = record {
  tasks = task_of (codes "a") 5 5 ∷ task_of (codes "b") 8 4 ∷ task_of (codes "c") 8 12 ∷ [];
  machine = record { points = entry_of 1 1000 ∷ entry_of 2 2000 ∷ entry_of 5 3000 ∷ []; idle = 0; charge = 0 };
  scheduler = Edf;
}

abbrev pub due_together_demands : List DemandRow
due_together_demands = row 1 1 2 ∷ []

-- three tasks under RM, of which the first two have one period and the last a shorter one
abbrev pub equal_periods : Plan
equal_periods = record {
  tasks = task_of (codes "a") 8 12 ∷ task_of (codes "b") 8 4 ∷ task_of (codes "c") 4 1 ∷ [];
  machine = record { points = entry_of 2 1000 ∷ entry_of 3 2000 ∷ entry_of 4 3000 ∷ []; idle = 0; charge = 0 };
  scheduler = Rm;
}

-- three tasks under RM: at tick 5 the shortest period and the longest are due together
abbrev pub long_and_short : Plan
long_and_short = record {
  tasks = task_of (codes "a") 10 18 ∷ task_of (codes "b") 5 7 ∷ task_of (codes "c") 8 1 ∷ [];
  machine = record { points = entry_of 1 1000 ∷ entry_of 2 2000 ∷ entry_of 4 3000 ∷ []; idle = 0; charge = 0 };
  scheduler = Rm;
}

-- two tasks under RM that fill the processor; the first job needs less, so the second has more than its allotment
abbrev pub freed_units : Plan
freed_units = record {
  tasks = task_of (codes "a") 2 6 ∷ task_of (codes "b") 4 4 ∷ [];
  machine = record { points = entry_of 2 1000 ∷ entry_of 4 2000 ∷ []; idle = 0; charge = 0 };
  scheduler = Rm;
}

abbrev pub freed_units_demands : List DemandRow
freed_units_demands = row 0 1 1 ∷ []

-- two tasks of one period that the highest speed can't do under RM
abbrev pub denied_set : Plan
denied_set = record {
  tasks = task_of (codes "a") 4 3 ∷ task_of (codes "b") 4 3 ∷ [];
  machine = record { points = entry_of 1 1000 ∷ []; idle = 0; charge = 0 };
  scheduler = Rm;
}

abbrev fraction : ℕ → ℕ → Frac
fraction num den = record { num = num; den = den }

edf_static_demand : static_demand (paper_example Edf) ≡ fraction 836 280
unfolding least_common_multiple
edf_static_demand = refl

rm_static_demand : static_demand (paper_example Rm) ≡ fraction 52 14
rm_static_demand = refl

-- two levels ask for the same share of different periods: the static demand has the shorter period
rm_static_demand_of_equals : static_demand (record {
  tasks = task_of (codes "a") 4 10 ∷ task_of (codes "b") 5 10 ∷ task_of (codes "c") 8 8 ∷ [];
  machine = three_speeds;
  scheduler = Rm;
}) ≡ fraction 30 5
rm_static_demand_of_equals = refl

-- two levels ask for the same share, and the file's order isn't the order of the periods:
-- the static demand has the shorter period
rm_static_demand_of_equals_out_of_order : static_demand (record {
  tasks = task_of (codes "c") 8 8 ∷ task_of (codes "a") 4 10 ∷ task_of (codes "b") 5 10 ∷ [];
  machine = three_speeds;
  scheduler = Rm;
}) ≡ fraction 30 5
rm_static_demand_of_equals_out_of_order = refl

-- of two tasks with one period the level of the earlier is only that task, and the level of the later is both:
-- 6 units, where 4 can be done
level_of_the_earlier_of_equals : level_work denied_set 0 ≡ 3
level_of_the_earlier_of_equals = refl

level_of_the_later_of_equals : level_work denied_set 1 ≡ 6
level_of_the_later_of_equals = refl

backlog_within_a_period : backlog (paper_example Rm) 4 1 ≡ 8
unfolding backlog published in_order release due latest schedule_by
backlog_within_a_period = refl

backlog_at_the_next_release : backlog (paper_example Rm) 8 2 ≡ 0
unfolding backlog published in_order release due latest schedule_by
backlog_at_the_next_release = refl

-- at the static speed 2, not at the highest: of 10 units 4 are done by tick 2
backlog_at_the_static_speed : backlog light_set 2 1 ≡ 6
unfolding backlog published in_order release due latest schedule_by
backlog_at_the_static_speed = refl

-- the level of the task with the shorter period is only that task, though it is second in the file
backlog_of_a_level_in_rm_order : backlog two_tasks 1 1 ≡ 2
unfolding backlog published in_order release due latest schedule_by
backlog_of_a_level_in_rm_order = refl

-- one task, which is due at the end of the tick that it is released at
abbrev due_in_a_tick : Plan
due_in_a_tick = record { tasks = task_of (codes "x") 1 4 ∷ []; machine = three_speeds; scheduler = Edf }

-- a tick at the entry 0 in which the one task gets these units
abbrev tick_of : ℕ → Tick
tick_of units = record { entry = 0; shares = units ∷ [] }

-- a job that is due at the end of the last tick counts: with 3 of its 4 units the deadline isn't met
due_at_the_end : IsMet due_in_a_tick (worst_demand due_in_a_tick) (tick_of 3 ∷ []) → ⊥
unfolding due release
due_at_the_end met = omega (arith, met 0 1 (omega arith) (omega arith) (omega arith))

-- look-ahead alone may ask for more than the highest speed
always_met : IsAlwaysMet Plain × IsAlwaysMet Fixed × IsAlwaysMet Cycle × (IsAlwaysMet Ahead → ⊥)
always_met = (λ e. absurd (cc), λ e. absurd (cc), λ e. absurd (cc), λ some. some refl)

abbrev is_speed_or_end : Note → Bool
is_speed_or_end (Speed t f num den) = true
is_speed_or_end (End t run idle) = true
is_speed_or_end _ = false

abbrev speeds_and_end : Plan → GovernorKind → List DemandRow → ℕ → List Note
speeds_and_end p g rows ticks = filter is_speed_or_end (run_notes p g (demand_of p rows) ticks)

-- the example of Pillai and Shin 2001 under static EDF
paper_example_edf_static : speeds_and_end (paper_example Edf) Fixed paper_demands 16 ≡
    Speed 0 3 836 280 ∷ Speed 3 3 836 280 ∷ Speed 4 3 836 280 ∷ Speed 6 3 836 280 ∷ Speed 8 3 836 280 ∷ Speed 10 3 836 280
    ∷ Speed 12 3 836 280 ∷ Speed 14 3 836 280 ∷ End 16 448000000000 0 ∷ []
unfolding least_common_multiple published in_order release due latest schedule_by notes_before_end
paper_example_edf_static = refl

-- cycle-conserving RM allots by the static speed, which is below the highest here
static_speed_below_highest : speeds_and_end light_set Cycle [] 8 ≡
    Speed 0 2 8 4 ∷ Speed 2 2 4 2 ∷ Speed 4 2 6 4 ∷ Speed 6 2 2 2 ∷ Speed 7 2 0 1 ∷ End 8 126000000000 0 ∷ []
unfolding published in_order release due latest schedule_by notes_before_end
static_speed_below_highest = refl

-- the decision of a run of one tick, which is its first and its last, counts: the speed 1 doesn't meet the demand 6/4
one_decision : AlwaysMeets denied_set Fixed (worst_demand denied_set) 1 → ⊥
unfolding published schedule_by
one_decision meets = true≢false (sym (meets 0 (omega arith) refl))
