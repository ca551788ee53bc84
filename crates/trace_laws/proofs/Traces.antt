-- Whole traces of worked plans, by evaluation: the definitions give these texts, byte for byte.
use Rattle.std.proofs.Common.{◌≡◌, ℕ, List, [], ◌∷◌, ◌++◌, refl, codes}
use Rattle.std.specs.Prelude.{flat_map}
use Rattle.std.specs.Fmt.{digits}
use Rattle.dvs_base.specs.declared.kind.Scheduler.{Scheduler}
use Rattle.dvs_base.specs.declared.kind.Scheduler.TheVariants.{Edf, Rm}
use Rattle.dvs_base.specs.declared.kind.GovernorKind.{GovernorKind}
use Rattle.dvs_base.specs.declared.kind.GovernorKind.TheVariants.{Plain, Cycle, Ahead}
use Rattle.grid_fraction.specs.Fraction.{least_common_multiple}
use Rattle.task_model.specs.DemandRows.{DemandRow}
use Rattle.sched_model.specs.Plan.{Plan}
use Rattle.sched_model.specs.Jobs.{release, due, latest, demand_of}
use Rattle.sched_model.specs.Priority.{in_order}
use Rattle.sched_model.specs.Demand.{published}
use Rattle.sched_model.specs.Schedule.{schedule_by}
use Rattle.sched_model.specs.Notes.{notes_before_end}
use Rattle.trace_text.specs.TraceLines.{note_text}
use Rattle.dvs_base.specs.declared.kind.Version.TheVariants.{One}
use Rattle.trace_writer.specs.RunText.{run_text_in}
use Rattle.sched_model.proofs.Examples.{row, paper_example, paper_demands, heavy_set, two_tasks, late_second, late_alone, controller, controller_demands, early_and_late, due_together, due_together_demands, equal_periods, long_and_short, freed_units, freed_units_demands}

-- the text of a run under a list of demands is the first line of a trace and these lines, each ended by a line feed
abbrev HasLines : Plan → GovernorKind → List DemandRow → ℕ → List (List ℕ) → Type 0
HasLines p g rows ticks lines =
    run_text_in One p g (demand_of p rows) ticks ≡ flat_map (λ l. l ++ 10 ∷ []) (codes "trace 1" ∷ lines)

-- the example of Pillai and Shin 2001 under EDF with no governor: always the highest speed
paper_example_edf_none : HasLines (paper_example Edf) Plain [] 16 (
    codes "plan edf none 16" ∷
    codes "release 0 t1 1" ∷
    codes "release 0 t2 1" ∷
    codes "release 0 t3 1" ∷
    codes "speed 0 4 4/1" ∷
    codes "run 0:0 3:0 t1 1 12 300000000000" ∷
    codes "done 3:0 t1 1 12" ∷
    codes "speed 3 4 4/1" ∷
    codes "run 3:0 6:0 t2 1 12 300000000000" ∷
    codes "done 6:0 t2 1 12" ∷
    codes "speed 6 4 4/1" ∷
    codes "run 6:0 7:0 t3 1 4 100000000000" ∷
    codes "done 7:0 t3 1 4" ∷
    codes "speed 7 4 4/1" ∷
    codes "idle 7:0 8:0 4 0" ∷
    codes "release 8 t1 2" ∷
    codes "speed 8 4 4/1" ∷
    codes "run 8:0 10:0 t1 2 8 200000000000" ∷
    codes "release 10 t2 2" ∷
    codes "speed 10 4 4/1" ∷
    codes "run 10:0 11:0 t1 2 4 100000000000" ∷
    codes "done 11:0 t1 2 12" ∷
    codes "speed 11 4 4/1" ∷
    codes "run 11:0 14:0 t2 2 12 300000000000" ∷
    codes "done 14:0 t2 2 12" ∷
    codes "release 14 t3 2" ∷
    codes "speed 14 4 4/1" ∷
    codes "run 14:0 15:0 t3 2 4 100000000000" ∷
    codes "done 15:0 t3 2 4" ∷
    codes "speed 15 4 4/1" ∷
    codes "idle 15:0 16:0 4 0" ∷
    codes "end 16 1400000000000 0" ∷
    [])
unfolding digits least_common_multiple published in_order release due latest schedule_by notes_before_end note_text
paper_example_edf_none = refl

-- the example of Pillai and Shin 2001 under cycle-conserving EDF:
-- tick 2 is shared, and the completion inside it is seen at tick 3
paper_example_edf_cc : HasLines (paper_example Edf) Cycle paper_demands 16 (
    codes "plan edf cc 16" ∷
    codes "release 0 t1 1" ∷
    codes "release 0 t2 1" ∷
    codes "release 0 t3 1" ∷
    codes "speed 0 3 836/280" ∷
    codes "run 0:0 2:2 t1 1 8 128000000000" ∷
    codes "done 2:2 t1 1 8" ∷
    codes "run 2:2 3:0 t2 1 1 16000000000" ∷
    codes "speed 3 3 696/280" ∷
    codes "run 3:0 4:0 t2 1 3 48000000000" ∷
    codes "done 4:0 t2 1 4" ∷
    codes "speed 4 2 472/280" ∷
    codes "run 4:0 6:0 t3 1 4 36000000000" ∷
    codes "done 6:0 t3 1 4" ∷
    codes "speed 6 2 472/280" ∷
    codes "idle 6:0 8:0 4 0" ∷
    codes "release 8 t1 2" ∷
    codes "speed 8 3 612/280" ∷
    codes "run 8:0 9:1 t1 2 4 64000000000" ∷
    codes "done 9:1 t1 2 4" ∷
    codes "idle 9:1 10:0 2 0" ∷
    codes "release 10 t2 2" ∷
    codes "speed 10 2 556/280" ∷
    codes "run 10:0 12:0 t2 2 4 36000000000" ∷
    codes "done 12:0 t2 2 4" ∷
    codes "speed 12 2 332/280" ∷
    codes "idle 12:0 14:0 4 0" ∷
    codes "release 14 t3 2" ∷
    codes "speed 14 2 332/280" ∷
    codes "run 14:0 16:0 t3 2 4 36000000000" ∷
    codes "done 16:0 t3 2 4" ∷
    codes "end 16 364000000000 0" ∷
    [])
unfolding digits least_common_multiple published in_order release due latest schedule_by notes_before_end note_text
paper_example_edf_cc = refl

-- the example of Pillai and Shin 2001 under look-ahead EDF
paper_example_edf_la : HasLines (paper_example Edf) Ahead paper_demands 16 (
    codes "plan edf la 16" ∷
    codes "release 0 t1 1" ∷
    codes "release 0 t2 1" ∷
    codes "release 0 t3 1" ∷
    codes "speed 0 3 21/8" ∷
    codes "run 0:0 2:2 t1 1 8 128000000000" ∷
    codes "done 2:2 t1 1 8" ∷
    codes "run 2:2 3:0 t2 1 1 16000000000" ∷
    codes "speed 3 2 8/5" ∷
    codes "run 3:0 4:1 t2 1 3 27000000000" ∷
    codes "done 4:1 t2 1 4" ∷
    codes "run 4:1 5:0 t3 1 1 9000000000" ∷
    codes "speed 5 2 0/3" ∷
    codes "run 5:0 6:1 t3 1 3 27000000000" ∷
    codes "done 6:1 t3 1 4" ∷
    codes "idle 6:1 7:0 1 0" ∷
    codes "speed 7 2 0/1" ∷
    codes "idle 7:0 8:0 2 0" ∷
    codes "release 8 t1 2" ∷
    codes "speed 8 2 0/2" ∷
    codes "run 8:0 10:0 t1 2 4 36000000000" ∷
    codes "done 10:0 t1 2 4" ∷
    codes "release 10 t2 2" ∷
    codes "speed 10 2 0/4" ∷
    codes "run 10:0 12:0 t2 2 4 36000000000" ∷
    codes "done 12:0 t2 2 4" ∷
    codes "speed 12 2 0/2" ∷
    codes "idle 12:0 14:0 4 0" ∷
    codes "release 14 t3 2" ∷
    codes "speed 14 2 0/2" ∷
    codes "run 14:0 16:0 t3 2 4 36000000000" ∷
    codes "done 16:0 t3 2 4" ∷
    codes "end 16 315000000000 0" ∷
    [])
unfolding digits least_common_multiple published in_order release due latest schedule_by notes_before_end note_text
paper_example_edf_la = refl

-- the example of Pillai and Shin 2001 under cycle-conserving RM
paper_example_rm_cc : HasLines (paper_example Rm) Cycle paper_demands 16 (
    codes "plan rm cc 16" ∷
    codes "release 0 t1 1" ∷
    codes "release 0 t2 1" ∷
    codes "release 0 t3 1" ∷
    codes "speed 0 4 28/8" ∷
    codes "run 0:0 2:0 t1 1 8 200000000000" ∷
    codes "done 2:0 t1 1 8" ∷
    codes "speed 2 3 16/6" ∷
    codes "run 2:0 3:1 t2 1 4 64000000000" ∷
    codes "done 3:1 t2 1 4" ∷
    codes "run 3:1 4:0 t3 1 2 32000000000" ∷
    codes "speed 4 2 2/4" ∷
    codes "run 4:0 5:0 t3 1 2 18000000000" ∷
    codes "done 5:0 t3 1 4" ∷
    codes "speed 5 2 0/3" ∷
    codes "idle 5:0 8:0 6 0" ∷
    codes "release 8 t1 2" ∷
    codes "speed 8 4 8/2" ∷
    codes "run 8:0 9:0 t1 2 4 100000000000" ∷
    codes "done 9:0 t1 2 4" ∷
    codes "speed 9 2 0/1" ∷
    codes "idle 9:0 10:0 2 0" ∷
    codes "release 10 t2 2" ∷
    codes "speed 10 3 12/4" ∷
    codes "run 10:0 11:1 t2 2 4 64000000000" ∷
    codes "done 11:1 t2 2 4" ∷
    codes "idle 11:1 12:0 2 0" ∷
    codes "speed 12 2 0/2" ∷
    codes "idle 12:0 14:0 4 0" ∷
    codes "release 14 t3 2" ∷
    codes "speed 14 2 4/2" ∷
    codes "run 14:0 16:0 t3 2 4 36000000000" ∷
    codes "done 16:0 t3 2 4" ∷
    codes "end 16 514000000000 0" ∷
    [])
unfolding digits least_common_multiple published in_order release due latest schedule_by notes_before_end note_text
paper_example_rm_cc = refl

-- a look-ahead demand that no entry meets: the highest speed is used
look_ahead_demand_above_table : HasLines heavy_set Ahead [] 3 (
    codes "plan edf la 3" ∷
    codes "release 0 a 1" ∷
    codes "release 0 b 1" ∷
    codes "release 0 c 1" ∷
    codes "speed 0 12 36/3" ∷
    codes "run 0:0 1:0 a 1 12 300000000000" ∷
    codes "done 1:0 a 1 12" ∷
    codes "speed 1 12 24/2" ∷
    codes "run 1:0 2:0 b 1 12 300000000000" ∷
    codes "done 2:0 b 1 12" ∷
    codes "speed 2 12 15/1" ∷
    codes "run 2:0 3:0 c 1 12 300000000000" ∷
    codes "end 3 900000000000 0" ∷
    [])
unfolding digits least_common_multiple published in_order release due latest schedule_by notes_before_end note_text
look_ahead_demand_above_table = refl

-- a job of demand 0 is done at its release
zero_demand_done_at_release : HasLines (paper_example Edf) Cycle (row 0 1 0 ∷ []) 1 (
    codes "plan edf cc 1" ∷
    codes "release 0 t1 1" ∷
    codes "done 0:0 t1 1 0" ∷
    codes "release 0 t2 1" ∷
    codes "release 0 t3 1" ∷
    codes "speed 0 2 416/280" ∷
    codes "run 0:0 1:0 t2 1 2 18000000000" ∷
    codes "end 1 18000000000 0" ∷
    [])
unfolding digits least_common_multiple published in_order release due latest schedule_by notes_before_end note_text
zero_demand_done_at_release = refl

-- a job of demand 0 with no governor is done at its release
zero_demand_with_no_governor : HasLines (paper_example Edf) Plain (row 0 1 0 ∷ []) 1 (
    codes "plan edf none 1" ∷
    codes "release 0 t1 1" ∷
    codes "done 0:0 t1 1 0" ∷
    codes "release 0 t2 1" ∷
    codes "release 0 t3 1" ∷
    codes "speed 0 4 4/1" ∷
    codes "run 0:0 1:0 t2 1 4 100000000000" ∷
    codes "end 1 100000000000 0" ∷
    [])
unfolding digits least_common_multiple published in_order release due latest schedule_by notes_before_end note_text
zero_demand_with_no_governor = refl

-- six tasks, a charge for each switch of speed, and idle units that cost a tenth
realistic_controller : HasLines controller Cycle controller_demands 100 (
    codes "plan edf cc 100" ∷
    codes "release 0 imu 1" ∷
    codes "release 0 radio 1" ∷
    codes "release 0 motor 1" ∷
    codes "release 0 baro 1" ∷
    codes "release 0 log 1" ∷
    codes "release 0 ui 1" ∷
    codes "speed 0 80 136000/2000" ∷
    codes "run 0:0 2:40 imu 1 200 392000000000" ∷
    codes "done 2:40 imu 1 200" ∷
    codes "run 2:40 3:0 radio 1 40 78400000000" ∷
    codes "speed 3 60 112000/2000" ∷
    codes "run 3:0 12:20 radio 1 560 875000000000" ∷
    codes "done 12:20 radio 1 600" ∷
    codes "run 12:20 13:0 motor 1 40 62500000000" ∷
    codes "speed 13 60 100000/2000" ∷
    codes "run 13:0 29:0 motor 1 960 1500000000000" ∷
    codes "done 29:0 motor 1 1000" ∷
    codes "speed 29 60 90000/2000" ∷
    codes "run 29:0 50:0 baro 1 1260 1968750000000" ∷
    codes "release 50 imu 2" ∷
    codes "speed 50 60 114000/2000" ∷
    codes "run 50:0 56:40 imu 2 400 625000000000" ∷
    codes "done 56:40 imu 2 400" ∷
    codes "run 56:40 57:0 baro 1 20 31250000000" ∷
    codes "speed 57 60 98000/2000" ∷
    codes "run 57:0 77:20 baro 1 1220 1906250000000" ∷
    codes "done 77:20 baro 1 2500" ∷
    codes "run 77:20 78:0 log 1 40 62500000000" ∷
    codes "speed 78 60 98000/2000" ∷
    codes "run 78:0 84:0 log 1 360 562500000000" ∷
    codes "done 84:0 log 1 400" ∷
    codes "speed 84 40 80000/2000" ∷
    codes "run 84:0 89:0 ui 1 200 242000000000" ∷
    codes "done 89:0 ui 1 200" ∷
    codes "speed 89 40 60400/2000" ∷
    codes "idle 89:0 100:0 440 53240000000" ∷
    codes "end 100 8306150000000 53240000000" ∷
    [])
unfolding digits least_common_multiple published in_order release due latest schedule_by notes_before_end note_text
realistic_controller = refl

-- under RM the shorter period runs first, at any place in the file
rm_shorter_period_first : HasLines two_tasks Plain [] 6 (
    codes "plan rm none 6" ∷
    codes "release 0 a 1" ∷
    codes "release 0 b 1" ∷
    codes "speed 0 2 2/1" ∷
    codes "run 0:0 2:0 b 1 4 4000000000" ∷
    codes "done 2:0 b 1 4" ∷
    codes "speed 2 2 2/1" ∷
    codes "run 2:0 3:1 a 1 3 3000000000" ∷
    codes "done 3:1 a 1 3" ∷
    codes "idle 3:1 4:0 1 0" ∷
    codes "release 4 b 2" ∷
    codes "speed 4 2 2/1" ∷
    codes "run 4:0 6:0 b 2 4 4000000000" ∷
    codes "done 6:0 b 2 4" ∷
    codes "end 6 11000000000 0" ∷
    [])
unfolding digits least_common_multiple published in_order release due latest schedule_by notes_before_end note_text
rm_shorter_period_first = refl

-- before its first release at tick 2 the second task is complete and charged with nothing
edf_cc_with_an_offset : HasLines late_second Cycle [] 8 (
    codes "plan edf cc 8" ∷
    codes "release 0 x 1" ∷
    codes "speed 0 2 12/12" ∷
    codes "run 0:0 2:0 x 1 4 36000000000" ∷
    codes "done 2:0 x 1 4" ∷
    codes "release 2 y 1" ∷
    codes "speed 2 2 24/12" ∷
    codes "run 2:0 4:0 y 1 4 36000000000" ∷
    codes "release 4 x 2" ∷
    codes "speed 4 2 24/12" ∷
    codes "run 4:0 6:0 x 2 4 36000000000" ∷
    codes "done 6:0 x 2 4" ∷
    codes "speed 6 2 24/12" ∷
    codes "run 6:0 7:0 y 1 2 18000000000" ∷
    codes "done 7:0 y 1 6" ∷
    codes "speed 7 2 24/12" ∷
    codes "idle 7:0 8:0 2 0" ∷
    codes "end 8 126000000000 0" ∷
    [])
unfolding digits least_common_multiple published in_order release due latest schedule_by notes_before_end note_text
edf_cc_with_an_offset = refl

-- a run that ends before the first release idles throughout, under any governor that looks at the jobs
abbrev Idles : Scheduler → GovernorKind → List ℕ → List ℕ → Type 0
Idles s g plan speed = HasLines (late_alone s) g [] 3 (plan ∷ speed ∷ codes "idle 0:0 3:0 6 0" ∷ codes "end 3 0 0" ∷ [])

before_all_releases :
    Idles Edf Cycle (codes "plan edf cc 3") (codes "speed 0 2 0/4")
    × Idles Edf Ahead (codes "plan edf la 3") (codes "speed 0 2 0/5")
    × Idles Rm Cycle (codes "plan rm cc 3") (codes "speed 0 2 0/5")
unfolding digits least_common_multiple published in_order release due latest schedule_by notes_before_end note_text
before_all_releases = (refl, refl, refl)

-- under EDF the earlier deadline runs first, for any periods; of equal deadlines the earlier place
earliest_deadline_first : HasLines early_and_late Plain [] 6 (
    codes "plan edf none 6" ∷
    codes "release 0 a 1" ∷
    codes "release 0 b 1" ∷
    codes "speed 0 4 4/1" ∷
    codes "run 0:0 2:0 b 1 8 72000000000" ∷
    codes "done 2:0 b 1 8" ∷
    codes "speed 2 4 4/1" ∷
    codes "run 2:0 4:0 a 1 8 72000000000" ∷
    codes "release 4 b 2" ∷
    codes "speed 4 4 4/1" ∷
    codes "run 4:0 6:0 a 1 8 72000000000" ∷
    codes "done 6:0 a 1 16" ∷
    codes "end 6 216000000000 0" ∷
    [])
unfolding digits least_common_multiple published in_order release due latest schedule_by notes_before_end note_text
earliest_deadline_first = refl

-- under look-ahead EDF, of two tasks that are due together the later puts off first, and its rate is rounded up
edf_la_of_equal_deadlines : HasLines due_together Ahead due_together_demands 6 (
    codes "plan edf la 6" ∷
    codes "release 0 a 1" ∷
    codes "release 0 b 1" ∷
    codes "release 0 c 1" ∷
    codes "speed 0 2 10/5" ∷
    codes "run 0:0 2:1 a 1 5 20000000000" ∷
    codes "done 2:1 a 1 5" ∷
    codes "run 2:1 3:0 b 1 1 4000000000" ∷
    codes "speed 3 2 4/2" ∷
    codes "run 3:0 3:1 b 1 1 4000000000" ∷
    codes "done 3:1 b 1 2" ∷
    codes "run 3:1 4:0 c 1 1 4000000000" ∷
    codes "speed 4 1 1/1" ∷
    codes "run 4:0 5:0 c 1 1 1000000000" ∷
    codes "release 5 a 2" ∷
    codes "speed 5 5 10/3" ∷
    codes "run 5:0 6:0 c 1 5 45000000000" ∷
    codes "end 6 78000000000 0" ∷
    [])
unfolding digits least_common_multiple published in_order release due latest schedule_by notes_before_end note_text
edf_la_of_equal_deadlines = refl

-- under cycle-conserving RM the shorter period is served and allotted first, and equal periods by their places
rm_cc_of_equal_periods : HasLines equal_periods Cycle [] 6 (
    codes "plan rm cc 6" ∷
    codes "release 0 a 1" ∷
    codes "release 0 b 1" ∷
    codes "release 0 c 1" ∷
    codes "speed 0 3 12/4" ∷
    codes "run 0:0 0:1 c 1 1 4000000000" ∷
    codes "done 0:1 c 1 1" ∷
    codes "run 0:1 1:0 a 1 2 8000000000" ∷
    codes "speed 1 3 9/3" ∷
    codes "run 1:0 4:0 a 1 9 36000000000" ∷
    codes "release 4 c 2" ∷
    codes "speed 4 2 6/4" ∷
    codes "run 4:0 4:1 c 2 1 1000000000" ∷
    codes "done 4:1 c 2 1" ∷
    codes "run 4:1 5:0 a 1 1 1000000000" ∷
    codes "done 5:0 a 1 12" ∷
    codes "speed 5 2 4/3" ∷
    codes "run 5:0 6:0 b 1 2 2000000000" ∷
    codes "end 6 52000000000 0" ∷
    [])
unfolding digits least_common_multiple published in_order release due latest schedule_by notes_before_end note_text
rm_cc_of_equal_periods = refl

-- cycle-conserving RM allots by period at tick 5 too, where by deadline the first task would get 6 units in place of 5
rm_cc_allots_in_rm_order : HasLines long_and_short Cycle [] 8 (
    codes "plan rm cc 8" ∷
    codes "release 0 a 1" ∷
    codes "release 0 b 1" ∷
    codes "release 0 c 1" ∷
    codes "speed 0 4 20/5" ∷
    codes "run 0:0 1:3 b 1 7 63000000000" ∷
    codes "done 1:3 b 1 7" ∷
    codes "run 1:3 2:0 c 1 1 9000000000" ∷
    codes "done 2:0 c 1 1" ∷
    codes "speed 2 4 12/3" ∷
    codes "run 2:0 5:0 a 1 12 108000000000" ∷
    codes "release 5 b 2" ∷
    codes "speed 5 4 12/3" ∷
    codes "run 5:0 6:3 b 2 7 63000000000" ∷
    codes "done 6:3 b 2 7" ∷
    codes "run 6:3 7:0 a 1 1 9000000000" ∷
    codes "speed 7 4 4/1" ∷
    codes "run 7:0 8:0 a 1 4 36000000000" ∷
    codes "end 8 288000000000 0" ∷
    [])
unfolding digits least_common_multiple published in_order release due latest schedule_by notes_before_end note_text
rm_cc_allots_in_rm_order = refl

-- a job that has had more than its allotment has none left of it: at tick 1 the second task has had 3 units of 2
rm_cc_of_more_than_an_allotment : HasLines freed_units Cycle freed_units_demands 2 (
    codes "plan rm cc 2" ∷
    codes "release 0 a 1" ∷
    codes "release 0 b 1" ∷
    codes "speed 0 4 8/2" ∷
    codes "run 0:0 0:1 a 1 1 4000000000" ∷
    codes "done 0:1 a 1 1" ∷
    codes "run 0:1 1:0 b 1 3 12000000000" ∷
    codes "speed 1 2 0/1" ∷
    codes "run 1:0 1:1 b 1 1 1000000000" ∷
    codes "done 1:1 b 1 4" ∷
    codes "idle 1:1 2:0 1 0" ∷
    codes "end 2 17000000000 0" ∷
    [])
unfolding digits least_common_multiple published in_order release due latest schedule_by notes_before_end note_text
rm_cc_of_more_than_an_allotment = refl
