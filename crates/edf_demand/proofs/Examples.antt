-- Answers of the test for deadlines up to the periods, by evaluation.
use Rattle.std.proofs.Common.{◌≡◌, ℕ, List, [], ◌∷◌, slice_index, Ok, Err, codes, refl, arith}
use Rattle.dvs_base.specs.declared.kind.Scheduler.TheVariants.{Edf}
use Rattle.grid_fraction.specs.Fraction as fraction
use Rattle.freq_table.specs.declared.machine.Point.{Point}
use Rattle.freq_table.specs.Tables.{last_entry}
use Rattle.task_model.specs.declared.task.Task.{Task}
use Rattle.sched_model.specs.Plan.{Plan, plan_of}
use Rattle.sched_model.specs.Jobs.{release}
use Rattle.sched_model.proofs.Examples.{task_from, task_of, entry_of}
use Rattle.edf_demand_laws.specs.ProcessorDemand.{constrained_demand}
use Rattle.edf_demand_laws.specs.MetOrMissed.{MissesAtWorst}
use Rattle.edf_demand.specs.declared.lowest_speed.ConstrainFault.TheVariants.{Offset, Denied}
use Rattle.edf_demand.specs.Answers.{tested_answer, IsLowestSpeed, IsOverload}

-- tasks under EDF on a machine with these entries
abbrev plan : List Task → List Point → Plan
plan tasks points = plan_of tasks (record { points = points; idle = 0; charge = 0 }) Edf

-- task a (period 4, worst case 4) and task b (period 6, worst case 6)
abbrev pair : List Task
pair = task_of (codes "a") 4 4 ∷ task_of (codes "b") 6 6 ∷ []

-- with the deadlines 2 and 5 the most work per tick is due by tick 6: two jobs of a and one of b, 14 units, for which
-- speed 2 is too slow and speed 3 enough
lowest :
    tested_answer (plan pair (entry_of 2 1000 ∷ entry_of 3 1000 ∷ entry_of 4 1000 ∷ [])) (slice_index (2 ∷ 5 ∷ []))
    ≡ Ok (record { demand = record { num = 14; den = 6 }; point = 1 })
unfolding constrained_demand release fraction.least_common_multiple
lowest = refl

-- the highest speed 2 does 12 units in these 6 ticks
denied : tested_answer (plan pair (entry_of 2 1000 ∷ [])) (slice_index (2 ∷ 5 ∷ [])) ≡ Err (Denied 6 14 12)
unfolding constrained_demand release fraction.least_common_multiple
denied = refl

-- of two tasks with offsets the first in file order is named, whose period and deadline are the longer ones
offset_in_file_order :
    tested_answer
    (plan (task_from 1 (codes "b") 6 1 ∷ task_from 1 (codes "a") 4 1 ∷ []) (entry_of 2 1000 ∷ []))
    (slice_index (5 ∷ 2 ∷ []))
    ≡ Err (Offset 0)
offset_in_file_order = refl

-- the entry below the lowest one misses a deadline by the tick of the demand, and so does the highest of an overload
missed_by_tick_6 :
    (p : Plan) (relative : ℕ → ℕ) → (IsLowestSpeed p relative (record { demand = record { num = 14; den = 6 }; point = 1 }) → MissesAtWorst p relative 0 6)
    × (IsOverload p relative 6 14 12 → MissesAtWorst p relative (last_entry p.machine) 6)
missed_by_tick_6 p relative = (λ lowest. lowest.lower 0 (omega arith), λ over. over.misses)
