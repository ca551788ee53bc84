-- Answers of the exact test under RM, and what is no list of responses, by evaluation.
use Rattle.std.proofs.Common.{◌≡◌, ℕ, true≢false, sym, List, [], ◌∷◌, Ok, Err, codes, refl, arith}
use Rattle.dvs_base.specs.declared.kind.Scheduler.TheVariants.{Rm}
use Rattle.task_model.specs.declared.task.Task.{Task}
use Rattle.sched_model.specs.Demand.{published}
use Rattle.sched_model.specs.Jobs.{release, due, latest}
use Rattle.sched_model.specs.Priority.{in_order}
use Rattle.sched_model.specs.Schedule.{schedule_by}
use Rattle.sched_model.specs.Plan.{Plan, plan_of}
use Rattle.rm_response_laws.specs.Responses.{response}
use Rattle.rm_response.specs.declared.response.ResponseFault.TheVariants.{Offset, Misses}
use Rattle.rm_response.specs.Denials.{AreLeast, IsMissedAtPeriod, IsShownMiss, exact_answer}

-- tasks under RM on a machine with speed 1
abbrev at_speed_1 : List Task → Plan
at_speed_1 tasks =
    plan_of tasks (record { points = record { speed = 1; millivolts = 1000 } ∷ []; idle = 0; charge = 0 }) Rm

-- a task with this name, period, worst case and offset
abbrev task_of : List ℕ → ℕ → ℕ → ℕ → Task
task_of name period worst offset = record { name = name; period = period; worst = worst; offset = offset }

-- of two tasks with offsets the first in file order is named, whose period is the longer one
offset_in_file_order :
    exact_answer (at_speed_1 (task_of (codes "b") 6 1 1 ∷ task_of (codes "a") 4 1 1 ∷ [])) ≡ Err (Offset 0)
offset_in_file_order = refl

-- of two tasks without a response the first in RM order is named: it can be asked for 5 units in 4 ticks
miss_in_rm_order :
    exact_answer (at_speed_1 (task_of (codes "b") 6 7 0 ∷ task_of (codes "a") 4 5 0 ∷ [])) ≡ Err (Misses 1 5 4)
unfolding response in_order
miss_in_rm_order = refl

-- the responses are in file order
responses_in_file_order :
    exact_answer (at_speed_1 (task_of (codes "b") 5 2 0 ∷ task_of (codes "a") 4 2 0 ∷ [])) ≡ Ok (4 ∷ 2 ∷ [])
unfolding response in_order
responses_in_file_order = refl

-- two tasks with the responses 4 and 2
abbrev pair : Plan
pair = at_speed_1 (task_of (codes "b") 5 2 0 ∷ task_of (codes "a") 4 2 0 ∷ [])

-- by tick 4 the first job of b is complete, so 5 isn't the least tick
not_the_least : AreLeast pair (5 ∷ 2 ∷ []) → ⊥
unfolding schedule_by published release due latest
not_the_least least = true≢false ((least 0 (omega arith)).before 4 (omega arith))

-- after tick 1 the first job of a, the last task of the file, isn't complete
not_complete : AreLeast pair (4 ∷ 1 ∷ []) → ⊥
unfolding schedule_by published release due latest
not_complete least = true≢false (sym ((least 1 (omega arith)).done))

-- a first job that is complete at its period isn't missed there, and a miss asks for more than is done
not_missed : (IsMissedAtPeriod (at_speed_1 (task_of (codes "a") 4 4 0 ∷ [])) (Misses 0 4 4) → ⊥) × (IsShownMiss (Misses 0 4 4) → ⊥)
unfolding schedule_by published release due latest
not_missed = (λ missed. true≢false missed, λ shown. omega (arith, shown))
