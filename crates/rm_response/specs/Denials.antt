-- What the answers of exact admission under RM say, and the first task in RM order that is late.
use Rattle.std.specs.Prelude.{ℕ, List, ◌<◌, slice_index, ◌*◌, ◌≡◌, false, ⊤, Option, Some, None, Result, Ok, Err, ◌≤◌, true, nat_lt}
use Rattle.grid_fraction.specs.Numbers.{list_below}
use Rattle.task_model.specs.Tasks.{NoneOffset, IsFirstOffset, first_offset}
use Rattle.sched_model.specs.Plan.{Plan, count, period, top_speed, offset}
use Rattle.governor.specs.Worst.{level_work_in}
use Rattle.rm_response_laws.specs.Responses.{response, IsFirstDoneAt, is_first_done}
use Rattle.rm_response.specs.declared.response.ResponseFault.{ResponseFault}
use Rattle.rm_response.specs.declared.response.ResponseFault.TheVariants.{Misses, Offset, NoMemory}
use Rattle.std.specs.List.{find}
use Rattle.sched_model.specs.Priority.{stands_before, in_order}

-- the responses of the tasks, in file order
abbrev pub responses : Plan → List ℕ
responses p = list_below (count p) (response p)

-- each response is the least tick at which the task's first job is complete when all jobs have their worst cases
abbrev pub AreLeast : Plan → List ℕ → Type 0
AreLeast p ticks = (i : ℕ) → i < count p → IsFirstDoneAt p i (slice_index ticks i)

-- the fault of task i without a response: what its level asks for in its period, and what the highest speed does in it
abbrev pub misses_at : Plan → ℕ → ResponseFault
misses_at p i = Misses i (level_work_in p (period p i) i) (top_speed p * period p i)

-- of the tasks below n, task i is the first in RM order whose response exceeds its period
pub record IsFirstLate (period response : ℕ → ℕ) (n i : ℕ) : Type 0 where
  pub task : i < n
  pub late : period i < response i
  pub first : (k : ℕ) → k < n → stands_before period k i ≡ true → response k ≤ period k

-- no task has an offset, and `task` is the first in RM order without a response;
-- its level asks for `num` units in its period, and the highest speed does `cap`
pub record IsFirstMiss (p : Plan) (task num cap : ℕ) : Type 0 where
  pub no_offset : NoneOffset (offset p) (count p)
  pub first : IsFirstLate (period p) (response p) (count p) task
  pub num_is : num ≡ level_work_in p (period p task) task
  pub cap_is : cap ≡ top_speed p * period p task

-- why there is no answer: `task` is the first in file order with an offset; or no task has one, and either `task` is
-- the first in RM order without a response, or memory ran out
abbrev pub IsResponseDenial : Plan → ResponseFault → Type 0
IsResponseDenial p (Offset task) = IsFirstOffset (offset p) (count p) task
IsResponseDenial p (Misses task num cap) = IsFirstMiss p task num cap
IsResponseDenial p NoMemory = NoneOffset (offset p) (count p)

-- the first job of a task without a response is not complete at its period when all jobs have their worst cases
abbrev pub IsMissedAtPeriod : Plan → ResponseFault → Type 0
IsMissedAtPeriod p (Offset task) = Unit {0}
IsMissedAtPeriod p (Misses task num cap) = is_first_done p task (period p task) ≡ false
IsMissedAtPeriod p NoMemory = Unit {0}

-- of a task without a response, the work asked for exceeds what the highest speed does
abbrev pub IsShownMiss : ResponseFault → Type 0
IsShownMiss (Misses task num cap) = cap < num
IsShownMiss e = ⊤

-- the answer of the test, from the first task with an offset and the first one without a response
abbrev pub exact_answer_from : Plan → Option ℕ → Option ℕ → Result (List ℕ) ResponseFault
exact_answer_from p (Some i) late = Err (Offset i)
exact_answer_from p None (Some i) = Err (misses_at p i)
exact_answer_from p None None = Ok (responses p)

-- of the tasks below n, the first in RM order whose response exceeds its period, if any
abbrev pub first_late : (ℕ → ℕ) → (ℕ → ℕ) → ℕ → Option ℕ
first_late period response n = find (λ i. nat_lt (period i) (response i)) (in_order period n)

-- The answer of the test: the first task in file order with an offset; if none has one, the first task in RM order
-- without a response; and if there is neither, the responses.
abbrev pub exact_answer : Plan → Result (List ℕ) ResponseFault
exact_answer p = exact_answer_from p (first_offset (offset p) (count p)) (first_late (period p) (response p) (count p))
