-- Tasks within the limits, and the first in file order with an offset.
use Rattle.std.specs.Prelude.{◌≡◌, ℕ, ◌<◌, ◌≢◌, Option, MatchOption, ◌==◌, not, List, map, nat_le, Some, None, if◌then◌else◌, [], slice_index_or, ◌≤◌, true, length}
use Rattle.std.specs.List.{find}
use Rattle.grid_fraction.specs.Numbers.{list_below}
use Rattle.dvs_base.specs.Text.{is_name}
use Rattle.grid_fraction.specs.Fraction.{least_common_multiple}
use Rattle.dvs_base.specs.declared.limits.TheConstants.{MOST_TASKS}
use Rattle.task_model.specs.declared.limits.TheConstants.{LONGEST_PERIOD, MOST_WORK, LATEST_OFFSET, LONGEST_HYPERPERIOD}
use Rattle.task_model.specs.declared.task.Task.{Task}

-- none of the tasks below n has an offset above 0
abbrev pub NoneOffset : (ℕ → ℕ) → ℕ → Type 0
NoneOffset offset n = (k : ℕ) → k < n → offset k ≡ 0

-- of the tasks below n, task i is the first with an offset above 0
pub record IsFirstOffset (offset : ℕ → ℕ) (n i : ℕ) : Type 0 where
  pub task : i < n
  pub later : offset i ≢ 0
  pub first : (k : ℕ) → k < i → offset k ≡ 0

-- the answer is the first task below n with an offset above 0, or None if no task has one
abbrev pub FindsOffset : (ℕ → ℕ) → ℕ → Option ℕ → Type 0
FindsOffset offset n found = MatchOption found (NoneOffset offset n) (IsFirstOffset offset n)

-- the first of the tasks below n with an offset above 0, if there is one
abbrev pub first_offset : (ℕ → ℕ) → ℕ → Option ℕ
first_offset offset n = find (λ i. not (offset i == 0)) (list_below n (λ i. i))

-- the hyperperiod, the least common multiple of the periods: the releases repeat after this many ticks
abbrev pub hyper_of : List Task → ℕ
hyper_of tasks = least_common_multiple (map (λ t. t.period) tasks)

-- the value if n is within the limit, otherwise None
abbrev pub where_within : {A : Type 0} → ℕ → ℕ → A → Option A
where_within most n value = if nat_le n most then Some value else None

-- the task that a list gives for a number past its end
abbrev pub no_task : Task
no_task = record { name = []; period = 1; worst = 0; offset = 0 }

-- a task of a list, by its number
abbrev pub task_at : List Task → ℕ → Task
task_at tasks i = slice_index_or tasks i no_task

-- the names of the tasks, if there is a set of them
abbrev pub names_of : Option (List Task) → List (List ℕ)
names_of None = []
names_of (Some tasks) = map (λ t. t.name) tasks

-- the limits of a task
pub record IsTask (t : Task) : Type 0 where
  pub name : is_name t.name ≡ true
  pub some_period : 1 ≤ t.period
  pub low_period : t.period ≤ LONGEST_PERIOD
  pub some_worst : 1 ≤ t.worst
  pub low_worst : t.worst ≤ MOST_WORK
  pub low_offset : t.offset ≤ LATEST_OFFSET

-- a set of tasks: 1 to MOST_TASKS, each within its limits, distinct names, and a hyperperiod within its limit
pub record IsTaskSet (tasks : List Task) : Type 0 where
  pub some : 1 ≤ length tasks
  pub few : length tasks ≤ MOST_TASKS
  pub each : (i : ℕ) → i < length tasks → IsTask (task_at tasks i)
  pub distinct : (i j : ℕ) → i < j → j < length tasks → (task_at tasks i).name ≡ (task_at tasks j).name → ⊥
  pub hyper : hyper_of tasks ≤ LONGEST_HYPERPERIOD
