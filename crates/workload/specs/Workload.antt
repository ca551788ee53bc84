-- Generated workloads: tasks, a machine and demands from a seed.
use Rattle.std.specs.Prelude.{◌≡◌, ℕ, ◌+◌, ◌*◌, ◌/◌, ◌%◌, List, [], ◌∷◌, ◌++◌, length, map, slice_index, codes}
use Rattle.std.specs.Fmt.{decimal}
use Rattle.grid_fraction.specs.Numbers.{list_below}
use Rattle.task_model.specs.declared.task.Task.{Task}
use Rattle.task_model.specs.Tasks.{task_at}
use Rattle.task_model.specs.DemandRows.{DemandRow}
use Rattle.freq_table.specs.declared.machine.Point.{Point}
use Rattle.freq_table.specs.Tables.{Table}
use Rattle.demand_list.specs.Demands.{DemandsView}
use Rattle.workload.specs.Draws.{first_state, state_after, draw}

-- the periods, in ticks
abbrev pub periods : List ℕ
periods = 20 ∷ 25 ∷ 40 ∷ 50 ∷ 100 ∷ 125 ∷ 200 ∷ 250 ∷ []

-- a task's share if there are n tasks: the n-th part of what the highest speed does in its period
abbrev pub share_of : ℕ → ℕ → ℕ
share_of n period = 1000 * period / n

-- the name of task i: `w1` for task 0, `w2` for task 1
abbrev pub made_name : ℕ → List ℕ
made_name i = codes "w" ++ decimal (i + 1)

-- task i of n, by two draws: its period is one of the eight, and its worst case is within its share
abbrev pub task_by : ℕ → ℕ → ℕ → ℕ → Task
task_by n i first second =
    let period = slice_index periods (first % 8) in
    record { name = made_name i; period = period; worst = 1 + second % share_of n period; offset = 0 }

-- task i of n, by draws 2 i and 2 i + 1 from state x
abbrev pub made_task : ℕ → ℕ → ℕ → Task
made_task x n i = task_by n i (draw x (2 * i)) (draw x (2 * i + 1))

-- the n tasks drawn from state x
abbrev pub made_tasks : ℕ → ℕ → List Task
made_tasks x n = list_below n (made_task x n)

-- row r: the units of job r % 4 + 1 of task r / 4, by draw r from state x, at most the task's worst case
abbrev pub made_row : List Task → ℕ → ℕ → DemandRow
made_row tasks x r =
    let i = r / 4 in record { task = i; job = r % 4 + 1; units = draw x r % ((task_at tasks i).worst + 1) }

-- the demand list drawn from state x: the worst cases, and four rows for each task
abbrev pub made_demands : List Task → ℕ → DemandsView
made_demands tasks x = record {
  worsts = map (λ t. t.worst) tasks;
  rows = list_below (4 * length tasks) (made_row tasks x);
}

-- the machine: four speeds, an idle unit at a tenth of a running one, and no charge
abbrev pub made_machine : Table
made_machine = record {
  points = at 250 2000 ∷ at 500 3000 ∷ at 750 4000 ∷ at 1000 5000 ∷ [];
  idle = 100;
  charge = 0;
}
  where
    at : ℕ → ℕ → Point
    at speed millivolts = record { speed = speed; millivolts = millivolts }

-- the workload of a seed: the tasks by the first draws, the demands by those after them, and the machine
pub record IsMade (seed n : ℕ) (tasks : List Task) (machine : Table) (demands : DemandsView) : Type 0 where
  pub tasks_are : tasks ≡ made_tasks (first_state seed) n
  pub machine_is : machine ≡ made_machine
  pub demands_are : demands ≡ made_demands tasks (state_after (first_state seed) (2 * n))
