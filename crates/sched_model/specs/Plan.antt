-- A plan: the tasks, the machine and the scheduler (Liu and Layland 1973).
use Rattle.std.specs.Prelude.{List, ℕ, length, map, ◌+◌, ◌*◌, ◌/◌}
use Rattle.dvs_base.specs.declared.kind.Scheduler.{Scheduler}
use Rattle.task_model.specs.declared.task.Task.{Task}
use Rattle.task_model.specs.Tasks.{task_at, hyper_of}
use Rattle.freq_table.specs.declared.machine.Point.{Point}
use Rattle.freq_table.specs.Tables.{Table, point_at, highest_speed, job_charge}

-- tasks on a machine under a scheduler
pub record Plan : Type 0 where
  pub tasks : List Task
  pub machine : Table
  pub scheduler : Scheduler

-- the plan of some tasks, a machine and a scheduler
abbrev pub plan_of : List Task → Table → Scheduler → Plan
plan_of tasks machine scheduler = record { tasks = tasks; machine = machine; scheduler = scheduler }

-- the number of tasks; they are numbered from 0
abbrev pub count : Plan → ℕ
count p = length p.tasks

-- the task with number i
abbrev pub task : Plan → ℕ → Task
task p i = task_at p.tasks i

-- the tasks' names, in the order of their numbers
abbrev pub names : Plan → List (List ℕ)
names p = map (λ t. t.name) p.tasks

-- Pi, the ticks from one release of task i to its next
abbrev pub period : Plan → ℕ → ℕ
period p i = (task p i).period

-- Oi, the tick of the first release of task i
abbrev pub offset : Plan → ℕ → ℕ
offset p i = (task p i).offset

-- Ci, the declared worst case of task i with the charge for two switches of speed
abbrev pub worst : Plan → ℕ → ℕ
worst p i = (task p i).worst + job_charge p.machine

-- the entry of the machine with number e
abbrev pub point : Plan → ℕ → Point
point p e = point_at p.machine e

-- fm, the highest speed
abbrev pub top_speed : Plan → ℕ
top_speed p = highest_speed p.machine

-- H, the least common multiple of the periods
abbrev pub hyper : Plan → ℕ
hyper p = hyper_of p.tasks

-- ui, the work of task i in H ticks, when each of its jobs takes its worst case
abbrev pub rate : Plan → ℕ → ℕ
rate p i = worst p i * (hyper p / period p i)
