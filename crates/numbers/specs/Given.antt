-- The tasks, their deadlines and the machine that numbers describe: the limits, the order of checks and the refusals are those of the files.
use Rattle.std.specs.Prelude.{ℕ, ◌+◌, ◌/◌, ◌%◌, ◌&&◌, List, [], ◌∷◌, ◌++◌, length, map, nat_lt, nat_le, Result, Ok, Err, if◌then◌else◌}
use Rattle.dvs_base.specs.Checks.{◌>>=◌}
use Rattle.dvs_base.specs.declared.limits.TheConstants.{MOST_TASKS}
use Rattle.task_model.specs.declared.limits.TheConstants.{LATEST_OFFSET, LONGEST_PERIOD, MOST_WORK}
use Rattle.task_model.specs.declared.task.Task.{Task}
use Rattle.task_model.specs.declared.fault.Field.{Field}
use Rattle.task_model.specs.declared.fault.Field.TheVariants as field
use Rattle.task_model.specs.declared.fault.TaskFault.{TaskFault}
use Rattle.task_model.specs.declared.fault.TaskFault.TheVariants as fault
use Rattle.task_model.specs.TaskFile.{within_hyper}
use Rattle.deadline_list.specs.declared.fault.DeadlineFault.{DeadlineFault}
use Rattle.deadline_list.specs.DeadlineTicks.{deadlines_of_ticks}
use Rattle.freq_table.specs.declared.limits.TheConstants.{MOST_POINTS, TOP_SPEED, MOST_MILLIVOLTS, MOST_IDLE, MOST_CHARGE}
use Rattle.freq_table.specs.declared.machine.Point.{Point}
use Rattle.freq_table.specs.declared.fault.MachineField.{MachineField}
use Rattle.freq_table.specs.declared.fault.MachineField.TheVariants as machine_field
use Rattle.freq_table.specs.declared.fault.MachineFault.{MachineFault}
use Rattle.freq_table.specs.declared.fault.MachineFault.TheVariants as machine_fault
use Rattle.freq_table.specs.Tables.{Table}
use Rattle.freq_table.specs.MachineFile.{may_follow, last_of}
use Rattle.numbers.specs.declared.given.GivenTask.{GivenTask}
use Rattle.numbers.specs.declared.given.GivenPoint.{GivenPoint}

-- the name of task i, counted from 0: two letters from `aa` to `hh`
abbrev pub given_name : ℕ → List ℕ
given_name i = (97 + i / 8) ∷ (97 + i % 8) ∷ []

-- a number of the task at this place, if it is within its limits
abbrev pub task_number : ℕ → Field → ℕ → ℕ → ℕ → Result ℕ TaskFault
task_number place key least most n = if nat_le least n && nat_le n most then Ok n else Err (fault.Range place key)

-- task i of its numbers, counted from 0: its period, worst case and offset, in this order
abbrev pub given_task : ℕ → GivenTask → Result Task TaskFault
given_task i given = do
  period ← task_number (i + 1) field.Period 1 LONGEST_PERIOD given.period
  worst ← task_number (i + 1) field.Worst 1 MOST_WORK given.worst_case
  offset ← task_number (i + 1) field.Offset 0 LATEST_OFFSET given.offset
  Ok record { name = given_name i; period = period; worst = worst; offset = offset }

-- the tasks before, with those of the numbers after them, or the first refusal
abbrev pub given_tasks_from : List Task → List GivenTask → Result (List Task) TaskFault
given_tasks_from tasks [] = Ok tasks
given_tasks_from tasks (given ∷ rest) = do
  task ← given_task (length tasks) given
  given_tasks_from (tasks ++ task ∷ []) rest

-- the tasks of these numbers: how many there are, then each task, and then their hyperperiod; or the first refusal
abbrev pub tasks_of_given : List GivenTask → Result (List Task) TaskFault
tasks_of_given [] = Err fault.NoTasks
tasks_of_given (given ∷ rest) =
    if nat_lt MOST_TASKS (length (given ∷ rest)) then Err (fault.TooMany (length (given ∷ rest)))
    else (given_tasks_from [] (given ∷ rest) >>= within_hyper)

-- the relative deadlines of these tasks by their numbers, in the same order, or the first refusal
abbrev pub deadlines_of_given : List Task → List GivenTask → Result (List ℕ) DeadlineFault
deadlines_of_given tasks given = deadlines_of_ticks tasks (map (λ g. g.deadline) given)

-- a number of the machine, or of the point at this place, if it is within its limits
abbrev pub machine_number : ℕ → MachineField → ℕ → ℕ → ℕ → Result ℕ MachineFault
machine_number place key least most n = if nat_le least n && nat_le n most then Ok n else Err (machine_fault.Range place key)

-- the point at this place of its numbers: its speed and its voltage, in this order
abbrev pub given_point : ℕ → GivenPoint → Result Point MachineFault
given_point place given = do
  speed ← machine_number place machine_field.Speed 1 TOP_SPEED given.speed
  millivolts ← machine_number place machine_field.Millivolts 1 MOST_MILLIVOLTS given.millivolts
  Ok record { speed = speed; millivolts = millivolts }

-- the points before, with those of the numbers after them, or the first refusal
abbrev pub given_points_from : List Point → List GivenPoint → Result (List Point) MachineFault
given_points_from points [] = Ok points
given_points_from points (given ∷ rest) = do
  x ← given_point (length points + 1) given
  if may_follow (last_of points) x
      then given_points_from (points ++ x ∷ []) rest
      else Err (machine_fault.NotRising (length points + 1))

-- the points of these numbers: how many there are, and then each point; or the first refusal
abbrev pub given_points : List GivenPoint → Result (List Point) MachineFault
given_points [] = Err machine_fault.NoPoints
given_points (given ∷ rest) =
    if nat_lt MOST_POINTS (length (given ∷ rest)) then Err (machine_fault.TooMany (length (given ∷ rest)))
    else given_points_from [] (given ∷ rest)

-- the machine of these numbers: its idle share, its charge, and then its points; or the first refusal
abbrev pub machine_of_given : ℕ → ℕ → List GivenPoint → Result Table MachineFault
machine_of_given idle charge given = do
  idle ← machine_number 0 machine_field.Idle 0 MOST_IDLE idle
  charge ← machine_number 0 machine_field.Charge 0 MOST_CHARGE charge
  points ← given_points given
  Ok record { points = points; idle = idle; charge = charge }
