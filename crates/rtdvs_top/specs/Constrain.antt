-- The answer of `constrain`, and what it proves (Baruah, Rosier and Howell 1990).
use Rattle.std.specs.Prelude.{ℕ, List, Result, Ok, [], ◌∷◌, codes, decimal, slice_index, ◌≡◌, ⊤}
use Rattle.dvs_base.specs.Checks.{◌>>=◌}
use Rattle.dvs_base.specs.Outside.{Files}
use Rattle.dvs_base.specs.Parts.{fraction_text}
use Rattle.dvs_base.specs.declared.kind.Scheduler.TheVariants.{Edf}
use Rattle.trace_text.specs.TraceLines.{line}
use Rattle.task_model.specs.declared.task.Task.{Task}
use Rattle.freq_table.specs.Tables.{Table, speed_at}
use Rattle.sched_model.specs.Plan.{plan_of, Plan, count, offset}
use Rattle.edf_demand.specs.Answers.{tested_answer, LooksAtDemand, IsLowestSpeed, IsOverload, IsTooLong}
use Rattle.deadline_list.specs.DeadlineFile.{deadline_file}
use Rattle.edf_demand.specs.declared.lowest_speed.Constrained.{Constrained}
use Rattle.edf_demand.specs.declared.lowest_speed.ConstrainFault.{ConstrainFault}
use Rattle.edf_demand.specs.declared.lowest_speed.ConstrainFault.TheVariants as constrain_fault
use Rattle.words.specs.Commands.{ConstrainView}
use Rattle.statuses.specs.declared.status.Denied.TheVariants as denied
use Rattle.statuses.specs.declared.status.FileKind.TheVariants as file
use Rattle.statuses.specs.declared.status.Status.{Status}
use Rattle.statuses.specs.declared.status.Status.TheVariants as status
use Rattle.task_model.specs.Tasks.{IsFirstOffset}
use Rattle.edf_demand_laws.specs.ProcessorDemand.{IsConstrainedDemand}
use Rattle.statuses.specs.declared.status.Denied.{Denied}
use Rattle.command_files.specs.Meanings.{bytes_at, machine_at, tasks_at}
use Rattle.statuses.specs.Refused.{or_status, deadline_status}

-- the relative deadlines that a named file gives these tasks
abbrev pub deadlines_at : List Task → List ℕ → Files → Result (List ℕ) Status
deadlines_at tasks name files = do
  bytes ← bytes_at file.Deadlines name files
  or_status deadline_status (deadline_file tasks bytes)

-- a refusal of the test of deadlines below the periods as a status
abbrev pub constrain_status : ConstrainFault → Status
constrain_status (constrain_fault.Offset task) = status.NotAdmitted (denied.Offset task)
constrain_status (constrain_fault.TooManyJobs jobs) = status.Limit jobs
constrain_status (constrain_fault.Denied at num cap) = status.NotAdmitted (denied.Demand at num cap)
constrain_status constrain_fault.NoMemory = status.NoMemory

-- the line of the answer: the constrained demand, and the lowest speed that meets it
abbrev pub constrained_text : Table → Constrained → List ℕ
constrained_text machine found =
    line
    (codes "constrained"
    ∷ fraction_text found.demand.num found.demand.den
    ∷ decimal (speed_at machine found.point)
    ∷ [])

-- the lowest speed for these tasks with these relative deadlines on a machine, with their demand, or the status
abbrev pub constrained_on : List Task → Table → List ℕ → Result Constrained Status
constrained_on tasks machine deadlines =
    or_status constrain_status (tested_answer (plan_of tasks machine Edf) (slice_index deadlines))

-- the answer of `constrain` for these tasks, this machine and these relative deadlines
unfoldable pub constrain_with : List Task → Table → List ℕ → Result (List ℕ) Status
constrain_with tasks machine deadlines = do
  found ← constrained_on tasks machine deadlines
  Ok (constrained_text machine found)

-- the answer of `constrain`, after its tasks were read
abbrev pub constrain_after_tasks : ConstrainView → List Task → Files → Result (List ℕ) Status
constrain_after_tasks r tasks files = do
  machine ← machine_at r.machine files
  deadlines ← deadlines_at tasks r.deadlines files
  constrain_with tasks machine deadlines

-- the answer of `constrain`
abbrev pub constrain_answer : ConstrainView → Files → Result (List ℕ) Status
constrain_answer r files = do
  tasks ← tasks_at r.tasks files
  constrain_after_tasks r tasks files

-- what holds of a plan and relative deadlines for which a speed was found
pub record KeepsDeadlines (p : Plan) (relative : ℕ → ℕ) : Type 0 where
  pub found : Constrained
  pub answer : tested_answer p relative ≡ Ok found
  pub tested : LooksAtDemand p
  -- the demand is the greatest work due per tick, at the first absolute deadline up to the hyperperiod where it is
  pub demand : IsConstrainedDemand p relative found.demand
  -- at the speed found every constrained schedule meets every deadline, for any demands of the jobs within their worst
  -- cases; at each lower speed the schedule of the worst cases misses one
  pub speed : IsLowestSpeed p relative found

-- The task is the first in file order with an offset. Or the work due within `at` ticks is the constrained demand, and
-- exceeds what the highest speed does in these ticks: there the schedule of the worst cases misses a deadline.
abbrev pub FailsToKeep : Plan → (ℕ → ℕ) → Denied → Type 0
FailsToKeep p relative (denied.Offset i) = IsFirstOffset (offset p) (count p) i
FailsToKeep p relative (denied.Demand at num cap) = IsOverload p relative at num cap
FailsToKeep p relative why = ⊥

-- Holds is true of the plan and the relative deadlines that the files mean
abbrev pub HoldsOfMeant : Files → ConstrainView → List Task → (Plan → (ℕ → ℕ) → Type 0) → Type 0
HoldsOfMeant files r tasks Holds =
    (machine : Table) × (machine_at r.machine files ≡ Ok machine)
    × (deadlines : List ℕ) × (deadlines_at tasks r.deadlines files ≡ Ok deadlines)
    × Holds (plan_of tasks machine Edf) (slice_index deadlines)

-- The test of `constrain` over these files, without a premise. A test that is done, that denies the tasks or
-- that has too many jobs is of the tasks, the machine and the relative deadlines that its files mean.
abbrev pub ProvesDeadlines : Files → ConstrainView → Status → Type 0
ProvesDeadlines files r status.Done =
    (tasks : List Task) × (tasks_at r.tasks files ≡ Ok tasks) × HoldsOfMeant files r tasks KeepsDeadlines
ProvesDeadlines files r (status.NotAdmitted why) =
    (tasks : List Task) × (tasks_at r.tasks files ≡ Ok tasks)
    × HoldsOfMeant files r tasks (λ p relative. FailsToKeep p relative why)
ProvesDeadlines files r (status.Limit jobs) =
    (tasks : List Task) × (tasks_at r.tasks files ≡ Ok tasks) × HoldsOfMeant files r tasks (λ p relative. IsTooLong p jobs)
ProvesDeadlines files r s = ⊤
