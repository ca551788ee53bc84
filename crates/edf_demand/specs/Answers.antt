-- The answers of the test for deadlines up to the periods.
use Rattle.std.specs.Prelude.{◌≡◌, ⊤, ℕ, ◌*◌, ◌/◌, ◌<◌, ◌≤◌, nat_lt, List, length, Option, Some, None, Result, Ok, Err, if◌then◌else◌}
use Rattle.dvs_base.specs.declared.limits.TheConstants.{MOST_JOBS}
use Rattle.grid_fraction.specs.Numbers.{sum_below}
use Rattle.grid_fraction.specs.declared.Frac.{Frac}
use Rattle.freq_table.specs.declared.machine.Pick.{Pick}
use Rattle.freq_table.specs.Tables.{speed_at, last_entry, lowest_pick}
use Rattle.task_model.specs.declared.task.Task.{Task}
use Rattle.task_model.specs.Tasks.{hyper_of, task_at, NoneOffset, IsFirstOffset, first_offset}
use Rattle.sched_model.specs.Plan.{Plan, count, offset, top_speed}
use Rattle.edf_demand_laws.specs.ProcessorDemand.{IsConstrainedDemand, constrained_demand}
use Rattle.edf_demand_laws.specs.MetOrMissed.{MeetsAlways, MissesAtWorst}
use Rattle.edf_demand.specs.declared.lowest_speed.Constrained.{Constrained}
use Rattle.edf_demand.specs.declared.lowest_speed.ConstrainFault.{ConstrainFault}
use Rattle.edf_demand.specs.declared.lowest_speed.ConstrainFault.TheVariants.{Offset, TooManyJobs, Denied, NoMemory}

-- the number of jobs in a hyperperiod
abbrev pub hyper_jobs : List Task → ℕ
hyper_jobs tasks = sum_below (length tasks) (λ i. hyper_of tasks / (task_at tasks i).period)

-- the test looks at the demand: no task has an offset, and a hyperperiod has at most `MOST_JOBS` jobs
pub record LooksAtDemand (p : Plan) : Type 0 where
  pub no_offset : NoneOffset (offset p) (count p)
  pub few : hyper_jobs p.tasks ≤ MOST_JOBS

-- no task has an offset, and a hyperperiod has `jobs` jobs, more than `MOST_JOBS`
pub record IsTooLong (p : Plan) (jobs : ℕ) : Type 0 where
  pub no_offset : NoneOffset (offset p) (count p)
  pub jobs_are : jobs ≡ hyper_jobs p.tasks
  pub many : MOST_JOBS < jobs

-- the entry's speed meets every deadline, and each lower entry misses some at worst
pub record IsLowestSpeed (p : Plan) (relative : ℕ → ℕ) (c : Constrained) : Type 0 where
  pub meets : MeetsAlways p relative (speed_at p.machine c.point)
  pub lower : (e : ℕ) → e < c.point → MissesAtWorst p relative e c.demand.den

-- the highest speed doesn't do the demand of `num` units by the tick `at`, and misses a deadline by then at worst
pub record IsOverload (p : Plan) (relative : ℕ → ℕ) (at num cap : ℕ) : Type 0 where
  pub tested : LooksAtDemand p
  pub demand : IsConstrainedDemand p relative (record { num = num; den = at })
  pub cap_is : cap ≡ top_speed p * at
  pub over : cap < num
  pub misses : MissesAtWorst p relative (last_entry p.machine) at

-- the cause of each denial
abbrev pub IsConstrainDenial : Plan → (ℕ → ℕ) → ConstrainFault → Type 0
IsConstrainDenial p relative (Offset task) = IsFirstOffset (offset p) (count p) task
IsConstrainDenial p relative (TooManyJobs jobs) = IsTooLong p jobs
IsConstrainDenial p relative (Denied at num cap) = IsOverload p relative at num cap
IsConstrainDenial p relative NoMemory = LooksAtDemand p

-- the numbers of a denial show its cause
abbrev pub ShowsCause : ConstrainFault → Type 0
ShowsCause (TooManyJobs jobs) = MOST_JOBS < jobs
ShowsCause (Denied at num cap) = cap < num
ShowsCause e = ⊤

-- the demand with the entry picked, if this meets the demand, and otherwise the denial
abbrev pub pick_answer : Plan → Frac → Pick → Result Constrained ConstrainFault
pick_answer p demand pick =
    if pick.met
    then Ok (record { demand = demand; point = pick.index })
    else Err (Denied demand.den demand.num (top_speed p * demand.den))

-- the constrained demand with the lowest entry that meets it, or the denial if none does
abbrev pub demand_answer : Plan → Frac → Result Constrained ConstrainFault
demand_answer p demand = pick_answer p demand (lowest_pick p.machine demand)

-- the answer of the test, from the first task with an offset, if any
abbrev pub tested_answer_from : Plan → (ℕ → ℕ) → Option ℕ → Result Constrained ConstrainFault
tested_answer_from p relative (Some i) = Err (Offset i)
tested_answer_from p relative None =
    if nat_lt MOST_JOBS (hyper_jobs p.tasks)
    then Err (TooManyJobs (hyper_jobs p.tasks))
    else demand_answer p (constrained_demand p relative)

-- The answer of the test: the first task in file order with an offset; if none has one, that a hyperperiod has too
-- many jobs; and otherwise the constrained demand with the lowest entry that meets it, or that none does.
abbrev pub tested_answer : Plan → (ℕ → ℕ) → Result Constrained ConstrainFault
tested_answer p relative = tested_answer_from p relative (first_offset (offset p) (count p))
