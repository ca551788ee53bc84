-- The plan if its scheduler's test passes, otherwise the denial.
use Rattle.std.specs.Prelude.{ℕ, ◌*◌, nat_lt, find, Option, Some, None, Result, Ok, Err, if◌then◌else◌}
use Rattle.dvs_base.specs.declared.kind.Scheduler.{Scheduler}
use Rattle.dvs_base.specs.declared.kind.Scheduler.TheVariants.{Rm, Edf}
use Rattle.sched_model.specs.Plan.{Plan, count, period, top_speed, hyper}
use Rattle.sched_model.specs.Priority.{in_order}
use Rattle.sched_model.specs.Tests.{level_work, total_rate}
use Rattle.rm_admit.specs.declared.RmFault.{RmFault}
use Rattle.rm_admit.specs.declared.RmFault.TheVariants as rm_fault
use Rattle.statuses.specs.declared.status.Denied.TheVariants as denied
use Rattle.statuses.specs.declared.status.Status.{Status}
use Rattle.statuses.specs.declared.status.Status.TheVariants as status

-- the first task in RM order whose level asks for more in its period than the highest speed does in it
abbrev pub first_overloaded : Plan → Option ℕ
first_overloaded p = find (λ i. nat_lt (top_speed p * period p i) (level_work p i)) (in_order (period p) (count p))

-- a refusal of the test under RM as a status
abbrev pub rm_status : RmFault → Status
rm_status (rm_fault.Denied i num cap) = status.NotAdmitted (denied.Rm i num cap)
rm_status rm_fault.NoMemory = status.NoMemory

-- an admission under RM: the plan, if no task is overloaded
abbrev pub admission_from : Plan → Option ℕ → Result Plan Status
admission_from p None = Ok p
admission_from p (Some i) = Err (status.NotAdmitted (denied.Rm i (level_work p i) (top_speed p * period p i)))

-- the plan, if the test of a scheduler passes
abbrev pub admission_by : Scheduler → Plan → Result Plan Status
admission_by Edf p =
    if nat_lt (top_speed p * hyper p) (total_rate p)
    then Err (status.NotAdmitted (denied.Edf (total_rate p) (top_speed p * hyper p)))
    else Ok p
admission_by Rm p = admission_from p (first_overloaded p)

-- the plan, if the test of its own scheduler passes
abbrev pub admission : Plan → Result Plan Status
admission p = admission_by p.scheduler p
