-- What a call with numbers answers: wide numbers, refusals by their cause and place, and answers.
use Rattle.std.specs.Prelude.{ℕ, ◌+◌, ◌%◌, ◌/◌, ◌^◌, ◌==◌, replicate, Option, Some, None, if◌then◌else◌}
use Rattle.dvs_base.specs.declared.limits.TheConstants.{MOST_TASKS, MOST_JOBS}
use Rattle.dvs_base.specs.declared.kind.Scheduler.{Scheduler}
use Rattle.dvs_base.specs.declared.kind.Scheduler.TheVariants.{Edf, Rm}
use Rattle.task_model.specs.declared.fault.Field.{Field}
use Rattle.task_model.specs.declared.fault.Field.TheVariants as field
use Rattle.task_model.specs.declared.fault.TaskFault.{TaskFault}
use Rattle.task_model.specs.declared.fault.TaskFault.TheVariants as task_fault
use Rattle.deadline_list.specs.declared.fault.DeadlineFault.{DeadlineFault}
use Rattle.deadline_list.specs.declared.fault.DeadlineFault.TheVariants as deadline_fault
use Rattle.freq_table.specs.declared.fault.MachineField.{MachineField}
use Rattle.freq_table.specs.declared.fault.MachineField.TheVariants as machine_field
use Rattle.freq_table.specs.declared.fault.MachineFault.{MachineFault}
use Rattle.freq_table.specs.declared.fault.MachineFault.TheVariants as machine_fault
use Rattle.freq_table.specs.Tables.{speed_at, lowest_entry}
use Rattle.sched_model.specs.Plan.{Plan}
use Rattle.sched_model.specs.StaticDemand.{static_demand}
use Rattle.statuses.specs.declared.status.Denied.{Denied}
use Rattle.statuses.specs.declared.status.Denied.TheVariants as denied
use Rattle.statuses.specs.declared.status.TextFault.{TextFault}
use Rattle.statuses.specs.declared.status.TextFault.TheVariants as text
use Rattle.statuses.specs.declared.status.Status.{Status}
use Rattle.statuses.specs.declared.status.Status.TheVariants as status
use Rattle.rtdvs_c.specs.declared.causes.TheConstants.{NO_CAUSE, NO_TASKS, TOO_MANY_TASKS, PERIOD, WORST_CASE, OFFSET, HYPERPERIOD, IDLE, CHARGE, NO_POINTS, TOO_MANY_POINTS, SPEED, MILLIVOLTS, NOT_RISING, EDF_TEST, RM_TEST, FIRST_RELEASE, NO_RESPONSE, DEMAND, UNITS, DEADLINE, JOBS, EDF, RM}
use Rattle.rtdvs_c.specs.declared.number_types.Wide.{Wide}
use Rattle.rtdvs_c.specs.declared.number_types.Refusal.{Refusal}
use Rattle.rtdvs_c.specs.declared.number_types.Admission.{Admission}
use Rattle.rtdvs_c.specs.declared.number_types.Responses.{Responses}

-- a number by its two halves
abbrev pub halves_of : ℕ → Wide
halves_of n = record { low = n % 2 ^ 64; high = n / 2 ^ 64 }

-- the refusal of a test: the work asked for, and the work that can be done, or the jobs and the most
abbrev pub short_by : ℕ → ℕ → ℕ → ℕ → Refusal
short_by cause place num cap = record { cause = cause; place = place; num = halves_of num; cap = halves_of cap }

-- the refusal of this cause and place, with no numbers of a test
abbrev pub refused_at : ℕ → ℕ → Refusal
refused_at cause place = short_by cause place 0 0

-- no refusal
abbrev pub no_refusal : Refusal
no_refusal = refused_at NO_CAUSE 0

-- the cause of a number of a task that is out of range
abbrev pub task_field_cause : Field → ℕ
task_field_cause field.Period = PERIOD
task_field_cause field.Worst = WORST_CASE
task_field_cause field.Offset = OFFSET
task_field_cause key = NO_CAUSE

-- the refusal of tasks
abbrev pub task_refusal : TaskFault → Refusal
task_refusal task_fault.NoTasks = refused_at NO_TASKS 0
task_refusal (task_fault.TooMany count) = refused_at TOO_MANY_TASKS 0
task_refusal (task_fault.Range place key) = refused_at (task_field_cause key) place
task_refusal task_fault.Hyper = refused_at HYPERPERIOD 0
task_refusal why = no_refusal

-- the cause of a number of a machine that is out of range
abbrev pub machine_field_cause : MachineField → ℕ
machine_field_cause machine_field.Idle = IDLE
machine_field_cause machine_field.Charge = CHARGE
machine_field_cause machine_field.Speed = SPEED
machine_field_cause machine_field.Millivolts = MILLIVOLTS
machine_field_cause key = NO_CAUSE

-- the refusal of a machine
abbrev pub machine_refusal : MachineFault → Refusal
machine_refusal machine_fault.NoPoints = refused_at NO_POINTS 0
machine_refusal (machine_fault.TooMany count) = refused_at TOO_MANY_POINTS 0
machine_refusal (machine_fault.Range place key) = refused_at (machine_field_cause key) place
machine_refusal (machine_fault.NotRising place) = refused_at NOT_RISING place
machine_refusal why = no_refusal

-- the refusal of deadlines; their rows have the numbers of their tasks
abbrev pub deadline_refusal : DeadlineFault → Refusal
deadline_refusal (deadline_fault.Range row) = refused_at DEADLINE row
deadline_refusal why = no_refusal

-- the refusal of tasks, of a machine or of deadlines
abbrev pub text_refusal : TextFault → Refusal
text_refusal (text.Tasks why) = task_refusal why
text_refusal (text.Machine why) = machine_refusal why
text_refusal (text.Deadlines why) = deadline_refusal why
text_refusal why = no_refusal

-- the refusal of a test; tasks count from 1, and in place of a task a demand has its ticks
abbrev pub denied_refusal : Denied → Refusal
denied_refusal (denied.Edf num cap) = short_by EDF_TEST 0 num cap
denied_refusal (denied.Rm i num cap) = short_by RM_TEST (i + 1) num cap
denied_refusal (denied.Offset i) = refused_at FIRST_RELEASE (i + 1)
denied_refusal (denied.Response i num cap) = short_by NO_RESPONSE (i + 1) num cap
denied_refusal (denied.Demand at num cap) = short_by DEMAND at num cap
denied_refusal (denied.Units num cap) = short_by UNITS 0 num cap

-- the refusal that a status is: of numbers that are refused, that a test denies, or of too many jobs; otherwise none
abbrev pub refusal_of : Status → Refusal
refusal_of (status.NotAdmitted why) = denied_refusal why
refusal_of (status.Text why) = text_refusal why
refusal_of (status.Limit jobs) = short_by JOBS 0 jobs MOST_JOBS
refusal_of s = no_refusal

-- the scheduler of a number, if it is one
abbrev pub scheduler_from : ℕ → Option Scheduler
scheduler_from n = if n == EDF then Some Edf else if n == RM then Some Rm else None

-- the answer of an admitted plan: its static demand, and the lowest speed that meets it
abbrev pub admitted_numbers : Plan → Admission
admitted_numbers p =
    let d = static_demand p in
    record { num = halves_of d.num; den = halves_of d.den; speed = speed_at p.machine (lowest_entry p.machine d); refusal = no_refusal }

-- the answer of an admission that is refused or denied
abbrev pub refused_admission : Refusal → Admission
refused_admission refusal = record { num = halves_of 0; den = halves_of 0; speed = 0; refusal = refusal }

-- the answer of an exact test that is refused or denied
abbrev pub refused_responses : Refusal → Responses
refused_responses refusal = record { ticks = replicate MOST_TASKS 0; refusal = refusal }
