-- The steps of a call with numbers: what refuses them, what a test answers, and that the program answers alike.
use Rattle.std.proofs.Common.{◌≡◌, ◌≢◌, inl, inr, ℕ, List, Result, Ok, Err, refl, sym, ap, ◌∙◌, subst, arith}
use Rattle.dvs_base.specs.Checks.{and_then, IsUnlessMemory}
use Rattle.dvs_base.specs.Outside.{Files}
use Rattle.dvs_base.specs.declared.kind.Scheduler.{Scheduler}
use Rattle.dvs_base.specs.declared.kind.Scheduler.TheVariants.{Rm}
use Rattle.task_model.specs.declared.task.Task.{Task}
use Rattle.task_model.specs.declared.fault.TaskFault.{TaskFault}
use Rattle.task_model.specs.declared.fault.TaskFault.TheVariants as task_fault
use Rattle.freq_table.specs.Tables.{Table}
use Rattle.freq_table.specs.declared.fault.MachineFault.{MachineFault}
use Rattle.freq_table.specs.declared.fault.MachineFault.TheVariants as machine_fault
use Rattle.numbers.specs.Given.{tasks_of_given, machine_of_given}
use Rattle.sched_model.specs.Plan.{Plan, plan_of}
use Rattle.rm_response.specs.Denials.{exact_answer}
use Rattle.rm_response.specs.declared.response.ResponseFault.{ResponseFault}
use Rattle.rm_response.specs.declared.response.ResponseFault.TheVariants as response_fault
use Rattle.energy_bound.specs.declared.least.Least.{Least}
use Rattle.energy_bound.specs.declared.least.Over.{Over}
use Rattle.energy_bound.specs.FirstPairs.{least_energy_of}
use Rattle.words.specs.Commands.{AdmitView, ResponseView, LeastView, admit, response, least}
use Rattle.statuses.specs.declared.status.Denied.{Denied}
use Rattle.statuses.specs.declared.status.Status.{Status}
use Rattle.statuses.specs.declared.status.Status.TheVariants as status
use Rattle.statuses.specs.Status.{code_of}
use Rattle.statuses.specs.Steps.{IsTestStep}
use Rattle.statuses.specs.Refused.{or_status, task_status, machine_status}
use Rattle.command_files.specs.Meanings.{machine_at}
use Rattle.command_files.specs.Admissions.{admission}
use Rattle.rtdvs_top.specs.Admit.{admitted_text}
use Rattle.rtdvs_top.specs.Response.{responses_on, responses_text, response_status}
use Rattle.rtdvs_top.specs.Least.{least_text, least_from, least_on}
use Rattle.sched_model.specs.Admission.{PassesTest}
use Rattle.rtdvs_top.specs.Promises.{answer_of_command, AdmitsOrDenies}
use Rattle.rtdvs_top.proofs.DeniedPlans.{Decides, decides, denied-plan}
use Rattle.rtdvs_c.specs.declared.number_types.Work.{Work}
use Rattle.rtdvs_c.specs.LeastNumbers.{over_status, least_by, least_of_numbers}
use Rattle.rtdvs_c.specs.NumberReplies.{NumbersView, tasks_on, machine_on, sets_on, plan_on, admission_on, padded, ticks_on, ends, Describe, FailsOn}

-- the status of tasks or of a machine that are refused, unless memory ran out
pub tasks_refused : (given : Result (List Task) TaskFault) (e : TaskFault) → (e ≢ task_fault.NoMemory → given ≡ Err e)
    → task_status e ≢ status.NoMemory → or_status task_status given ≡ Err (task_status e)
tasks_refused given task_fault.NoMemory is other = absurd (other refl)
tasks_refused given e is other = ap (or_status task_status) (is (λ q. cc))

pub machine_refused : (given : Result Table MachineFault) (e : MachineFault) → (e ≢ machine_fault.NoMemory → given ≡ Err e)
    → machine_status e ≢ status.NoMemory → or_status machine_status given ≡ Err (machine_status e)
machine_refused given machine_fault.NoMemory is other = absurd (other refl)
machine_refused given e is other = ap (or_status machine_status) (is (λ q. cc))

-- a test gives its value or its refusal, unless memory ran out
pub unless_memory : {T A : Type 0} (step : Result A Status) (r : Result T Status) (see : T → A)
    → IsTestStep step r see → IsUnlessMemory status.NoMemory see r step
unless_memory step (Ok v) see h = h.gives
unless_memory step (Err status.Done) see h = absurd h.refused
unless_memory step (Err (status.Words why)) see h = absurd h.refused
unless_memory step (Err status.Write) see h = absurd h.refused
unless_memory step (Err status.NoMemory) see h = λ other. absurd (other refl)
unless_memory step (Err (status.Load kind)) see h = absurd h.loads
unless_memory step (Err s) see h = λ other. h.refused

-- the tasks and the machine, or the status that refuses them
abbrev pub sets : Result (List Task) Status → Result Table Status → Result (List Task × Table) Status
sets t m = and_then t (λ tasks. and_then m (λ machine. Ok (tasks, machine)))

-- a plan passes its scheduler's test, or is denied by the test's two numbers
-- the plan passes the test of its scheduler
abbrev Passes : Plan → Type 0
Passes p = PassesTest p.scheduler p

plan-decided : (p : Plan) → AdmitsOrDenies Passes (Ok p) (ends (admission p))
plan-decided p = go (decides p)
  where
    go : Decides p p.scheduler (admission p) → AdmitsOrDenies Passes (Ok p) (ends (admission p))
    go (inl same) = subst (λ (r : Result Plan Status). AdmitsOrDenies Passes (Ok p) (ends r)) (sym same.0) (p, refl, same.1)
    go (inr denial) =
        subst (λ (r : Result Plan Status). AdmitsOrDenies Passes (Ok p) (ends r)) (sym denial.1) (p, refl, denied-plan p denial.0 denial.1)

-- numbers that are refused are neither admitted nor denied
tasks-decided : (e : TaskFault) (plan : Result Plan Status) → AdmitsOrDenies Passes plan (task_status e)
tasks-decided task_fault.NoMemory plan = tt
tasks-decided e plan = tt

machine-decided : (e : MachineFault) (plan : Result Plan Status) → AdmitsOrDenies Passes plan (machine_status e)
machine-decided machine_fault.NoMemory plan = tt
machine-decided e plan = tt

pub admits_numbers : (n : NumbersView) (s : Scheduler) → AdmitsOrDenies Passes (plan_on s n) (ends (admission_on s n))
admits_numbers n s = go (tasks_of_given n.tasks) (machine_of_given n.settings.idle n.settings.charge n.points)
  where
    go : (ts : Result (List Task) TaskFault) (m : Result Table MachineFault)
        → AdmitsOrDenies Passes
        (and_then (sets (or_status task_status ts) (or_status machine_status m))
        (λ x. Ok (plan_of x.0 x.1 s)))
        (ends (and_then (sets (or_status task_status ts) (or_status machine_status m))
        (λ x. admission (plan_of x.0 x.1 s))))
    go (Ok tasks) (Ok machine) = plan-decided (plan_of tasks machine s)
    go (Ok tasks) (Err e) = machine-decided e _
    go (Err e) m = tasks-decided e _

-- for files of the numbers the program's answers are those of the numbers
pub admits_as_files : (n : NumbersView) (a : AdmitView) (files : Files) → Describe files a.tasks a.machine n
    → answer_of_command (admit a) files ≡ and_then (admission_on a.scheduler n) (λ p. Ok (admitted_text p))
admits_as_files n a files d = rw (d.tasks_are, d.machine_is) (go (tasks_on n) (machine_on n))
  where
    go : (t : Result (List Task) Status) (m : Result Table Status)
        → and_then t (λ tasks. and_then (and_then m (λ machine. admission (plan_of tasks machine a.scheduler))) (λ p. Ok (admitted_text p)))
        ≡ and_then (and_then (sets t m) (λ x. admission (plan_of x.0 x.1 a.scheduler)))
        (λ p. Ok (admitted_text p))
    go (Ok tasks) (Ok machine) = refl
    go (Ok tasks) (Err e) = refl
    go (Err e) m = refl

pub responds_as_files : (n : NumbersView) (r : ResponseView) (files : Files) → Describe files r.tasks r.machine n
    → answer_of_command (response r) files
    ≡ and_then (sets_on n) (λ x. and_then (responses_on x.0 x.1) (λ ticks. Ok (responses_text x.0 ticks)))
responds_as_files n r files d = rw (d.tasks_are, d.machine_is) (go (tasks_on n) (machine_on n))
  where
    go : (t : Result (List Task) Status) (m : Result Table Status)
        → and_then t (λ tasks. and_then (and_then m (λ machine. responses_on tasks machine)) (λ ticks. Ok (responses_text tasks ticks)))
        ≡ and_then (sets t m)
        (λ x. and_then (responses_on x.0 x.1) (λ ticks. Ok (responses_text x.0 ticks)))
    go (Ok tasks) (Ok machine) = refl
    go (Ok tasks) (Err e) = refl
    go (Err e) m = refl

-- a refusal is not the status of an answer
tasks-undone : (e : TaskFault) → task_status e ≢ status.Done
tasks-undone task_fault.NoMemory = λ q. cc
tasks-undone e = λ q. cc

machine-undone : (e : MachineFault) → machine_status e ≢ status.Done
machine-undone machine_fault.NoMemory = λ q. cc
machine-undone e = λ q. cc

pub ticks_undone : (n : NumbersView) → ticks_on n ≡ Err status.Done → ⊥
ticks_undone n = go (tasks_of_given n.tasks) (machine_of_given n.settings.idle n.settings.charge n.points)
  where
    test : (r : Result (List ℕ) ResponseFault) → and_then (or_status response_status r) (λ ticks. Ok (padded ticks)) ≡ Err status.Done → ⊥
    test (Ok ticks) q = cc
    test (Err (response_fault.Offset i)) q = cc
    test (Err (response_fault.Misses i num work)) q = cc
    test (Err response_fault.NoMemory) q = cc

    go : (ts : Result (List Task) TaskFault) (m : Result Table MachineFault)
        → and_then (sets (or_status task_status ts) (or_status machine_status m))
        (λ x. and_then (responses_on x.0 x.1) (λ ticks. Ok (padded ticks))) ≡ Err status.Done → ⊥
    go (Ok tasks) (Ok machine) = test (exact_answer (plan_of tasks machine Rm))
    go (Ok tasks) (Err e) = λ q. let same : machine_status e ≡ status.Done = cc in machine-undone e same
    go (Err e) m = λ q. let same : task_status e ≡ status.Done = cc in tasks-undone e same

-- of a test that ended with exit status 1, the denial
pub denied_of : (n : NumbersView) (s : Status) → (s ≢ status.NoMemory → ticks_on n ≡ Err s)
    → ((why : Denied) → s ≡ status.NotAdmitted why → FailsOn n why) → code_of s ≡ 1
    → (why : Denied) × (ticks_on n ≡ Err (status.NotAdmitted why)) × FailsOn n why
denied_of n (status.NotAdmitted why) is fails one = (why, is (λ q. cc), fails why refl)
denied_of n status.Done is fails one = absurd (omega (arith, one))
denied_of n (status.Words why) is fails one = absurd (omega (arith, one))
denied_of n (status.Load kind) is fails one = absurd (omega (arith, one))
denied_of n (status.Text why) is fails one = absurd (omega (arith, one))
denied_of n (status.Limit jobs) is fails one = absurd (omega (arith, one))
denied_of n (status.OverWorst task job units worst) is fails one = absurd (omega (arith, one))
denied_of n (status.Differs line wanted found) is fails one = absurd (omega (arith, one))
denied_of n status.Write is fails one = absurd (omega (arith, one))
denied_of n status.NoMemory is fails one = absurd (omega (arith, one))

-- only an answer has exit status 0
zero-is-done : (s : Status) → code_of s ≡ 0 → s ≡ status.Done
zero-is-done status.Done zero = refl
zero-is-done (status.NotAdmitted why) zero = absurd (omega (arith, zero))
zero-is-done (status.Words why) zero = absurd (omega (arith, zero))
zero-is-done (status.Load kind) zero = absurd (omega (arith, zero))
zero-is-done (status.Text why) zero = absurd (omega (arith, zero))
zero-is-done (status.Limit jobs) zero = absurd (omega (arith, zero))
zero-is-done (status.OverWorst task job units worst) zero = absurd (omega (arith, zero))
zero-is-done (status.Differs line wanted found) zero = absurd (omega (arith, zero))
zero-is-done status.Write zero = absurd (omega (arith, zero))
zero-is-done status.NoMemory zero = absurd (omega (arith, zero))

-- a step that never ends with the status of an answer has no exit status 0
never-done : {A : Type 0} (step : Result A Status) (s : Status) → (step ≡ Err status.Done → ⊥)
    → (s ≢ status.NoMemory → step ≡ Err s) → code_of s ≡ 0 → ⊥
never-done {A} step s undone is zero =
    let done : s ≡ status.Done = zero-is-done s zero in
    undone (subst (λ (t : Status). step ≡ Err t) done (is (λ q. let both : status.Done ≡ status.NoMemory = sym done ∙ q in absurd (cc))))

pub done_of : (n : NumbersView) (s : Status) → (s ≢ status.NoMemory → ticks_on n ≡ Err s) → code_of s ≡ 0 → ⊥
done_of n s is zero = never-done (ticks_on n) s (ticks_undone n) is zero

-- an admission is not refused with the status of an answer
admission-undone : (n : NumbersView) (s : Scheduler) → admission_on s n ≡ Err status.Done → ⊥
admission-undone n s = go (tasks_of_given n.tasks) (machine_of_given n.settings.idle n.settings.charge n.points)
  where
    test : (p : Plan) → Decides p p.scheduler (admission p) → admission p ≡ Err status.Done → ⊥
    test p (inl same) q = let both : Ok p ≡ Err status.Done = sym same.0 ∙ q in absurd (cc)
    test p (inr denial) q = let both : Err (status.NotAdmitted denial.0) ≡ Err status.Done = sym denial.1 ∙ q in absurd (cc)

    go : (ts : Result (List Task) TaskFault) (m : Result Table MachineFault)
        → and_then (sets (or_status task_status ts) (or_status machine_status m)) (λ x. admission (plan_of x.0 x.1 s)) ≡ Err status.Done → ⊥
    go (Ok tasks) (Ok machine) = test (plan_of tasks machine s) (decides (plan_of tasks machine s))
    go (Ok tasks) (Err e) = λ q. let same : machine_status e ≡ status.Done = cc in machine-undone e same
    go (Err e) m = λ q. let same : task_status e ≡ status.Done = cc in tasks-undone e same

pub admitted_done_of : (n : NumbersView) (s : Scheduler) (e : Status) → (e ≢ status.NoMemory → admission_on s n ≡ Err e) → code_of e ≡ 0 → ⊥
admitted_done_of n s e is zero = never-done (admission_on s n) e (admission-undone n s) is zero

-- the same of the least energy
least-undone : (n : NumbersView) (w : Work) → least_of_numbers n w ≡ Err status.Done → ⊥
least-undone n w = go (machine_of_given n.settings.idle n.settings.charge n.points)
  where
    test : (r : Result Least Over) → or_status over_status r ≡ Err status.Done → ⊥
    test (Ok a) q = absurd (cc)
    test (Err e) q = absurd (cc)

    go : (m : Result Table MachineFault) → and_then (or_status machine_status m) (λ m. least_by m w) ≡ Err status.Done → ⊥
    go (Ok m) = test (least_energy_of m w.units w.ticks)
    go (Err e) = λ q. let same : machine_status e ≡ status.Done = cc in machine-undone e same

pub least_done_of : (n : NumbersView) (w : Work) (s : Status) → (s ≢ status.NoMemory → least_of_numbers n w ≡ Err s) → code_of s ≡ 0 → ⊥
least_done_of n w s is zero = never-done (least_of_numbers n w) s (least-undone n w) is zero

pub least_as_files : (n : NumbersView) (w : Work) (l : LeastView) (files : Files) → machine_at l.machine files ≡ machine_on n
    → l.units ≡ w.units → l.ticks ≡ w.ticks
    → answer_of_command (least l) files ≡ and_then (least_of_numbers n w) (λ a. Ok (least_text a))
unfolding least_on
least_as_files n w l files machine units ticks = rw (machine, units, ticks) (go (machine_on n))
  where
    text : (r : Result Least Over) → least_from r ≡ and_then (or_status over_status r) (λ a. Ok (least_text a))
    text (Ok a) = refl
    text (Err e) = refl

    go : (m : Result Table Status) → and_then m (λ m. least_from (least_energy_of m w.units w.ticks))
        ≡ and_then (and_then m (λ m. least_by m w)) (λ a. Ok (least_text a))
    go (Ok m) = text (least_energy_of m w.units w.ticks)
    go (Err s) = refl
