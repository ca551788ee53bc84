-- The steps of a call for the deadlines of numbers: what refuses them, what is proved, and that the program answers alike.
use Rattle.std.proofs.Common.{◌≡◌, ◌≢◌, ℕ, List, Result, Ok, Err, refl, sym, ap, ◌∙◌, subst}
use Rattle.std.specs.Prelude.{slice_index}
use Rattle.dvs_base.specs.Checks.{and_then}
use Rattle.dvs_base.specs.Outside.{Files}
use Rattle.dvs_base.specs.declared.kind.Scheduler.TheVariants.{Edf}
use Rattle.task_model.specs.declared.task.Task.{Task}
use Rattle.freq_table.specs.Tables.{Table}
use Rattle.sched_model.specs.Plan.{plan_of}
use Rattle.deadline_list.specs.declared.fault.DeadlineFault.{DeadlineFault}
use Rattle.deadline_list.specs.declared.fault.DeadlineFault.TheVariants as deadline_fault
use Rattle.edf_demand.specs.declared.lowest_speed.Constrained.{Constrained}
use Rattle.words.specs.Commands.{ConstrainView, constrain}
use Rattle.statuses.specs.declared.status.Status.{Status}
use Rattle.statuses.specs.declared.status.Status.TheVariants as status
use Rattle.statuses.specs.Status.{code_of, IsOfFile}
use Rattle.statuses.specs.Steps.{EndsWith}
use Rattle.statuses.specs.Refused.{RefusesFile, or_status, deadline_status}
use Rattle.rtdvs_top.specs.Constrain.{constrained_on, constrained_text, constrain_with, deadlines_at}
use Rattle.rtdvs_top.specs.Prepared.{RefusesBy}
use Rattle.rtdvs_top.specs.Promises.{answer_of_command}
use Rattle.rtdvs_c.specs.declared.TheConstants.{NO_MEMORY}
use Rattle.rtdvs_c.specs.declared.number_types.Admission.{Admission}
use Rattle.rtdvs_c.specs.NumberReplies.{NumbersView, Describe, tasks_on, machine_on, sets_on, ends}
use Rattle.rtdvs_c.specs.DeadlineNumbers.{deadlines_on, lowest_on, lowest_answer, KeepsNumbers, ProvesKept, ProvesLowest}
use Rattle.rtdvs_c.proofs.NumberSteps.{sets}

-- the status of deadlines that are refused, unless memory ran out
pub deadlines_refused : (given : Result (List ℕ) DeadlineFault) (e : DeadlineFault) → (e ≢ deadline_fault.NoMemory → given ≡ Err e)
    → deadline_status e ≢ status.NoMemory → or_status deadline_status given ≡ Err (deadline_status e)
deadlines_refused given deadline_fault.NoMemory is other = absurd (other refl)
deadlines_refused given e is other = ap (or_status deadline_status) (is (λ q. cc))

-- a refusal of numbers proves nothing of them
pub of_file_proves : (n : NumbersView) (s : Status) → IsOfFile s → ProvesKept n s
of_file_proves n status.Done h = absurd h
of_file_proves n (status.NotAdmitted why) h = absurd h
of_file_proves n (status.Limit jobs) h = absurd h
of_file_proves n s h = tt

pub refused_proves : (n : NumbersView) (s : Status) → RefusesFile s → ProvesKept n s
refused_proves n status.Done h = absurd h
refused_proves n (status.NotAdmitted why) h = absurd h
refused_proves n (status.Limit jobs) h = absurd h
refused_proves n s h = tt

-- what the test of deadlines that denies the numbers proves of them
pub denial_proves : (n : NumbersView) (tasks : List Task) (machine : Table) (deadlines : List ℕ) (step : Result Constrained Status) (s : Status)
    → sets_on n ≡ Ok (tasks, machine) → deadlines_on n tasks ≡ Ok deadlines → EndsWith step s
    → RefusesBy (plan_of tasks machine Edf) (slice_index deadlines) s → ProvesKept n s
denial_proves n tasks machine deadlines step status.Done set given ended by = absurd ended
denial_proves n tasks machine deadlines step (status.NotAdmitted why) set given ended by = (tasks, machine, set, deadlines, given, by)
denial_proves n tasks machine deadlines step (status.Limit jobs) set given ended by = (tasks, machine, set, deadlines, given, by)
denial_proves n tasks machine deadlines step s set given ended by = tt

-- what the answer, or the status, of the numbers proves of them
pub answer_proves : (n : NumbersView) (a : Admission) → lowest_answer n ≡ Ok a → KeepsNumbers n → ProvesLowest n
answer_proves n a is keeps = subst (λ (r : Result Admission Status). ProvesKept n (ends r)) (sym is) keeps

pub status_proves : (n : NumbersView) (s : Status) → (s ≢ status.NoMemory → lowest_answer n ≡ Err s) → ProvesKept n s
    → code_of s ≢ NO_MEMORY → ProvesLowest n
status_proves n s is proves other =
    subst (λ (r : Result Admission Status). ProvesKept n (ends r)) (sym (is (λ e. other (ap code_of e)))) proves

-- a speed that was found, with its machine
abbrev beside : Table → Result Constrained Status → Result (Table × Constrained) Status
beside machine found = and_then found (λ c. Ok (machine, c))

-- for files of the numbers the program's answer is that of the numbers
pub constrains_as_files : (n : NumbersView) (r : ConstrainView) (files : Files) → Describe files r.tasks r.machine n
    → ((tasks : List Task) → tasks_on n ≡ Ok tasks → deadlines_at tasks r.deadlines files ≡ deadlines_on n tasks)
    → answer_of_command (constrain r) files ≡ and_then (lowest_on n) (λ x. Ok (constrained_text x.0 x.1))
unfolding constrain_with
constrains_as_files n r files d same = rw (d.tasks_are, d.machine_is) (go (tasks_on n) refl (machine_on n))
  where
    found : (machine : Table) (f : Result Constrained Status) → and_then f (λ c. Ok (constrained_text machine c))
        ≡ and_then (beside machine f) (λ x. Ok (constrained_text x.0 x.1))
    found machine (Ok c) = refl
    found machine (Err e) = refl

    given : (tasks : List Task) (machine : Table) (ds : Result (List ℕ) Status) → and_then ds (λ ds. constrain_with tasks machine ds)
        ≡ and_then (and_then ds (λ ds. beside machine (constrained_on tasks machine ds))) (λ x. Ok (constrained_text x.0 x.1))
    given tasks machine (Ok ds) = found machine (constrained_on tasks machine ds)
    given tasks machine (Err e) = refl

    go : (t : Result (List Task) Status) → tasks_on n ≡ t → (m : Result Table Status)
        → and_then t (λ tasks. and_then m (λ machine. and_then (deadlines_at tasks r.deadlines files) (λ ds. constrain_with tasks machine ds)))
        ≡ and_then
        (and_then (sets t m) (λ x. and_then (deadlines_on n x.0) (λ ds. beside x.1 (constrained_on x.0 x.1 ds))))
        (λ x. Ok (constrained_text x.0 x.1))
    go (Ok tasks) is (Ok machine) =
        ap (λ (ds : Result (List ℕ) Status). and_then ds (λ ds. constrain_with tasks machine ds)) (same tasks is)
        ∙ given tasks machine (deadlines_on n tasks)
    go (Ok tasks) is (Err e) = refl
    go (Err e) is m = refl
