-- The lowest speed for the deadlines of numbers: the answer, what it proves, and that the program answers alike for files
-- of them.
use Rattle.std.specs.Prelude.{◌≡◌, ⊤, ℕ, List, slice_index, Result, Ok, Err}
use Rattle.dvs_base.specs.Checks.{◌>>=◌}
use Rattle.dvs_base.specs.Outside.{Files}
use Rattle.dvs_base.specs.declared.kind.Scheduler.TheVariants.{Edf}
use Rattle.task_model.specs.declared.task.Task.{Task}
use Rattle.freq_table.specs.Tables.{Table, speed_at}
use Rattle.sched_model.specs.Plan.{Plan, plan_of}
use Rattle.edf_demand.specs.Answers.{IsTooLong}
use Rattle.edf_demand.specs.declared.lowest_speed.Constrained.{Constrained}
use Rattle.numbers.specs.Given.{deadlines_of_given}
use Rattle.words.specs.Commands.{ConstrainView, constrain}
use Rattle.statuses.specs.declared.status.Status.{Status}
use Rattle.statuses.specs.declared.status.Status.TheVariants as status
use Rattle.statuses.specs.Status.{code_of}
use Rattle.statuses.specs.Refused.{or_status, deadline_status}
use Rattle.rtdvs_top.specs.Constrain.{constrained_on, constrained_text, deadlines_at, KeepsDeadlines, FailsToKeep}
use Rattle.rtdvs_top.specs.Promises.{answer_of_command}
use Rattle.rtdvs_c.specs.declared.number_types.Admission.{Admission}
use Rattle.rtdvs_c.specs.Numbers.{halves_of, no_refusal, refusal_of, refused_admission}
use Rattle.rtdvs_c.specs.NumberReplies.{NumbersView, AdmissionReply, Describe, tasks_on, sets_on, ends}

-- the answer of a speed that was found: the constrained demand, and the lowest speed that meets it
abbrev pub constrained_numbers : Table → Constrained → Admission
constrained_numbers m found = record {
  num = halves_of found.demand.num;
  den = halves_of found.demand.den;
  speed = speed_at m found.point;
  refusal = no_refusal;
}

-- the relative deadlines that the numbers give these tasks, or the status that refuses them
abbrev pub deadlines_on : NumbersView → List Task → Result (List ℕ) Status
deadlines_on n tasks = or_status deadline_status (deadlines_of_given tasks n.tasks)

-- the machine of the numbers and the lowest speed on it for their tasks and deadlines, or the status
abbrev pub lowest_on : NumbersView → Result (Table × Constrained) Status
lowest_on n = do
  x ← sets_on n
  deadlines ← deadlines_on n x.0
  found ← constrained_on x.0 x.1 deadlines
  Ok (x.1, found)

-- the answer of the numbers, or the status that refuses or denies them
abbrev pub lowest_answer : NumbersView → Result Admission Status
lowest_answer n = lowest_on n >>= (λ x. Ok (constrained_numbers x.0 x.1))

-- the reply of an answer, or of the status that refuses or denies the numbers
abbrev pub constrain_reply_of : Result Admission Status → AdmissionReply
constrain_reply_of (Ok a) = record { code = 0; answer = a }
constrain_reply_of (Err s) = record { code = code_of s; answer = refused_admission (refusal_of s) }

-- what a call for the deadlines of the numbers replies
abbrev pub constrain_reply : NumbersView → AdmissionReply
constrain_reply n = constrain_reply_of (lowest_answer n)

-- this holds of the plan of the numbers under EDF and of their relative deadlines
abbrev pub HoldsOfNumbers : NumbersView → (Plan → (ℕ → ℕ) → Type 0) → Type 0
HoldsOfNumbers n Holds =
    (tasks : List Task) × (machine : Table) × (sets_on n ≡ Ok (tasks, machine))
    × (deadlines : List ℕ) × (deadlines_on n tasks ≡ Ok deadlines)
    × Holds (plan_of tasks machine Edf) (slice_index deadlines)

-- the speed that is found for the numbers meets every deadline, and no lower one does
abbrev pub KeepsNumbers : NumbersView → Type 0
KeepsNumbers n = HoldsOfNumbers n KeepsDeadlines

-- what a status proves of the numbers: a speed that was found, a denial, or too many jobs
abbrev pub ProvesKept : NumbersView → Status → Type 0
ProvesKept n status.Done = KeepsNumbers n
ProvesKept n (status.NotAdmitted why) = HoldsOfNumbers n (λ p relative. FailsToKeep p relative why)
ProvesKept n (status.Limit jobs) = HoldsOfNumbers n (λ p relative. IsTooLong p jobs)
ProvesKept n s = ⊤

-- what the numbers' own status proves of them
abbrev pub ProvesLowest : NumbersView → Type 0
ProvesLowest n = ProvesKept n (ends (lowest_answer n))

-- for files that describe the numbers, and whose deadlines for these tasks are the numbers' or are refused as these are,
-- `constrain` has the text of the numbers' lowest speed, or their status
abbrev pub ConstrainsAsFiles : NumbersView → Type 0
ConstrainsAsFiles n =
    (r : ConstrainView) (files : Files) → Describe files r.tasks r.machine n
    → ((tasks : List Task) → tasks_on n ≡ Ok tasks → deadlines_at tasks r.deadlines files ≡ deadlines_on n tasks)
    → answer_of_command (constrain r) files ≡ (lowest_on n >>= (λ x. Ok (constrained_text x.0 x.1)))
