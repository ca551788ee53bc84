-- Which steps of an answer can deny a plan, and when.
use Rattle.std.proofs.Common.{◌≡◌, ◌⊎◌, inl, inr, ℕ, ◌*◌, ◌≤◌, ◌<◌, Bool, true, false, List, Option, Some, None, Result, Ok, Err, refl, sym, ◌∙◌, ap, subst, arith, true≢false, nat_lt, if◌then◌else◌}
use Rattle.std.proofs.lemmas.Bool.{ltb-true, ltb-false}
use Rattle.std.proofs.lemmas.Bool.Decides.{nat_tests}
use Rattle.dvs_base.specs.Outside.{Files, file_of}
use Rattle.dvs_base.specs.Checks.{and_then}
use Rattle.dvs_base.specs.declared.kind.Scheduler.{Scheduler}
use Rattle.dvs_base.specs.declared.kind.Scheduler.TheVariants.{Edf, Rm}
use Rattle.task_model.specs.declared.task.Task.{Task}
use Rattle.task_model.specs.declared.fault.TaskFault.TheVariants as task_fault
use Rattle.task_model.specs.TaskFile.{task_file, place_of}
use Rattle.freq_table.specs.MachineFile.{machine_file}
use Rattle.freq_table.specs.declared.fault.MachineFault.TheVariants as machine_fault
use Rattle.demand_list.specs.DemandFile.{demand_file}
use Rattle.demand_list.specs.declared.fault.DemandFault.TheVariants as demand_fault
use Rattle.request_list.specs.declared.fault.RequestFault.TheVariants as request_fault
use Rattle.trace_reader.specs.Traces.{TraceView}
use Rattle.trace_reader.specs.declared.trace.TraceFault.TheVariants as trace_fault
use Rattle.deadline_list.specs.declared.fault.DeadlineFault.TheVariants as deadline_fault
use Rattle.replay.specs.Replays.{replay_of}
use Rattle.replay.specs.declared.fault.ReplayFault.{ReplayFault}
use Rattle.replay.specs.declared.fault.ReplayFault.TheVariants as replay_fault
use Rattle.words.specs.declared.command.TraceUse.{TraceUse}
use Rattle.sched_model.specs.Demand.{published}
use Rattle.sched_model.specs.Plan.{Plan, hyper, top_speed}
use Rattle.sched_model.specs.Tests.{total_rate}
use Rattle.sched_model.specs.Admission.{PassesTest}
use Rattle.dvs_base.specs.declared.limits.TheConstants.{MOST_JOBS}
use Rattle.command_files.specs.Meanings.{bytes_from, bytes_at, tasks_at, machine_at, demands_at, server_from, server_at}
use Rattle.statuses.specs.Status.{text_status}
use Rattle.statuses.specs.Refused.{or_status}
use Rattle.command_files.specs.Admissions.{admission, admission_by, admission_from, first_overloaded}
use Rattle.rtdvs_top.specs.Run.{within_jobs}
use Rattle.rtdvs_top.specs.Trace.{replay_status, totals_at, use_text, answer_of_traced}
use Rattle.rtdvs_top.specs.Promises.{IsDenial, IsDeniedBy}
use Rattle.statuses.specs.declared.status.Denied.{Denied}
use Rattle.statuses.specs.declared.status.Denied.TheVariants as denied
use Rattle.statuses.specs.declared.status.FileKind.{FileKind}
use Rattle.statuses.specs.declared.status.FileKind.TheVariants as file
use Rattle.statuses.specs.declared.status.TextFault.{TextFault}
use Rattle.statuses.specs.declared.status.TextFault.TheVariants as text
use Rattle.statuses.specs.declared.status.Status.{Status}
use Rattle.statuses.specs.declared.status.Status.TheVariants as status
use Rattle.command_files.proofs.Overloads.{overloaded-none, none-overloaded, first-overloaded}

-- whether a status is a denial
abbrev pub is_denial : Status → Bool
is_denial (status.NotAdmitted why) = true
is_denial s = false

-- the status of a step that gave no value
abbrev pub status_of : {A : Type 0} → Result A Status → Status
status_of (Ok a) = status.Done
status_of (Err s) = s

-- a step that denies nothing
abbrev pub DeniesNot : {A : Type 0} → Result A Status → Type 0
DeniesNot step = is_denial (status_of step) ≡ false

then-denies-not : {A B : Type 0} (step : Result A Status) (next : A → Result B Status) → DeniesNot step
    → ((a : A) → DeniesNot (next a)) → DeniesNot (and_then step next)
then-denies-not (Ok a) next here later = later a
then-denies-not (Err s) next here later = here

-- a chain that denies does so in a later step, if the first denies nothing
pub denied-later : {A B : Type 0} (step : Result A Status) (next : A → Result B Status) (why : Denied)
    → DeniesNot step → and_then step next ≡ Err (status.NotAdmitted why)
    → (a : A) × (step ≡ Ok a) × (next a ≡ Err (status.NotAdmitted why))
denied-later (Ok a) next why here e = (a, refl, e)
denied-later (Err s) next why here e = absurd (true≢false (sym (ap (λ r. is_denial (status_of r)) e) ∙ here))

-- a chain that gives a value does so in each of its steps
pub given-both : {A B : Type 0} (step : Result A Status) (next : A → Result B Status) (b : B)
    → and_then step next ≡ Ok b → (a : A) × (step ≡ Ok a) × (next a ≡ Ok b)
given-both (Ok a) next b e = (a, refl, e)
given-both (Err s) next b e = absurd (cc)

-- two values of one step are one
pub given-once : {A : Type 0} {step : Result A Status} {a b : A} → step ≡ Ok a → step ≡ Ok b → a ≡ b
given-once first second = cc

bytes-deny-not : (kind : FileKind) (held : Option (List ℕ)) → DeniesNot (bytes_from kind held)
bytes-deny-not kind None = refl
bytes-deny-not kind (Some bytes) = grind (arith, nat_tests)

-- a refusal that is no denial denies nothing
refusal-denies-not : {A F : Type 0} (as_status : F → Status) → ((e : F) → is_denial (as_status e) ≡ false) → (r : Result A F)
    → DeniesNot (or_status as_status r)
refusal-denies-not as_status each (Ok a) = refl
refusal-denies-not as_status each (Err e) = each e

text-denies-not : (why : TextFault) → is_denial (text_status why) ≡ false
text-denies-not (text.Tasks task_fault.NoMemory) = refl
text-denies-not (text.Machine machine_fault.NoMemory) = refl
text-denies-not (text.Demands demand_fault.NoMemory) = refl
text-denies-not (text.Demands (demand_fault.OverWorst task job units worst)) = refl
text-denies-not (text.Trace trace_fault.NoMemory) = refl
text-denies-not (text.Deadlines deadline_fault.NoMemory) = refl
text-denies-not (text.Requests request_fault.NoMemory) = refl
text-denies-not why = refl

-- nor does a file that is loaded and read
pub file-denies-not : {A F : Type 0} (kind : FileKind) (name : List ℕ) (files : Files) (as_text : F → TextFault) (read : List ℕ → Result A F)
    → DeniesNot (and_then (bytes_at kind name files) (λ bytes. or_status (λ e. text_status (as_text e)) (read bytes)))
file-denies-not kind name files as_text read =
    then-denies-not (bytes_at kind name files) _ (bytes-deny-not kind (file_of files name))
    (λ bytes. refusal-denies-not _ (λ e. text-denies-not (as_text e)) (read bytes))

pub tasks_at-denies-not : (name : List ℕ) (files : Files) → DeniesNot (tasks_at name files)
tasks_at-denies-not name files = file-denies-not file.Tasks name files text.Tasks task_file

pub machine_at-denies-not : (name : List ℕ) (files : Files) → DeniesNot (machine_at name files)
machine_at-denies-not name files = file-denies-not file.Machine name files text.Machine machine_file

pub demands_at-denies-not : (tasks : List Task) (name : Option (List ℕ)) (files : Files)
    → DeniesNot (demands_at tasks name files)
demands_at-denies-not tasks None files = refl
demands_at-denies-not tasks (Some name) files = file-denies-not file.Demands name files text.Demands (demand_file tasks)

pub server_at-denies-not : (name : List ℕ) (tasks : List Task) → DeniesNot (server_at name tasks)
server_at-denies-not name tasks = go (place_of tasks name)
  where
    go : (place : Option ℕ) → DeniesNot (server_from name place)
    go None = refl
    go (Some i) = refl

replay-denies-not : (e : ReplayFault) → is_denial (replay_status e) ≡ false
replay-denies-not replay_fault.NoMemory = refl
replay-denies-not e = refl

pub traced-denies-not : (asked : TraceUse) (x : Plan × TraceView) → DeniesNot (answer_of_traced asked x)
unfolding totals_at
traced-denies-not asked x =
    then-denies-not (totals_at x) (λ totals. Ok (use_text asked x totals))
    (refusal-denies-not replay_status replay-denies-not (replay_of x.0 (published x.0 x.1.plan.governor) x.1)) (λ totals. refl)

pub within-denies-not : (jobs : ℕ) (bytes : List ℕ) → DeniesNot (within_jobs jobs bytes)
within-denies-not jobs bytes = grind (arith, nat_tests)

-- jobs within the limit are not refused
pub within-few : (jobs : ℕ) (bytes : List ℕ) → jobs ≤ MOST_JOBS → within_jobs jobs bytes ≡ Ok bytes
within-few jobs bytes few = grind (arith, nat_tests)

-- more are
pub within-many : (jobs : ℕ) (bytes : List ℕ) → MOST_JOBS < jobs → within_jobs jobs bytes ≡ Err (status.Limit jobs)
within-many jobs bytes many = grind (arith, nat_tests)

-- a plan that passes its scheduler's test is admitted
pub passes-admission : (sch : Scheduler) (p : Plan) → PassesTest sch p → admission_by sch p ≡ Ok p
passes-admission Edf p h =
    let fits : nat_lt (top_speed p * hyper p) (total_rate p) ≡ false = grind (arith, nat_tests) in
    rw fits refl
passes-admission Rm p h = ap (admission_from p) (overloaded-none p h)

-- what the test of a scheduler answers: the plan, which passes it, or a denial by the test's two numbers
abbrev pub Decides : Plan → Scheduler → Result Plan Status → Type 0
Decides p sch r = ((r ≡ Ok p) × PassesTest sch p) ⊎ ((why : Denied) × (r ≡ Err (status.NotAdmitted why)) × IsDenial p why)

pub decides : (p : Plan) → Decides p p.scheduler (admission p)
decides p = by p.scheduler refl
  where
    by-edf : (b : Bool) → nat_lt (top_speed p * hyper p) (total_rate p) ≡ b → p.scheduler ≡ Edf
        → Decides p Edf (if b then Err (status.NotAdmitted (denied.Edf (total_rate p) (top_speed p * hyper p))) else Ok p)
    by-edf true e edf = inr (_, refl, (edf, refl, refl, ltb-true (top_speed p * hyper p) (total_rate p) e))
    by-edf false e edf = inl (refl, ltb-false (top_speed p * hyper p) (total_rate p) e)

    by-rm : (o : Option ℕ) → first_overloaded p ≡ o → p.scheduler ≡ Rm → Decides p Rm (admission_from p o)
    by-rm None e rm = inl (refl, none-overloaded p e)
    by-rm (Some i) e rm = inr (_, refl, (rm, first-overloaded p i e, refl, refl))

    by : (sch : Scheduler) → p.scheduler ≡ sch → Decides p sch (admission_by sch p)
    by Edf edf = by-edf (nat_lt (top_speed p * hyper p) (total_rate p)) refl edf
    by Rm rm = by-rm (first_overloaded p) refl rm

-- the plan that an admission gives is the plan itself, which passes its scheduler's test
pub admission-gives : (p q : Plan) → admission p ≡ Ok q → (q ≡ p) × PassesTest p.scheduler p
admission-gives p q e = go (decides p)
  where
    go : Decides p p.scheduler (admission p) → (q ≡ p) × PassesTest p.scheduler p
    go (inl same) = (given-once e same.0, same.1)
    go (inr denial) = let no = denial.1 in absurd (cc)

-- a plan that is denied fails its test, by the test's two numbers
pub denied-plan : (p : Plan) (why : Denied) → admission p ≡ Err (status.NotAdmitted why) → IsDeniedBy p why
denied-plan p why e = record {
  numbers = e;
  by = go (decides p);
  fails = λ h. let ok = passes-admission p.scheduler p h in absurd (cc);
}
  where
    go : Decides p p.scheduler (admission p) → IsDenial p why
    go (inl same) = let ok = same.0 in absurd (cc)
    go (inr denial) = let own = denial.1 in let same : denial.0 ≡ why = cc in subst (IsDenial p) same denial.2
