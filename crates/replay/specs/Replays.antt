-- What a replay of a trace answers.
use Rattle.std.specs.Prelude.{◌≡◌, ◌≢◌, ⊤, ℕ, ◌<◌, nat_lt, List, [], ◌∷◌, Option, Some, None, Result, Err, if◌then◌else◌}
use Rattle.std.specs.Option.{option_or}
use Rattle.dvs_base.specs.declared.note.Note.{Note}
use Rattle.dvs_base.specs.declared.note.Note.TheVariants.{Release, Run, Done}
use Rattle.dvs_base.specs.declared.note.Totals.{Totals}
use Rattle.dvs_base.specs.declared.limits.TheConstants.{MOST_JOBS}
use Rattle.task_model.specs.DemandRows.{DemandRow, named_units}
use Rattle.demand_list.specs.Demands.{DemandsView, IsDemands}
use Rattle.sched_model.specs.Plan.{Plan, count, worst}
use Rattle.sched_model.specs.Jobs.{released_jobs, demand_of}
use Rattle.sched_model.specs.Totals.{totals_of}
use Rattle.event_kernel.specs.declared.kernel.KernelFault.{KernelFault}
use Rattle.event_kernel.specs.declared.kernel.KernelFault.TheVariants as kernel
use Rattle.trace_reader.specs.Traces.{TraceView}
use Rattle.replay_laws.specs.FixedDemands.{fixed_of, fixed_list}
use Rattle.replay_laws.specs.OwnList.{Asking, notes_by, AreNotesFor}
use Rattle.replay.specs.Comparison.{comparison, line_of, FirstUnequal}
use Rattle.replay.specs.declared.fault.ReplayFault.{ReplayFault}
use Rattle.replay.specs.declared.fault.ReplayFault.TheVariants as fault

-- the note names no task, or one of the first c
abbrev pub NamesTask : ℕ → Note → Type 0
NamesTask c (Release tick i k) = i < c
NamesTask c (Run from to i k units energy) = i < c
NamesTask c (Done q i k used) = i < c
NamesTask c _ = Unit {0}

-- the refusal of the kernel as one of a replay
abbrev pub replay_refusal : KernelFault → ReplayFault
replay_refusal (kernel.TooManyJobs n) = fault.TooManyJobs n
replay_refusal kernel.NoMemory = fault.NoMemory

-- the refusal of a note that ends a job with more units than its task's worst case
abbrev pub over_in : Plan → Note → Option ReplayFault
over_in p (Done q i k used) = if nat_lt (worst p i) used then Some (fault.OverWorst i k used (worst p i)) else None
over_in p _ = None

-- the refusal of the first note that ends a job with more units than its task's worst case
abbrev pub first_over : Plan → List Note → Option ReplayFault
first_over p [] = None
first_over p (n ∷ notes) = option_or (over_in p n) (first_over p notes)

-- each job keeps its row, and one without a row gets its row in `rows`
abbrev pub Fixes : List DemandRow → DemandsView → DemandsView → Type 0
Fixes rows old new = (i k : ℕ) → named_units new.rows i k ≡ option_or (named_units old.rows i k) (named_units rows i k)

-- the refusal of a run that releases more jobs than the limit
abbrev pub too_many : Plan → ℕ → Option ReplayFault
too_many p ticks =
    let jobs = released_jobs p ticks in if nat_lt MOST_JOBS jobs then Some (fault.TooManyJobs jobs) else None

-- the refusal, or the next result if nothing is refused
abbrev pub unless : Option ReplayFault → Result Totals ReplayFault → Result Totals ReplayFault
unless (Some why) next = Err why
unless None next = next

-- the notes of the schedule for the demands that a trace fixes
abbrev pub own_notes : Plan → Asking → TraceView → List Note
own_notes p asked t = notes_by p asked (demand_of p (fixed_of p t.notes)) t.plan.ticks

-- What a replay answers: the refusal of the first end over its worst case; then of too many jobs; then of the first
-- difference from the schedule for the demands that the trace fixes; otherwise the totals of its notes.
abbrev pub replay_of : Plan → Asking → TraceView → Result Totals ReplayFault
replay_of p asked t =
    unless (first_over p t.notes) (
    unless (too_many p t.plan.ticks) (
    comparison (count p) t (own_notes p asked t)))

-- the numbers and the notes of a refusal show its cause
abbrev pub IsCause : ReplayFault → Type 0
IsCause (fault.OverWorst i k used worst) = worst < used
IsCause (fault.TooManyJobs jobs) = MOST_JOBS < jobs
IsCause (fault.Differs line wanted found) = wanted ≢ found
IsCause fault.NoMemory = ⊤

-- the trace has these totals, its notes are those of the schedule for the list that they fix, and that list is a demand
-- list of the plan
pub record IsReplayed (p : Plan) (asked : Asking) (t : TraceView) (totals : Totals) : Type 0 where
  pub totals_are : totals ≡ totals_of t.notes
  pub notes : AreNotesFor p asked t.plan.ticks t.notes (fixed_of p t.notes)
  pub list : IsDemands (fixed_list p t.notes)

-- the first two unequal notes of the schedule for the demands that the trace fixes and of the trace; `line` is of the
-- second one
abbrev pub IsFirstDifference : Plan → Asking → TraceView → ℕ → Note → Note → Type 0
IsFirstDifference p asked t line wanted found =
    (place : ℕ) × (line ≡ line_of t.version (count p) place found)
    × FirstUnequal (own_notes p asked t) t.notes place wanted found
