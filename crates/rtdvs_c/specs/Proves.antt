-- What an answer proves of its files, with no premise about the system.
use Rattle.std.specs.Prelude.{◌≡◌, ◌≢◌, ◌≤◌, ℕ, List, [], ◌⊎◌, ⊤, Option, Some, Result, Ok, Err}
use Rattle.dvs_base.specs.Outside.{Files, SinkView}
use Rattle.dvs_base.specs.declared.limits.TheConstants.{MOST_JOBS}
use Rattle.dvs_base.specs.declared.kind.Scheduler.TheVariants.{Rm}
use Rattle.task_model.specs.declared.task.Task.{Task}
use Rattle.freq_table.specs.Tables.{Table}
use Rattle.demand_list.specs.Demands.{DemandsView}
use Rattle.sched_model.specs.Plan.{plan_of}
use Rattle.sched_model.specs.Jobs.{released_jobs}
use Rattle.event_kernel.specs.Runs.{Run, run_for}
use Rattle.words.specs.declared.command.WordFault.{WordFault}
use Rattle.words.specs.Commands.{CommandView, RunView, run, response}
use Rattle.statuses.specs.declared.status.Denied.{Denied}
use Rattle.statuses.specs.declared.status.Status.{Status}
use Rattle.statuses.specs.declared.status.Status.TheVariants as status
use Rattle.statuses.specs.Status.{IsShown}
use Rattle.rtdvs_top.specs.Asked.{with_files}
use Rattle.rtdvs_top.specs.Run.{HasMet, text_under}
use Rattle.rtdvs_top.specs.Response.{MeansPlan, RespondsOrIsDenied}
use Rattle.rtdvs_top.specs.Trace.{AcceptsScheduleTexts}
use Rattle.rtdvs_top.specs.Promises.{answer_of_command, MeansRun, IsDeniedBy, ProvesRun, AdmitsByTest, ProvesTests, ProvesPoll, ProvesLeast}
use Rattle.rtdvs_c.specs.declared.TheConstants.{NO_MEMORY}
use Rattle.rtdvs_c.specs.declared.reply.Reply.{Reply}
use Rattle.rtdvs_c.specs.Replies.{FitsLimits, Shows, reply_if, status_of, text_of}

-- the status of a command's answer
abbrev pub status_at : Files → CommandView → Status
status_at files c = status_of (answer_of_command c files)

-- a sink that holds these bytes
abbrev pub holding : List ℕ → SinkView
holding bytes = record { written = Some bytes; taken = bytes; faults = 0; sure = 0 }

-- a sink that holds the text of a command's answer
abbrev pub answered : Files → CommandView → SinkView
answered files c = holding (text_of (answer_of_command c files))

-- the answer is the text of this run, which has met all that an admitted plan meets
pub record IsAnsweredRun (answer : Result (List ℕ) Status) (r : RunView) (w : Run) : Type 0 where
  pub text : answer ≡ Ok (text_under r.version r.governor w)
  pub run : HasMet r.version r.governor w

-- the answer is the denial of this run's plan, which fails its scheduler's test
pub record IsDeniedRun (answer : Result (List ℕ) Status) (w : Run) : Type 0 where
  pub why : Denied
  pub denies : answer ≡ Err (status.NotAdmitted why)
  pub fails : IsDeniedBy w.plan why

-- The headline. The files of a run describe these tasks, this machine and these demands, and the run releases no more
-- jobs than the limit. Then the answer is the run of these demands for the plan of these tasks, this machine and the
-- words' scheduler, or the plan is denied. If the files of the exact test under RM describe these tasks and this
-- machine, all tasks have responses, or they are denied.
abbrev pub IsAnsweredOrDenied : Files → CommandView → Type 0
IsAnsweredOrDenied files (run r) =
    (tasks : List Task) (machine : Table) (demands : DemandsView) → MeansRun r files tasks machine demands
    → released_jobs (plan_of tasks machine r.scheduler) r.ticks ≤ MOST_JOBS
    → IsAnsweredRun (answer_of_command (run r) files) r (run_for (plan_of tasks machine r.scheduler) demands r.ticks)
    ⊎ IsDeniedRun (answer_of_command (run r) files) (run_for (plan_of tasks machine r.scheduler) demands r.ticks)
IsAnsweredOrDenied files (response r) =
    (tasks : List Task) (machine : Table) → MeansPlan r files tasks machine
    → RespondsOrIsDenied (plan_of tasks machine Rm) (status_at files (response r))
IsAnsweredOrDenied files c = ⊤

-- what the answer of a command proves of its files: what the top call promises of known files, with no fault
pub record ProvesCommand (files : Files) (c : CommandView) : Type 0 where
  -- a run of files that describe one is answered, and meets every deadline, or its plan is denied
  pub headline : IsAnsweredOrDenied files c
  -- admission, text, deadlines, speeds and energies of a run that is done or denied
  pub run : ProvesRun (with_files files c) (holding []) (answered files c) (status_at files c)
  -- the scheduler's test of `run`, `admit`, `replay`, `migrate` and `poll`, as sums and products; and that no lower speed
  -- than the one that `admit` prints is enough
  pub admitted : AdmitsByTest (with_files files c) (status_at files c)
  -- which trace files are replayed and migrated: exactly those of a schedule, and for which demands
  pub exact : AcceptsScheduleTexts (with_files files c) ⊥ ⊥ (status_at files c)
  -- the exact tests: what one that is done proves of every schedule, and what one that denies proves of the worst cases
  pub tested : ProvesTests (with_files files c) (status_at files c)
  -- what a `poll` run that is done has kept
  pub polled : ProvesPoll (with_files files c) (status_at files c)
  -- `least`: a certificate that passes its check, and a bound on every choice and every schedule
  pub least : ProvesLeast (with_files files c) (holding []) (answered files c) (status_at files c)
  -- the numbers of the status show its cause
  pub shown : IsShown (status_at files c)

-- what the answer proves, if the words are a command
abbrev pub Proves : Files → Option (Result CommandView WordFault) → Type 0
Proves files (Some (Ok c)) = ProvesCommand files c
Proves files asked = ⊤

-- a reply to these words, over these files: what it is, and what its answer proves; memory did not run out
pub record IsReply (files : Files) (asked : Option (Result CommandView WordFault)) (most : ℕ) (r : Reply) : Type 0 where
  pub reply : Shows most r (reply_if asked files)
  pub fits : FitsLimits r
  pub proves : Proves files asked
  pub memory : r.code ≢ NO_MEMORY
