-- The answer of `run`, and what a run that is done has met.
use Rattle.std.specs.Prelude.{◌≡◌, ℕ, List, nat_lt, Result, Ok, Err, if◌then◌else◌, Option}
use Rattle.dvs_base.specs.Checks.{◌>>=◌}
use Rattle.dvs_base.specs.Outside.{Files}
use Rattle.dvs_base.specs.declared.kind.GovernorKind.{GovernorKind}
use Rattle.dvs_base.specs.declared.kind.GovernorKind.TheVariants.{Fixed}
use Rattle.dvs_base.specs.declared.kind.Version.{Version}
use Rattle.task_model.specs.declared.task.Task.{Task}
use Rattle.demand_list.specs.Demands.{DemandsView}
use Rattle.sched_model.specs.Demand.{IsAlwaysMet}
use Rattle.sched_model.specs.Plan.{Plan}
use Rattle.sched_model.specs.Jobs.{demand_of, released_jobs, JobDemands}
use Rattle.trace_writer.specs.RunText.{run_text_in}
use Rattle.event_kernel.specs.Runs.{Run, run_for, demands_of}
use Rattle.probes.specs.Outputs.{Outputs}
use Rattle.dvs_base.specs.declared.limits.TheConstants.{MOST_JOBS}
use Rattle.words.specs.Commands.{RunView}
use Rattle.statuses.specs.declared.status.Status.{Status}
use Rattle.statuses.specs.declared.status.Status.TheVariants as status
use Rattle.sched_model.specs.Ticks.{Tick, IsMet}
use Rattle.sched_model.specs.Admission.{PassesTest}
use Rattle.sched_model.specs.StaticDemand.{static_demand}
use Rattle.freq_table.specs.Tables.{lowest_entry}
use Rattle.static_gov.specs.StaticSpeed.{IsLowestEnough}
use Rattle.sched_model.specs.Schedule.{schedule, AlwaysMeets, HasSchedule, HasNoOther, IsTheSchedule}
use Rattle.trace_laws.specs.DoneLines.{TellsDeadlines}
use Rattle.statuses.specs.Steps.{Gives}
use Rattle.command_files.specs.Meanings.{tasks_at}
use Rattle.rtdvs_top.specs.ToldRuns.{IfAsked, TellsRun}
use Rattle.rtdvs_top.specs.PlannedRuns.{prepared_of}

-- the text, if the run doesn't release too many jobs
abbrev pub within_jobs : ℕ → List ℕ → Result (List ℕ) Status
within_jobs jobs bytes = if nat_lt MOST_JOBS jobs then Err (status.Limit jobs) else Ok bytes

-- the answer of an admitted plan: the text of its run in this version
abbrev pub answer_of_plan : Version → GovernorKind → DemandsView → ℕ → Plan → Result (List ℕ) Status
answer_of_plan v g demands ticks p =
    within_jobs (released_jobs p ticks) (run_text_in v p g (demand_of p demands.rows) ticks)

-- the answer of `run` for the plan and the demands that were prepared
abbrev pub answer_of_prepared : RunView → Plan × DemandsView → Result (List ℕ) Status
answer_of_prepared r x = answer_of_plan r.version r.governor x.1 r.ticks x.0

-- the answer of `run`, after its tasks were read
abbrev pub run_after_tasks : RunView → List Task → Files → Result (List ℕ) Status
run_after_tasks r tasks files = do
  x ← prepared_of r tasks files
  answer_of_prepared r x

-- the answer of `run`
abbrev pub run_answer : RunView → Files → Result (List ℕ) Status
run_answer r files = do
  tasks ← tasks_at r.tasks files
  run_after_tasks r tasks files

-- the demand of each job of a run
abbrev pub job_demands : Run → JobDemands
job_demands r = demands_of r.plan r.demands

-- the ticks of a run's schedule, by the published demand of the governor's kind
abbrev pub ticks_under : GovernorKind → Run → List Tick
ticks_under kind r = schedule r.plan kind (job_demands r) r.ticks

-- the text of a run's trace in a version
abbrev pub text_under : Version → GovernorKind → Run → List ℕ
text_under v kind r = run_text_in v r.plan kind (job_demands r) r.ticks

-- what a run of an admitted plan, written in this version, has met
pub record HasMet (v : Version) (kind : GovernorKind) (r : Run) : Type 0 where
  -- the scheduler's stated test passes at the highest speed
  pub admitted : PassesTest r.plan.scheduler r.plan
  -- the run's ticks are the one schedule, in which each speed is the lowest entry that meets the published demand,
  -- otherwise the highest
  pub schedule : IsTheSchedule r.plan kind (job_demands r) r.ticks (ticks_under kind r)
  -- each job that is due within the run has had its demand by its deadline
  pub deadlines : IsMet r.plan (job_demands r) (ticks_under kind r)
  -- exactly one line of the text says that the job is done, at a position not after its deadline
  pub told : TellsDeadlines r.plan r.ticks (text_under v kind r)
  -- some entry of the table meets each published demand, unless the governor looks ahead
  pub speeds : IsAlwaysMet kind → AlwaysMeets r.plan kind (job_demands r) r.ticks
  -- under `static`, no lower speed is enough
  pub lowest : kind ≡ Fixed → IsLowestEnough r.plan (lowest_entry r.plan.machine (static_demand r.plan))
  -- for any published demand, the plan has one schedule of each length
  pub exists : HasSchedule r.plan
  pub unique : HasNoOther r.plan

-- a run of its file's tasks told probes the notes of the plan and the demands that were prepared, if the words ask for
-- probes
abbrev pub TellsFileRun : Option Files → RunView → Outputs → Outputs → Status → Type 0
TellsFileRun files r old new s =
    (tasks : List Task) × Gives files (tasks_at r.tasks) tasks
    × IfAsked r.probes ((p : Plan) × (d : DemandsView) × Gives files (prepared_of r tasks) (p, d)
    × TellsRun r.version r.governor (run_for p d r.ticks) old new s)
