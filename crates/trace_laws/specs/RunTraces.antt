-- The traces of runs: they keep the limits of traces.
use Rattle.std.specs.Prelude.{◌≡◌, ℕ, ◌≤◌, true}
use Rattle.dvs_base.specs.declared.kind.GovernorKind.{GovernorKind}
use Rattle.dvs_base.specs.declared.kind.Version.{Version}
use Rattle.dvs_base.specs.declared.limits.TheConstants.{MOST_JOBS, MOST_TICKS}
use Rattle.dvs_base.specs.PlanWords.{is_pair}
use Rattle.sched_model.specs.Plan.{Plan, names}
use Rattle.sched_model.specs.Jobs.{released_jobs, JobDemands, IsWithin}
use Rattle.sched_model.specs.RunNotes.{run_notes}
use Rattle.trace_writer.specs.RunText.{task_texts}
use Rattle.trace_reader.specs.Traces.{TraceView, IsTrace}

-- the trace, in a version, of the run of `ticks` ticks of a plan under a governor for these demands
abbrev pub trace_of_run : Version → Plan → GovernorKind → JobDemands → ℕ → TraceView
trace_of_run v p g dem ticks = record {
  version = v;
  plan = record { scheduler = p.scheduler; governor = g; ticks = ticks };
  notes = run_notes p g dem ticks;
}

-- a run within the limits
pub record IsLimitedRun (p : Plan) (g : GovernorKind) (dem : JobDemands) (ticks : ℕ) : Type 0 where
  -- the scheduler and the governor are a pair
  pub pair : is_pair p.scheduler g ≡ true
  -- the run has at least one tick, and at most the limit
  pub some_ticks : 1 ≤ ticks
  pub low_ticks : ticks ≤ MOST_TICKS
  -- no demand exceeds its task's worst case
  pub within : IsWithin p dem
  -- the released jobs are at most the limit
  pub few : released_jobs p ticks ≤ MOST_JOBS

-- the trace of each of the plan's runs within the limits has a text: no number and no count of lines is too large
abbrev pub KeepsLimits : Plan → Type 0
KeepsLimits p =
    (v : Version) (g : GovernorKind) (dem : JobDemands) (ticks : ℕ) → IsLimitedRun p g dem ticks
    → IsTrace (names p) (task_texts p) (trace_of_run v p g dem ticks)
