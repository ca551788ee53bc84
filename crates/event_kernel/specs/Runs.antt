-- What a kernel runs, and the notes of the run.
use Rattle.std.specs.Prelude.{ℕ, List, ◌≡◌, ◌<◌, ◌≤◌, true}
use Rattle.freq_table.specs.Tables.{lowest_pick}
use Rattle.dvs_base.specs.declared.kind.GovernorKind.{GovernorKind}
use Rattle.dvs_base.specs.declared.kind.Version.{Version}
use Rattle.dvs_base.specs.declared.limits.TheConstants.{MOST_TICKS}
use Rattle.dvs_base.specs.declared.note.Note.{Note}
use Rattle.demand_list.specs.Demands.{DemandsView, HasWorstsOf}
use Rattle.sched_model.specs.Plan.{Plan}
use Rattle.sched_model.specs.Admission.{IsWithinLimits}
use Rattle.sched_model.specs.Ticks.{Tick, IsMet}
use Rattle.sched_model.specs.Jobs.{JobDemands, demand_of, IsWithin}
use Rattle.sched_model.specs.Decision.{is_decision}
use Rattle.sched_model.specs.Notes.{notes_of}
use Rattle.governor.specs.Meanings.{OwnDemand}
use Rattle.governor.specs.Schedule.{course, ask_of}
use Rattle.trace_text.specs.TraceText.{NotedLine}
use Rattle.trace_writer.specs.RunText.{run_lines}

-- a run: a plan, a demand list and a number of ticks
pub record Run : Type 0 where
  pub plan : Plan
  pub demands : DemandsView
  pub ticks : ℕ

-- the run of a plan with these demands and ticks
abbrev pub run_for : Plan → DemandsView → ℕ → Run
run_for p d ticks = record { plan = p; demands = d; ticks = ticks }

-- the list has the plan's declared worst cases
abbrev pub IsListOf : Plan → DemandsView → Type 0
IsListOf p d = HasWorstsOf p.tasks d

-- the demand of each job of a plan under a demand list
abbrev pub demands_of : Plan → DemandsView → JobDemands
demands_of p d = demand_of p d.rows

-- the plan is within the limits, the list has its declared worst cases, no demand exceeds its worst case, the ticks are few
pub record IsSound (r : Run) : Type 0 where
  pub limits : IsWithinLimits r.plan
  pub list : IsListOf r.plan r.demands
  pub within : IsWithin r.plan (demands_of r.plan r.demands)
  pub low_ticks : r.ticks ≤ MOST_TICKS

-- the ticks of a governor's schedule of a run
abbrev pub run_ticks : OwnDemand → Run → List Tick
run_ticks demand r = course demand r.plan (demands_of r.plan r.demands) r.ticks

-- every deadline within a run is met
abbrev pub MeetsDeadlines : OwnDemand → Run → Type 0
MeetsDeadlines demand r = IsMet r.plan (demands_of r.plan r.demands) (run_ticks demand r)

-- at each decision of a run some entry of the table meets the published demand
abbrev pub MeetsDemands : OwnDemand → Run → Type 0
MeetsDemands demand r =
    let dem = demands_of r.plan r.demands in
    (t : ℕ) → t < r.ticks → is_decision r.plan dem (course demand r.plan dem t) ≡ true
    → (lowest_pick r.plan.machine (ask_of demand r.plan dem (course demand r.plan dem t))).met ≡ true

-- all notes of a run
abbrev pub notes_of_run : OwnDemand → Run → List Note
notes_of_run demand r =
    let dem = demands_of r.plan r.demands in notes_of r.plan dem (ask_of demand r.plan dem) (run_ticks demand r)

-- the lines of a run's trace, in a version, under a governor of this kind
abbrev pub lines_of_run : Version → GovernorKind → OwnDemand → Run → List NotedLine
lines_of_run v kind demand r = run_lines v r.plan kind r.ticks (notes_of_run demand r)
