-- Which demand lists have schedules with the same text.
use Rattle.std.specs.Prelude.{◌≡◌, ◌↔◌, ℕ, List}
use Rattle.dvs_base.specs.declared.kind.GovernorKind.{GovernorKind}
use Rattle.dvs_base.specs.declared.kind.Version.{Version}
use Rattle.task_model.specs.DemandRows.{DemandRow}
use Rattle.sched_model.specs.Plan.{Plan, names}
use Rattle.sched_model.specs.Jobs.{JobDemands, demand_of, IsWithin}
use Rattle.sched_model.specs.RunNotes.{run_notes}
use Rattle.sched_model.specs.Schedule.{schedule}
use Rattle.trace_reader.specs.Traces.{TraceView, IsTrace, text_of}
use Rattle.trace_writer.specs.RunText.{task_texts, run_text_in}
use Rattle.replay_laws.specs.FixedDemands.{fixed_of}
use Rattle.replay_laws.specs.OwnList.{Asking, ticks_by, notes_by, TellSame}
use Rattle.trace_laws.specs.RunTraces.{IsLimitedRun}

-- the trace, in a version, of the schedule under a published demand, if the plan line names this governor
abbrev pub trace_by : Version → Plan → Asking → GovernorKind → JobDemands → ℕ → TraceView
trace_by v p ask g dem ticks = record {
  version = v;
  plan = record { scheduler = p.scheduler; governor = g; ticks = ticks };
  notes = notes_by p ask dem ticks;
}

-- the text of that trace
abbrev pub text_by : Version → Plan → Asking → GovernorKind → JobDemands → ℕ → List ℕ
text_by v p ask g dem ticks = text_of (names p) (task_texts p) (trace_by v p ask g dem ticks)

-- no demand of the list exceeds its task's worst case, and the trace of its schedule has a text
pub record HasTextFor (v : Version) (p : Plan) (ask : Asking) (g : GovernorKind) (ticks : ℕ) (rows : List DemandRow)
    : Type 0 where
  pub within : IsWithin p (demand_of p rows)
  pub trace : IsTrace (names p) (task_texts p) (trace_by v p ask g (demand_of p rows) ticks)

-- if the schedules for two lists have texts, these are the same exactly if each job that completes needs the same
-- by both lists, and each other released job needs more by the second list than it has had
abbrev pub HasSameTextBy : Plan → Asking → GovernorKind → Type 0
HasSameTextBy p ask g =
    (v : Version) (ticks : ℕ) (rows others : List DemandRow)
    → HasTextFor v p ask g ticks rows → HasTextFor v p ask g ticks others
    → (text_by v p ask g (demand_of p others) ticks ≡ text_by v p ask g (demand_of p rows) ticks)
    ↔ TellSame p (demand_of p rows) (demand_of p others) (ticks_by p ask (demand_of p rows) ticks)

-- two runs within the limits have the same text exactly if each job that completes needs the same by both lists, and
-- each other released job needs more by the second list than it has had
abbrev pub HasSameText : Plan → Type 0
HasSameText p =
    (v : Version) (g : GovernorKind) (ticks : ℕ) (rows others : List DemandRow)
    → IsLimitedRun p g (demand_of p rows) ticks → IsLimitedRun p g (demand_of p others) ticks
    → (run_text_in v p g (demand_of p others) ticks ≡ run_text_in v p g (demand_of p rows) ticks)
    ↔ TellSame p (demand_of p rows) (demand_of p others) (schedule p g (demand_of p rows) ticks)

-- the demands of the list that the notes of a run fix
abbrev pub own_demand : Plan → GovernorKind → JobDemands → ℕ → ℕ → ℕ → ℕ
own_demand p kind dem ticks = demand_of p (fixed_of p (run_notes p kind dem ticks))

-- the text of a run in either version is that of the run for the list that its notes fix
abbrev pub TextHasOwnList : Plan → GovernorKind → Type 0
TextHasOwnList p kind =
    (v : Version) (ticks : ℕ) (rows : List DemandRow) → IsWithin p (demand_of p rows)
    → let dem = demand_of p rows in
    run_text_in v p kind dem ticks ≡ run_text_in v p kind (own_demand p kind dem ticks) ticks
