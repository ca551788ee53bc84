-- The answer of `workload`.
use Rattle.std.specs.Prelude.{ℕ, List, Result, Ok, ◌*◌, [], ◌∷◌, decimal, codes, ◌++◌}
use Rattle.trace_text.specs.TraceLines.{governor_word, line}
use Rattle.dvs_base.specs.declared.kind.Scheduler.TheVariants.{Edf}
use Rattle.dvs_base.specs.declared.kind.GovernorKind.{GovernorKind}
use Rattle.demand_list.specs.Demands.{DemandsView}
use Rattle.sched_model.specs.Plan.{Plan, plan_of}
use Rattle.sched_model.specs.Jobs.{demand_of}
use Rattle.statuses.specs.declared.status.Status.{Status}
use Rattle.dvs_base.specs.declared.kind.GovernorKind.TheVariants.{Plain, Fixed, Cycle, Ahead}
use Rattle.dvs_base.specs.declared.note.Totals.{Totals}
use Rattle.rtdvs_top.specs.declared.prepared.EdfTotals.{EdfTotals}
use Rattle.sched_model.specs.RunNotes.{run_notes}
use Rattle.sched_model.specs.Totals.{totals_of}
use Rattle.workload.specs.Draws.{first_state, state_after}
use Rattle.workload.specs.Workload.{made_tasks, made_machine, made_demands}

-- the number of tasks of a generated workload
abbrev pub workload_tasks : ℕ
workload_tasks = 32

-- the number of ticks of each run of a generated workload
abbrev pub workload_ticks : ℕ
workload_ticks = 50000

-- the plan of n generated tasks under EDF
abbrev pub workload_plan : ℕ → ℕ → Plan
workload_plan seed n = plan_of (made_tasks (first_state seed) n) made_machine Edf

-- the demands of the jobs of n generated tasks, drawn after the tasks
abbrev pub workload_demands : ℕ → ℕ → DemandsView
workload_demands seed n = made_demands (made_tasks (first_state seed) n) (state_after (first_state seed) (2 * n))

-- the totals of a plan's run of `ticks` ticks under a governor
abbrev pub run_totals : Plan → DemandsView → ℕ → GovernorKind → Totals
run_totals p d ticks g = totals_of (run_notes p g (demand_of p d.rows) ticks)

-- a governor's line: the releases, the completions, the decisions, and the energies of running and of idling
abbrev pub totals_text : GovernorKind → Totals → List ℕ
totals_text g t =
    line
    (governor_word g ∷ decimal t.released ∷ decimal t.finished ∷ decimal t.decisions ∷ decimal t.run ∷ decimal t.idle ∷ [])

-- the first line of a workload: the seed, the number of tasks and the ticks of each run
abbrev pub head_text : ℕ → ℕ → ℕ → List ℕ
head_text seed n ticks = line (codes "workload" ∷ decimal seed ∷ decimal n ∷ decimal ticks ∷ [])

-- the totals of a plan's runs under each governor that serves EDF
abbrev pub edf_totals : Plan → DemandsView → ℕ → EdfTotals
edf_totals p d ticks = record {
  full = run_totals p d ticks Plain;
  fixed = run_totals p d ticks Fixed;
  cycle = run_totals p d ticks Cycle;
  ahead = run_totals p d ticks Ahead;
}

-- the lines of the governors that serve EDF
abbrev pub edf_text : EdfTotals → List ℕ
edf_text t =
    (totals_text Plain t.full ++ totals_text Fixed t.fixed)
    ++ (totals_text Cycle t.cycle ++ totals_text Ahead t.ahead)

-- the totals of the runs of a generated workload
abbrev pub workload_totals : ℕ → ℕ → ℕ → EdfTotals
workload_totals seed n ticks = edf_totals (workload_plan seed n) (workload_demands seed n) ticks

-- the text of a workload: its first line, and the line of each governor
unfoldable pub workload_text : ℕ → ℕ → ℕ → List ℕ
workload_text seed n ticks = head_text seed n ticks ++ edf_text (workload_totals seed n ticks)

-- the answer of `workload`: the lines of the generated workload, which need no file
abbrev pub workload_answer : ℕ → Result (List ℕ) Status
workload_answer seed = Ok (workload_text seed workload_tasks workload_ticks)
