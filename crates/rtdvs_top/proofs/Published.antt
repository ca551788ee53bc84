-- A run by a governor's own demand is the run by the published one.
use Rattle.std.proofs.Common.{◌≡◌, ℕ, ◌≤◌, true, List, Result, Ok, Err, ap, ◌∙◌, subst}
use Rattle.dvs_base.specs.declared.note.Note.{Note}
use Rattle.dvs_base.specs.declared.kind.GovernorKind.{GovernorKind}
use Rattle.dvs_base.specs.declared.kind.Version.{Version}
use Rattle.dvs_base.specs.declared.limits.TheConstants.{MOST_TICKS, MOST_JOBS}
use Rattle.grid_fraction.specs.declared.Frac.{Frac}
use Rattle.demand_list.specs.Demands.{DemandsView, IsWithinWorsts}
use Rattle.sched_model.specs.Plan.{Plan, names}
use Rattle.sched_model.specs.Notes.{notes_of}
use Rattle.sched_model.specs.RunNotes.{run_notes}
use Rattle.trace_laws.proofs.DoneText.{text-tells}
use Rattle.trace_writer.specs.RunText.{task_texts, run_lines}
use Rattle.sched_model.specs.Schedule.{schedule_by}
use Rattle.sched_model.specs.Ticks.{PublishedDemand, IsMet, Tick}
use Rattle.sched_model.specs.Admission.{IsAdmitted}
use Rattle.sched_model.specs.Decision.{is_decision}
use Rattle.freq_table.specs.Tables.{lowest_pick}
use Rattle.sched_model.specs.Jobs.{JobDemands, released_jobs, demand_of, IsWithin}
use Rattle.event_kernel.specs.Runs.{Run, run_for, IsListOf, notes_of_run, lines_of_run}
use Rattle.event_kernel.specs.MetRun.{IsMetRun}
use Rattle.trace_writer.specs.Lines.{WritesLines}
use Rattle.trace_writer.proofs.WrittenLines.{all-as, some-as, stopped-some}
use Rattle.event_kernel.proofs.ListedDemands.{demand-within}
use Rattle.sched_model.specs.Demand.{published}
use Rattle.sched_model.proofs.Schedules.{schedule_exists, schedule_unique}
use Rattle.sched_model.specs.Totals.{totals_of}
use Rattle.governor.specs.Meanings.{OwnDemand}
use Rattle.governor.specs.Schedule.{ask_of, Publishes}
use Rattle.static_gov.proofs.StaticSpeed.{lowest-enough}
use Rattle.rtdvs_top.specs.Generated.{run_totals}
use Rattle.rtdvs_top.specs.ToldRuns.{TellsRun}
use Rattle.rtdvs_top.specs.Prepared.{answer_of_run, Ends, status_of_writing}
use Rattle.rtdvs_top.specs.Run.{HasMet, text_under}
use Rattle.probes.specs.Tallies.{told_notes}
use Rattle.probes.specs.Outputs.{Outputs}
use Rattle.rtdvs_top.proofs.LineNotes.{trace-notes}
use Rattle.rtdvs_top.proofs.DeniedPlans.{within-few}
use Rattle.rtdvs_top.proofs.Comparisons as comparisons

module _ (demand : OwnDemand) (kind : GovernorKind) (p : Plan) (d : DemandsView) (list : IsListOf p d)
    (low : IsWithinWorsts d) (publishes : Publishes demand kind p) where
  abbrev dem : JobDemands
  dem = demand_of p d.rows

  abbrev own : PublishedDemand
  own = ask_of demand p dem

  abbrev asked : PublishedDemand
  asked = published p kind dem

  within : IsWithin p dem
  within = demand-within p d list low

  same-ticks : (t : ℕ) → schedule_by p dem own t ≡ schedule_by p dem asked t
  same-ticks = comparisons.same-ticks demand kind p publishes dem within

  same-run : (ticks : ℕ)
      → notes_of p dem own (schedule_by p dem own ticks) ≡ notes_of p dem asked (schedule_by p dem asked ticks)
  same-run = comparisons.same-run demand kind p publishes dem within

  pub totals-published : (ticks : ℕ) → totals_of (notes_of_run demand (run_for p d ticks)) ≡ run_totals p d ticks kind
  totals-published ticks = ap totals_of (same-run ticks)

  -- the notes of the published schedule
  abbrev notes : ℕ → List Note
  notes ticks = run_notes p kind dem ticks

  -- what the writing of the lines of a run by a governor's own demand is by the published one
  module _ (v : Version) (ticks : ℕ) (k : Run) (is : k ≡ run_for p d ticks) (old new : Outputs) where
    same-lines : lines_of_run v kind demand k ≡ run_lines v p kind ticks (notes ticks)
    same-lines = ap (lines_of_run v kind demand) is ∙ ap (run_lines v p kind ticks) (same-run ticks)

    abbrev text : List ℕ
    text = text_under v kind (run_for p d ticks)

    -- what probes were told if all lines of a run are written, and if the writing stops in one of them
    pub writing-told : {T E : Type 0} (r : Result T E) → WritesLines old new (lines_of_run v kind demand k) r
        → TellsRun v kind (run_for p d ticks) old new (status_of_writing r)
    writing-told (Ok t) wrote =
        (all-as same-lines wrote).told
        ∙ ap (λ (ns : List Note). told_notes ns old.probes) (trace-notes v (names p) (notes ticks) p.scheduler kind ticks (task_texts p))
    writing-told (Err e) stopped = some-as same-lines stopped

    pub writing-ends : {T E : Type 0} (r : Result T E) → released_jobs p ticks ≤ MOST_JOBS
        → WritesLines old new (lines_of_run v kind demand k) r
        → Ends old.sink new.sink (answer_of_run v kind (run_for p d ticks)) (status_of_writing r)
    writing-ends (Ok t) few wrote = (text, within-few (released_jobs p ticks) text few, (all-as same-lines wrote).wrote)
    writing-ends (Err e) few stopped =
        (text, within-few (released_jobs p ticks) text few, stopped-some (some-as same-lines stopped))

  -- a demand that is met where a schedule's own demand decides is met where the published one does
  met-there : (t : ℕ)
      → (is_decision p dem (schedule_by p dem own t) ≡ true → (lowest_pick p.machine (own (schedule_by p dem own t))).met ≡ true)
      → is_decision p dem (schedule_by p dem asked t) ≡ true
      → (lowest_pick p.machine (asked (schedule_by p dem asked t))).met ≡ true
  met-there t h =
      let Met : List Tick → Frac → Type 0 = λ ticks f. is_decision p dem ticks ≡ true → (lowest_pick p.machine f).met ≡ true in
      subst (λ (ticks : List Tick). Met ticks (asked ticks)) (same-ticks t)
      (subst (Met (schedule_by p dem own t))
      (comparisons.agree demand kind p publishes dem within own (schedule_by p dem own t) (schedule_exists p dem own t).0) h)

  -- what a run has met, from the deadlines and the demands that it met by its own demand
  pub met-published : (v : Version) (ticks : ℕ) → ticks ≤ MOST_TICKS → IsAdmitted p → IsMetRun kind demand (run_for p d ticks)
      → HasMet v kind (run_for p d ticks)
  met-published v ticks low_ticks adm own_met =
      let met : IsMet p dem (schedule_by p dem asked ticks) = subst (IsMet p dem) (same-ticks ticks) own_met.deadlines in
      record {
        admitted = adm.test;
        schedule = record {
          legal = (schedule_exists p dem asked ticks).0;
          whole = (schedule_exists p dem asked ticks).1;
          only = λ other legal whole. schedule_unique p dem asked other legal ∙ ap (schedule_by p dem asked) whole;
        };
        deadlines = met;
        told = text-tells p adm.limits v kind dem ticks low_ticks met;
        speeds = λ n t lt. met-there t (own_met.demands n t lt);
        lowest = λ fixed. lowest-enough p adm;
        exists = schedule_exists p;
        unique = schedule_unique p;
      }
