-- A trace that was read of a file, and its comparison under a governor's own demand.
use Rattle.std.proofs.Common.{◌≡◌, ◌≢◌, ℕ, List, Option, Some, None, Result, Ok, Err, refl, ap, ◌∙◌, sym}
use Rattle.std.specs.Prelude.{IfErr}
use Rattle.dvs_base.specs.Checks.{IsUnlessMemory}
use Rattle.dvs_base.specs.declared.kind.GovernorKind.{GovernorKind}
use Rattle.dvs_base.specs.declared.note.Note.{Note}
use Rattle.dvs_base.specs.declared.note.Totals.{Totals}
use Rattle.sched_model.specs.Plan.{Plan, count}
use Rattle.sched_model.specs.Demand.{published}
use Rattle.sched_model.specs.Jobs.{JobDemands, demand_of, IsWithin}
use Rattle.sched_model.specs.Notes.{notes_of}
use Rattle.sched_model.specs.Schedule.{schedule_by}
use Rattle.sched_model.proofs.Schedules.{schedule_exists}
use Rattle.sched_model.proofs.AgreedDemands.{AgreeOnSchedules, same-schedule, same-notes}
use Rattle.governor.specs.Meanings.{OwnDemand}
use Rattle.governor.specs.Schedule.{ask_of, Publishes}
use Rattle.trace_reader.specs.Traces.{TraceView}
use Rattle.replay_laws.specs.FixedDemands.{fixed_of}
use Rattle.replay_laws.specs.OwnList.{ticks_by, notes_by}
use Rattle.replay_laws.proofs.OwnDemands.{fixed-within}
use Rattle.replay.specs.Comparison.{comparison}
use Rattle.replay.specs.Replays.{first_over, too_many, unless, own_notes, replay_of, IsCause}
use Rattle.replay.specs.declared.fault.ReplayFault.{ReplayFault}
use Rattle.replay.specs.declared.fault.ReplayFault.TheVariants as replay_fault
use Rattle.replay.proofs.FixedByNotes.{over-fit}
use Rattle.rtdvs_top.specs.Trace.{replay_status, totals_at}
use Rattle.statuses.specs.Status.{OfLoad, IsShown}
use Rattle.statuses.specs.Steps.{EndsWith, IsTestStep}
use Rattle.statuses.specs.Refused.{or_status}

-- a refusal of a replay ends the comparison
replay-ends : (p : Plan) (t : TraceView) (e : ReplayFault)
    → (e ≢ replay_fault.NoMemory → totals_at (p, t) ≡ Err (replay_status e)) → EndsWith (totals_at (p, t)) (replay_status e)
replay-ends p t replay_fault.NoMemory h = tt
replay-ends p t e h = h (λ q. cc)

-- the answer under a governor's own demand, which is the published one on each schedule, is that under the published one
module _ (demand : OwnDemand) (kind : GovernorKind) (p : Plan) (publishes : Publishes demand kind p) where
  module _ (dem : JobDemands) (within : IsWithin p dem) where
    pub agree : AgreeOnSchedules p dem (ask_of demand p dem) (published p kind dem)
    agree ask past h = sym (publishes dem within ask past h)

    pub same-ticks : (ticks : ℕ) → ticks_by p (ask_of demand p) dem ticks ≡ ticks_by p (published p kind) dem ticks
    same-ticks = same-schedule p dem (ask_of demand p dem) (published p kind dem) agree

    pub same-run : (ticks : ℕ) → notes_by p (ask_of demand p) dem ticks ≡ notes_by p (published p kind) dem ticks
    same-run ticks =
        let own = ask_of demand p dem in
        let asked = published p kind dem in
        same-notes p dem own asked agree own (schedule_by p dem own ticks) (schedule_exists p dem own ticks).0
        ∙ ap (notes_of p dem asked) (same-ticks ticks)

  same-by : (t : TraceView) (o : Option ReplayFault) → first_over p t.notes ≡ o
      → unless o (unless (too_many p t.plan.ticks) (comparison (count p) t (own_notes p (ask_of demand p) t)))
      ≡ unless o (unless (too_many p t.plan.ticks) (comparison (count p) t (own_notes p (published p kind) t)))
  same-by t (Some why) over = refl
  same-by t None none =
      let within = fixed-within p t.notes (over-fit p t.notes none) in
      let notes = same-run (demand_of p (fixed_of p t.notes)) within t.plan.ticks in
      ap (λ (wanted : List Note). unless (too_many p t.plan.ticks) (comparison (count p) t wanted)) notes

  pub same-answer : (t : TraceView) → replay_of p (ask_of demand p) t ≡ replay_of p (published p kind) t
  same-answer t = same-by t (first_over p t.notes) refl

-- the answer of a replay under a governor's own demand is that of the comparison
governed-totals : (demand : OwnDemand) (kind : GovernorKind) (p : Plan) → Publishes demand kind p
    → (t : TraceView) → t.plan.governor ≡ kind → (r : Result Totals ReplayFault)
    → replay_of p (ask_of demand p) t ≡ r → totals_at (p, t) ≡ or_status replay_status r
unfolding totals_at
governed-totals demand kind p publishes t is r h =
    ap (λ (g : GovernorKind). or_status replay_status (replay_of p (published p g) t)) is
    ∙ ap (or_status replay_status) (sym (same-answer demand kind p publishes t) ∙ h)

-- what a replay shows, with its refusal as a status
replay-unloaded : (e : ReplayFault) → OfLoad (λ kind. ⊥) (replay_status e)
replay-unloaded replay_fault.NoMemory = tt
replay-unloaded e = tt

replay-shown : (e : ReplayFault) → IsCause e → IsShown (replay_status e)
replay-shown replay_fault.NoMemory h = tt
replay-shown e h = h

pub compared-as-status : (demand : OwnDemand) (kind : GovernorKind) (p : Plan) → Publishes demand kind p
    → (t : TraceView) → t.plan.governor ≡ kind → (r : Result Totals ReplayFault)
    → IsUnlessMemory replay_fault.NoMemory (λ (totals : Totals). totals) r (replay_of p (ask_of demand p) t) → IfErr r IsCause
    → IsTestStep (totals_at (p, t)) (or_status replay_status r) (λ totals. totals)
compared-as-status demand kind p publishes t is (Ok totals) answer cause =
    record { gives = governed-totals demand kind p publishes t is (Ok totals) answer; refused = tt; loads = tt; shown = tt }
compared-as-status demand kind p publishes t is (Err why) answer cause = record {
  gives = tt;
  refused = replay-ends p t why (λ other. governed-totals demand kind p publishes t is (Err why) (answer other));
  loads = replay-unloaded why;
  shown = replay-shown why cause;
}
