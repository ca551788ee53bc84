-- A listener driven through a run: through the notes of its spans, and then through its `End`.
use Rattle.std.proofs.Common.{◌≡◌, ℕ, ◌≤◌, Result, Ok, Err, refl, sym, ◌∙◌, subst, arith, true≢false}
use Rattle.std.specs.Prelude.{IfOk, IsErr, OnOk, OnErr}
use Rattle.dvs_base.specs.declared.kind.GovernorKind.{GovernorKind}
use Rattle.dvs_base.specs.declared.note.Note.{Note}
use Rattle.dvs_base.specs.declared.note.Note.TheVariants.{End}
use Rattle.dvs_base.specs.declared.note.Totals.{Totals}
use Rattle.dvs_base.specs.Outside.{Rose}
use Rattle.sched_model.specs.Totals.{totals_of}
use Rattle.note_laws.specs.LineCounts.{AreFew}
use Rattle.governor.specs.Meanings.{OwnDemand}
use Rattle.event_kernel.specs.Heard.{HasBalked}
use Rattle.event_kernel.specs.Runs.{Run, notes_of_run}
use Rattle.event_kernel.specs.MetRun.{IsMetRun}
use Rattle.event_kernel.specs.Drives.{Drives}
use Rattle.event_kernel.specs.SpanNotes.{HeardAll, notes_before_end_of}
use Rattle.event_kernel.proofs.RunEnds.{early-balked, end-heard, end-balked}

module _ {L : Type 0} (heard balked : L → Note → L → Type 0) (stops : L → ℕ) (kind : GovernorKind) (demand : OwnDemand) (r : Run) where
  -- every note before the `End` was heard, and then the `End` was handed out as the result says
  pub drives-ended : {E : Type 0} (from mid to : L) {n : ℕ} {t : Totals} (result : Result Totals E)
      → n ≡ r.ticks → t ≡ totals_of (notes_of_run demand r) → AreFew t → IsMetRun kind demand r
      → HeardAll heard stops from mid (notes_before_end_of demand r)
      → IfOk result (λ x. x ≡ t) → OnOk result (heard mid (End n t.run t.idle) to)
      → OnErr result (balked mid (End n t.run t.idle) to) → stops mid ≤ stops to → OnErr result (Rose (stops mid) (stops to))
      → Drives heard balked stops kind demand r from to result
  drives-ended from mid to (Ok x) whole total few met left is last other later rose = record {
    totals = is ∙ total;
    few = subst AreFew (sym is) few;
    deadlines = met.deadlines;
    demands = met.demands;
    ran = end-heard demand r heard balked from mid to whole total refl left.0 last;
    broke_off = tt;
    never_falls = omega (arith, left.1, later);
    rose = tt;
  }
  drives-ended from mid to (Err e) whole total few met left is other last later rose = record {
    totals = tt;
    few = tt;
    deadlines = met.deadlines;
    demands = met.demands;
    ran = tt;
    broke_off = end-balked demand r heard balked from mid to whole total refl left.0 last;
    never_falls = omega (arith, left.1, later);
    rose = omega (arith, left.1, rose);
  }

  -- the listener stopped before the `End`
  pub drives-early : {E : Type 0} (from to : L) (result : Result Totals E) → IsErr result → IsMetRun kind demand r
      → HasBalked heard balked from (notes_before_end_of demand r) to × (stops from ≤ stops to) × Rose (stops from) (stops to)
      → Drives heard balked stops kind demand r from to result
  drives-early from to (Ok x) is met left = absurd (true≢false (sym is))
  drives-early from to (Err e) is met left = record {
    totals = tt;
    few = tt;
    deadlines = met.deadlines;
    demands = met.demands;
    ran = tt;
    broke_off = early-balked demand r heard balked from to to left.0;
    never_falls = left.1;
    rose = left.2;
  }
