-- The notes of a governor's schedule fit: each span's into its buffer, and all into an account.
use Rattle.std.proofs.Common.{◌≡◌, ℕ, ◌+◌, ◌<◌, ◌≤◌, ◌^◌, List, ◌∷◌, length, arith, subst}
use Rattle.std.specs.Prelude.{sum_by}
use Rattle.std.specs.List.{AllByRecursion}
use Rattle.dvs_base.specs.declared.limits.TheConstants.{MOST_TICKS}
use Rattle.dvs_base.specs.declared.note.Note.{Note}
use Rattle.sched_model.specs.Plan.{Plan}
use Rattle.sched_model.specs.Jobs.{JobDemands}
use Rattle.sched_model.specs.Schedule.{IsScheduleBy}
use Rattle.sched_model.specs.Admission.{IsWithinLimits}
use Rattle.sched_model.specs.Notes.{span_notes, run_energy_told, idle_energy_told}
use Rattle.note_laws.proofs.FewNotes.{IsNoteIn, ticks-fit, last-fits}
use Rattle.governor.specs.Meanings.{OwnDemand}
use Rattle.governor.specs.Schedule.{ask_of, course}
use Rattle.event_kernel.specs.declared.notes.TheConstants.{MOST_NOTES}
use Rattle.event_kernel.specs.Tickwork.{tick_at, whole_span, notes_before}
use Rattle.event_kernel.proofs.Courses.{course-next, course-len, course-legal}
use Rattle.event_kernel.proofs.SpanSteps.{spans-whole}

-- the notes are of the plan's tasks, and the sums and the count over them fit into their numbers
pub record AreBooked (p : Plan) (notes : List Note) : Type 0 where
  pub each : AllByRecursion (IsNoteIn p) notes
  pub energy : sum_by run_energy_told notes + sum_by idle_energy_told notes < 2 ^ 120
  pub few : length notes < 2 ^ 63

-- the notes before tick t are of the plan's tasks and fit into an account, and those of its span fit into the buffer
pub record CourseFits (demand : OwnDemand) (p : Plan) (dem : JobDemands) (t : ℕ) : Type 0 where
  pub each : AllByRecursion (IsNoteIn p) (notes_before demand p dem t)
  pub span : length (span_notes p dem (ask_of demand p dem) (whole_span demand p dem t)) ≤ MOST_NOTES
  pub all : t ≤ MOST_TICKS → AreBooked p (notes_before demand p dem t)

pub course-fits : (demand : OwnDemand) (p : Plan) (dem : JobDemands) → IsWithinLimits p → ((i : ℕ) → dem i 0 ≡ 0) → (t : ℕ)
    → CourseFits demand p dem t
course-fits demand p dem limits none t =
    let ask = ask_of demand p dem in
    let long = course-len demand p dem t in
    let fit = ticks-fit p limits dem none ask (course demand p dem t) (course-legal demand p dem t) in
    let later : IsScheduleBy p dem ask (tick_at demand p dem t ∷ course demand p dem t) =
    subst (IsScheduleBy p dem ask) (course-next demand p dem t) (course-legal demand p dem (t + 1)) in
    record {
      each = fit.each;
      span = omega (
        arith,
        last-fits p limits dem none ask (tick_at demand p dem t) (course demand p dem t) (whole_span demand p dem t) _ later
            (spans-whole demand p dem t),
      );
      all = λ early. record {
        each = fit.each;
        energy = omega (arith, fit.low, long, early);
        few = omega (arith, fit.few, long, early);
      };
    }
