-- Two published demands that agree on every schedule give one schedule, and its notes.
use Rattle.std.proofs.lemmas.Bool.Decides.{nat_tests}
use Rattle.std.proofs.Common.{◌≡◌, ℕ, zero, suc, List, [], ◌∷◌, ◌++◌, length, refl, if◌then◌else◌, ap, ap₂, ◌∙◌, sym, arith}
use Rattle.dvs_base.specs.declared.note.Note.{Note}
use Rattle.dvs_base.specs.declared.note.Note.TheVariants.{Speed}
use Rattle.grid_fraction.specs.declared.Frac.{Frac}
use Rattle.freq_table.specs.Tables.{lowest_entry}
use Rattle.sched_model.specs.Plan.{Plan, point}
use Rattle.sched_model.specs.Jobs.{JobDemands}
use Rattle.sched_model.specs.Ticks.{PublishedDemand, Tick}
use Rattle.sched_model.specs.Decision.{is_decision}
use Rattle.sched_model.specs.Schedule.{entry_in_force, IsScheduleBy, schedule_by}
use Rattle.sched_model.specs.Notes.{Span, pieces_of, all_release_notes, pieces_notes, notes_before_end, notes_of}
use Rattle.sched_model.proofs.Spans.{notes-span, IsLastSpan, by-spans}
use Rattle.sched_model.proofs.Schedules.{schedule_exists}

-- two demands are equal on each schedule; any demand may give its speeds
abbrev pub AgreeOnSchedules : Plan → JobDemands → PublishedDemand → PublishedDemand → Type 0
AgreeOnSchedules p dem a b = (ask : PublishedDemand) (past : List Tick) → IsScheduleBy p dem ask past → a past ≡ b past

module _ (p : Plan) (dem : JobDemands) (a b : PublishedDemand) (agree : AgreeOnSchedules p dem a b) where
  same-entry : (ask : PublishedDemand) (past : List Tick) → IsScheduleBy p dem ask past → entry_in_force p dem a past ≡ entry_in_force p dem b past
  same-entry ask [] h = ap (lowest_entry p.machine) (agree ask [] h)
  same-entry ask (x ∷ past) h =
      ap₂ (λ chosen kept. if is_decision p dem (x ∷ past) then chosen else kept) (ap (lowest_entry p.machine) (agree ask (x ∷ past) h))
      (same-entry ask past h.0)

  pub same-schedule : (t : ℕ) → schedule_by p dem a t ≡ schedule_by p dem b t
  unfolding schedule_by
  same-schedule zero = refl
  same-schedule (suc t) = grind (arith, nat_tests, same-entry, schedule_exists, same-schedule t)

  same-none : notes_before_end p dem a [] ≡ notes_before_end p dem b []
  unfolding notes_before_end
  same-none = refl

  same-before-end : (ask : PublishedDemand) (ticks : List Tick) → IsScheduleBy p dem ask ticks
      → notes_before_end p dem a ticks ≡ notes_before_end p dem b ticks
  same-before-end ask = by-spans p dem ask (λ ticks. notes_before_end p dem a ticks ≡ notes_before_end p dem b ticks) same-none next
    where
      next : (x : Tick) (past : List Tick) (s : Span) → IsScheduleBy p dem ask (x ∷ past) → IsLastSpan p dem ask x past s
          → notes_before_end p dem a s.past ≡ notes_before_end p dem b s.past
          → notes_before_end p dem a (x ∷ past) ≡ notes_before_end p dem b (x ∷ past)
      next x past s h l ih =
          let told : Frac → List Note = λ f. all_release_notes p dem (length s.past)
          ++ Speed (length s.past) ((point p s.entry).speed) f.num f.den ∷ pieces_notes p dem s 0 (pieces_of s.units) in
          notes-span p dem a (x ∷ past) s.past s l.spans
          ∙ (ap₂ (λ ns ms. ns ++ ms) ih (ap told (agree ask s.past l.earlier))
          ∙ sym (notes-span p dem b (x ∷ past) s.past s l.spans))

  pub same-notes : (ask : PublishedDemand) (ticks : List Tick) → IsScheduleBy p dem ask ticks → notes_of p dem a ticks ≡ notes_of p dem b ticks
  same-notes ask ticks h = grind (arith, nat_tests, same-before-end)
