-- The notes of a schedule have one end, the last note, so they aren't the beginning of other such notes.
use Rattle.std.proofs.lemmas.Bool.Decides.{nat_tests}
use Rattle.std.proofs.Common.{◌≡◌, false, List, [], ◌∷◌, ◌++◌, refl, ◌∙◌, sym, true≢false, arith}
use Rattle.dvs_base.specs.declared.note.Note.{Note}
use Rattle.sched_model.specs.Plan.{Plan}
use Rattle.sched_model.specs.Jobs.{JobDemands}
use Rattle.sched_model.specs.Ticks.{PublishedDemand, Tick}
use Rattle.sched_model.specs.Notes.{notes_of}
use Rattle.sched_model.proofs.Units.{each-weaker}
use Rattle.sched_model.proofs.Walk.{before-end-each}
use Rattle.trace_reader.specs.Traces.{IsEnded}
use Rattle.trace_reader.proofs.TraceTexts.{is-ended}

-- if notes are ended, and are so with more after them, there are no more
pub whole-prefix : (notes more : List Note) → IsEnded notes → IsEnded (notes ++ more) → more ≡ []
whole-prefix [] more once all = absurd once
whole-prefix (n ∷ []) [] once all = refl
whole-prefix (n ∷ []) (m ∷ more) once all = absurd (true≢false (sym once ∙ all.0))
whole-prefix (n ∷ m ∷ notes) more once all = whole-prefix (m ∷ notes) more once.1 all.1

-- the notes of a schedule end once
pub schedule-ended : (p : Plan) (dem : JobDemands) (ask : PublishedDemand) (ticks : List Tick)
    → IsEnded (notes_of p dem ask ticks)
schedule-ended p dem ask ticks = grind (arith, nat_tests, is-ended, each-weaker, before-end-each)
