-- Notes of which the first are kept.
use Rattle.std.proofs.Common.{◌≡◌, ℕ, zero, suc, ◌≤◌, List, [], ◌∷◌, ◌++◌, length, take, refl, ap, ◌∙◌, sym, append_assoc}
use Rattle.std.proofs.lemmas.List.{take_all, take-append-le}
use Rattle.dvs_base.specs.declared.note.Note.{Note}
use Rattle.event_kernel.specs.declared.notes.TheConstants.{MOST_NOTES}
use Rattle.event_kernel.specs.declared.span_trace.SpanTrace.{SpanTrace}
use Rattle.event_kernel.specs.SpanNotes.{kept_notes}
use Rattle.event_kernel.specs.Segment.{with_notes}

kept_notes-by : (n : ℕ) (xs ys : List Note) → take n (take n xs ++ ys) ≡ take n (xs ++ ys)
kept_notes-by zero xs ys = refl
kept_notes-by (suc n) [] ys = refl
kept_notes-by (suc n) (x ∷ xs) ys = ap (λ l. x ∷ l) (kept_notes-by n xs ys)

-- kept notes with more after them are kept like all of the notes
pub kept_notes-append : (xs ys : List Note) → kept_notes (kept_notes xs ++ ys) ≡ kept_notes (xs ++ ys)
kept_notes-append xs ys = kept_notes-by MOST_NOTES xs ys

-- few notes are all kept
pub kept_notes-all : (xs : List Note) → length xs ≤ MOST_NOTES → kept_notes xs ≡ xs
kept_notes-all xs le = take_all MOST_NOTES xs le

-- if there is no room, none is added
pub kept_notes-full : (xs ys : List Note) → length xs ≤ MOST_NOTES → MOST_NOTES ≤ length xs → xs ≡ kept_notes (xs ++ ys)
kept_notes-full xs ys le ge = sym (take-append-le MOST_NOTES xs ys ge ∙ take_all MOST_NOTES xs le)

-- notes that are added to kept ones are kept like all of the notes
pub kept_notes-then : (notes xs ys : List Note) → notes ≡ kept_notes xs → kept_notes (notes ++ ys) ≡ kept_notes (xs ++ ys)
kept_notes-then notes xs ys is = ap (λ l. kept_notes (l ++ ys)) is ∙ kept_notes-append xs ys

pub with-append : (trace : SpanTrace) (xs ys : List Note) → with_notes (with_notes trace xs) ys ≡ with_notes trace (xs ++ ys)
with-append trace xs ys =
    ap (λ ns. record { segment = trace.segment; notes = ns })
    (kept_notes-append (trace.notes ++ xs) ys ∙ ap kept_notes (append_assoc trace.notes xs ys))

-- a trace without notes is that trace with no notes added
pub with-none : (trace : SpanTrace) → trace.notes ≡ [] → trace ≡ with_notes trace []
with-none trace none =
    ap (λ ns. record { segment = trace.segment; notes = ns }) (none ∙ sym (ap (λ ns. kept_notes (ns ++ [])) none))
