-- The segments of a list of units that grows by a run of one holder, and their notes.
use Rattle.std.proofs.Common.{◌≡◌, ℕ, zero, suc, ◌+◌, ◌≤◌, false, List, [], ◌∷◌, ◌++◌, length, take, replicate, refl, arith, if◌then◌else◌, ap, ap₂, ◌∙◌, sym, append-nil, append_assoc, nat_eq}
use Rattle.std.specs.Prelude.{count_by}
use Rattle.std.proofs.lemmas.List.{take-append-le}
use Rattle.dvs_base.specs.declared.note.Note.TheVariants.{Run, Done}
use Rattle.sched_model.specs.declared.holder.Holder.{Holder}
use Rattle.sched_model.specs.declared.holder.Holder.TheVariants.{Nobody, Held}
use Rattle.sched_model.specs.Plan.{Plan, point}
use Rattle.sched_model.specs.Jobs.{JobDemands}
use Rattle.sched_model.specs.Ticks.{exec}
use Rattle.sched_model.specs.Notes.{same_holder, Span, Piece, pieces_of, position_of, run_energy, segment_notes, pieces_notes}
use Rattle.sched_model.proofs.PieceLemmas.{piece, same_holder-refl, with_unit, pieces_of-push, total}
use Rattle.event_kernel.specs.Segment.{span_with}

unit-snoc : (done : List Piece) (r : Piece) (h : Holder) → with_unit (done ++ r ∷ []) h ≡ done ++ with_unit (r ∷ []) h
unit-snoc [] r h = refl
unit-snoc (a ∷ []) r h = refl
unit-snoc (a ∷ b ∷ ds) r h = ap (λ xs. a ∷ xs) (unit-snoc (b ∷ ds) r h)

-- n more units of the last segment's holder make that segment longer by n
pub pieces_of-more : (n : ℕ) (us : List Holder) (done : List Piece) (h : Holder) (m : ℕ) → pieces_of us ≡ done ++ piece h m ∷ []
    → pieces_of (us ++ replicate n h) ≡ done ++ piece h (m + n) ∷ []
pieces_of-more zero us done h m e = ap pieces_of (append-nil us) ∙ (e ∙ ap (λ k. done ++ piece h k ∷ []) (omega arith))
pieces_of-more (suc n) us done h m e =
    ap pieces_of (sym (append_assoc us (h ∷ []) (replicate n h)))
    ∙ (pieces_of-more n (us ++ h ∷ []) done h (m + 1) one
    ∙ ap (λ k. done ++ piece h k ∷ []) (omega arith))
  where
    one : pieces_of (us ++ h ∷ []) ≡ done ++ piece h (m + 1) ∷ []
    one = pieces_of-push us h ∙ (ap (λ rs. with_unit rs h) e ∙ (unit-snoc done (piece h m) h ∙ (rw (same_holder-refl h) refl)))

-- units of another holder are a new segment
pub pieces_of-other : (n : ℕ) (us : List Holder) (done : List Piece) (r : Piece) (h : Holder) → pieces_of us ≡ done ++ r ∷ [] → same_holder r.holder h ≡ false
    → pieces_of (us ++ replicate (suc n) h) ≡ (done ++ r ∷ []) ++ piece h (suc n) ∷ []
pieces_of-other n us done r h e other =
    ap pieces_of (sym (append_assoc us (h ∷ []) (replicate n h)))
    ∙ (pieces_of-more n (us ++ h ∷ []) (done ++ r ∷ []) h 1 one
    ∙ ap (λ k. (done ++ r ∷ []) ++ piece h k ∷ []) (omega arith))
  where
    one : pieces_of (us ++ h ∷ []) ≡ (done ++ r ∷ []) ++ piece h 1 ∷ []
    one = pieces_of-push us h ∙ (ap (λ rs. with_unit rs h) e ∙ (unit-snoc done r h ∙ (rw other (sym (append_assoc done (r ∷ []) (piece h 1 ∷ []))))))

pub total-append : (rs qs : List Piece) → total (rs ++ qs) ≡ total rs + total qs
total-append [] qs = omega arith
total-append (r ∷ rs) qs = omega (arith, total-append rs qs)

-- the notes of two lists of segments are those of the first and then those of the second
pub pieces_notes-append : (p : Plan) (dem : JobDemands) (s : Span) (q : ℕ) (rs qs : List Piece)
    → pieces_notes p dem s q (rs ++ qs) ≡ pieces_notes p dem s q rs ++ pieces_notes p dem s (q + total rs) qs
pieces_notes-append p dem s q [] qs = ap (λ k. pieces_notes p dem s k qs) (omega arith)
pieces_notes-append p dem s q (r ∷ rs) qs =
    ap (λ ns. segment_notes p dem s q r.units r.holder ++ ns)
    (pieces_notes-append p dem s (q + r.units) rs qs
    ∙ ap (λ k. pieces_notes p dem s (q + r.units) rs ++ pieces_notes p dem s k qs) (omega arith))
    ∙ sym (append_assoc (segment_notes p dem s q r.units r.holder) (pieces_notes p dem s (q + r.units) rs) (pieces_notes p dem s (q + (r.units + total rs)) qs))

-- a segment's notes don't change as the span grows
segment_notes-grown : (p : Plan) (dem : JobDemands) (s : Span) (more : List Holder) (q u : ℕ) (h : Holder) → q + u ≤ length s.units
    → segment_notes p dem (span_with s more) q u h ≡ segment_notes p dem s q u h
segment_notes-grown p dem s more q u Nobody le = refl
segment_notes-grown p dem s more q u (Held i k) le =
    let same : take (q + u) (s.units ++ more) ≡ take (q + u) s.units = take-append-le (q + u) s.units more le in
    ap (λ had. Run (position_of (length s.past) ((point p s.entry).speed) q)
    (position_of (length s.past) ((point p s.entry).speed) (q + u)) i k u (run_energy p s.entry u)
    ∷ (if nat_eq had (dem i k) then Done (position_of (length s.past) ((point p s.entry).speed) (q + u)) i k (dem i k) ∷ [] else []))
    (ap (λ us. exec p s.past i k + count_by (same_holder (Held i k)) us) same)

pub pieces_notes-grown : (p : Plan) (dem : JobDemands) (s : Span) (more : List Holder) (q : ℕ) (rs : List Piece) → q + total rs ≤ length s.units
    → pieces_notes p dem (span_with s more) q rs ≡ pieces_notes p dem s q rs
pieces_notes-grown p dem s more q [] le = refl
pieces_notes-grown p dem s more q (r ∷ rs) le =
    ap₂ (λ a b. a ++ b) (segment_notes-grown p dem s more q r.units r.holder (omega arith)) (pieces_notes-grown p dem s more (q + r.units) rs (omega arith))
