-- Units of a holder come after those of the trace's segment: the notes and the trace are then those of the longer span.
use Rattle.std.proofs.Common.{◌≡◌, ℕ, zero, suc, ◌+◌, ◌<◌, ◌≤◌, Bool, true, false, not, ◌&&◌, List, [], ◌∷◌, ◌++◌, length, replicate, refl, arith, if◌then◌else◌, ap, ap₂, ◌∙◌, sym, subst, inl, inr, append-nil, append_assoc, length-append, nat_eq, nat_le, nat_lt}
use Rattle.std.specs.Prelude.{count_by}
use Rattle.std.proofs.lemmas.List.{take_all, length-replicate}
use Rattle.std.proofs.lemmas.Bool.Decides.{nat_tests}
use Rattle.dvs_base.specs.declared.note.Note.{Note}
use Rattle.dvs_base.specs.declared.note.Pos.{Pos}
use Rattle.dvs_base.specs.declared.note.Note.TheVariants.{Run, Speed, Done}
use Rattle.sched_model.specs.declared.holder.Holder.{Holder}
use Rattle.sched_model.specs.declared.holder.Holder.TheVariants.{Nobody, Held}
use Rattle.sched_model.specs.Plan.{Plan, count, point}
use Rattle.sched_model.specs.Jobs.{JobDemands, latest}
use Rattle.sched_model.specs.Ticks.{PublishedDemand, exec}
use Rattle.sched_model.specs.Notes.{same_holder, Span, Piece, pieces_of, position_of, run_energy, had_by, segment_notes, pieces_notes, all_release_notes}
use Rattle.sched_model.specs.States.{row_at, StateView}
use Rattle.sched_model.proofs.PieceLemmas.{piece, same_holder-eq, pieces_of-run, total, total-pieces}
use Rattle.event_kernel.specs.declared.segment.Segment.{Segment}
use Rattle.event_kernel.specs.declared.span_trace.SpanTrace.{SpanTrace}
use Rattle.event_kernel.specs.Segment.{span_with, notes_with, IsOpen, force_of, holder_notes, written_notes, after_segment, is_turn, with_units, after_units, HeldIn}
use Rattle.event_kernel.specs.SpanNotes.{kept_notes}
use Rattle.event_kernel.proofs.SpanBuffer.{kept_notes-then}
use Rattle.grid_fraction.proofs.Counts.{count-append}
use Rattle.event_kernel.specs.SpanTraces.{HeldNow, HoldsSpan}
use Rattle.event_kernel.proofs.Pieces.{pieces_of-more, pieces_of-other, total-append, pieces_notes-append, pieces_notes-grown}

-- the rows of a state show what the latest jobs have had
pub record Shows (p : Plan) (dem : JobDemands) (t : ℕ) (st : StateView) (used : ℕ → ℕ) : Type 0 where
  pub used_is : (i : ℕ) → i < count p → (row_at st i).used ≡ used i
  pub done_is : (i : ℕ) → i < count p → (row_at st i).done ≡ nat_le (dem i (latest p i t)) (used i)
  pub within : (i : ℕ) → i < count p → used i ≤ dem i (latest p i t)

test_same : (d u : ℕ) → u ≤ d → nat_le d u ≡ nat_eq u d
test_same d u le = grind (arith, nat_tests, le)

-- the holder of a tick's units is nobody, or has a row
pub held-in : (p : Plan) (t : ℕ) {n : ℕ} → n ≡ count p → (h : Holder) → HeldNow p t h → HeldIn n h
held-in p t same Nobody now = tt
held-in p t same (Held i k) now = omega (arith, same, now.0)

module _ (p : Plan) (dem : JobDemands) (ask : PublishedDemand) (t : ℕ) where
  -- the last segment's notes are those that the state's rows show
  pub tells : (s : Span) (used : ℕ → ℕ) (st : StateView) (q u : ℕ) (h : Holder) → HeldNow p t h → q + u ≡ length s.units
      → ((i : ℕ) → i < count p → exec p s.past i (latest p i t) + count_by (same_holder (Held i (latest p i t))) s.units ≡ used i)
      → Shows p dem t st used
      → segment_notes p dem s q u h ≡ holder_notes p st (position_of (length s.past) ((point p s.entry).speed)) s.entry q u h
  tells s used st q u Nobody taken place had shows = refl
  tells s used st q u (Held i k) taken place had shows =
      ap (λ ns. Run (at_unit q) (at_unit (q + u)) i k u (run_energy p s.entry u) ∷ ns)
      (subst (λ n. (if nat_eq (had_by p s (q + u) i n) (dem i n) then Done (at_unit (q + u)) i k (dem i n) ∷ [] else [])
      ≡ (if (row_at st i).done then Done (at_unit (q + u)) i k (row_at st i).used ∷ [] else []))
      (sym taken.1)
      (ap₂ (λ a b. if nat_eq a (dem i now) then Done (at_unit (q + u)) i k (dem i now) ∷ [] else b) whole refl
      ∙ (go (nat_eq (used i) (dem i now)) refl
      ∙ ap₂ (λ b n. if b then Done (at_unit (q + u)) i k n ∷ [] else []) (sym (test_same (dem i now) (used i) (shows.within i taken.0))
      ∙ sym (shows.done_is i taken.0)) (sym (shows.used_is i taken.0)))))
    where
      now : ℕ
      now = latest p i t

      at_unit : ℕ → Pos
      at_unit = position_of (length s.past) ((point p s.entry).speed)

      whole : had_by p s (q + u) i now ≡ used i
      whole = ap (λ us. exec p s.past i now + count_by (same_holder (Held i now)) us) (take_all (q + u) s.units (omega (arith, place))) ∙ had i taken.0

      go : (b : Bool) → nat_eq (used i) (dem i now) ≡ b
          → (if b then Done (at_unit (q + u)) i k (dem i now) ∷ [] else []) ≡ (if b then Done (at_unit (q + u)) i k (used i) ∷ [] else [])
      go true e = let same : dem i now ≡ used i = grind (arith, nat_tests) in rw same refl
      go false e = refl

  -- the notes with one more segment have that segment's notes after them
  pub notes-more : (s : Span) (done : List Piece) (r : Piece)
      → notes_with p dem ask s (done ++ r ∷ []) ≡ notes_with p dem ask s done ++ segment_notes p dem s (total done) r.units r.holder
  notes-more s done r =
      let speed : Note = Speed (length s.past) ((point p s.entry).speed) ((ask s.past).num) ((ask s.past).den) in
      ap (λ ns. all_release_notes p dem (length s.past) ++ speed ∷ ns)
      (pieces_notes-append p dem s 0 done (r ∷ [])
      ∙ ap (λ ns. pieces_notes p dem s 0 done ++ ns) (append-nil (segment_notes p dem s (0 + total done) r.units r.holder)
      ∙ (let here : 0 + total done ≡ total done = omega arith in ap (λ q. segment_notes p dem s q r.units r.holder) here)))
      ∙ sym (append_assoc (all_release_notes p dem (length s.past)) (speed ∷ pieces_notes p dem s 0 done)
      (segment_notes p dem s (total done) r.units r.holder))

  -- where the open segment begins
  pub open-start : (seg : Segment) (done : List Piece) (us : List Holder) → 0 < seg.units
      → pieces_of us ≡ done ++ piece seg.holder seg.units ∷ [] → seg.start + seg.units ≡ length us → total done ≡ seg.start
  open-start seg done us some e place =
      omega (arith, total-pieces us, ap total e, total-append done (piece seg.holder seg.units ∷ []), place)

  -- the trace after units of a holder holds the longer span
  pub enters : (s : Span) (used used' : ℕ → ℕ) (most : ℕ) (st : StateView) (h : Holder) (n : ℕ) (trace : SpanTrace) → 0 < n
      → HoldsSpan p dem ask t s used most trace → Shows p dem t st used
      → HeldNow p t h
      → ((i : ℕ) → i < count p → used i + count_by (same_holder (Held i (latest p i t))) (replicate n h) ≡ used' i)
      → HoldsSpan p dem ask t (span_with s (replicate n h)) used' (most + n) (after_units p st (force_of p s) h n trace)
  enters s used used' most st h zero trace some w shows now more = absurd (omega arith)
  enters s used used' most st h (suc m) trace some w shows now more = go w.segments
    where
      n : ℕ
      n = suc m

      longer : Span
      longer = span_with s (replicate n h)

      long : length longer.units ≡ length s.units + n
      long = omega (arith, length-append s.units (replicate n h), length-replicate n h)

      had : (i : ℕ) → i < count p → exec p s.past i (latest p i t) + count_by (same_holder (Held i (latest p i t))) longer.units ≡ used' i
      had i lt = omega (arith, count-append (same_holder (Held i (latest p i t))) s.units (replicate n h), w.had i lt, more i lt)

      -- the segments before have the same notes
      stable : (rs : List Piece) → total rs ≤ length s.units → notes_with p dem ask longer rs ≡ notes_with p dem ask s rs
      stable rs le =
          ap (λ ns. all_release_notes p dem (length s.past)
          ++ Speed (length s.past) ((point p s.entry).speed) ((ask s.past).num) ((ask s.past).den) ∷ ns)
          (pieces_notes-grown p dem s (replicate n h) 0 rs (omega (arith, le)))

      turned : Bool → SpanTrace
      turned b = with_units h n (if b then after_segment p st (force_of p s) trace else trace)

      -- the holder of the open segment has the units: the segment grows
      grows : is_turn trace h ≡ false → pieces_of longer.units ≡ w.done ++ piece h (trace.segment.units + n) ∷ [] → total w.done ≤ length s.units
          → HoldsSpan p dem ask t longer used' (most + n) (after_units p st (force_of p s) h n trace)
      grows is e le = subst (λ b. HoldsSpan p dem ask t longer used' (most + n) (turned b)) (sym is) (record {
        done = w.done;
        segments = inr (omega arith, e);
        place = omega (arith, w.place, long);
        taken = now;
        had = had;
        few = omega (arith, w.few, long);
        notes = w.notes ∙ ap kept_notes (sym (stable w.done le));
      })

      -- another holder has the units: the open segment ends
      turns : 0 < trace.segment.units → pieces_of s.units ≡ w.done ++ piece trace.segment.holder trace.segment.units ∷ []
          → (b : Bool) → same_holder trace.segment.holder h ≡ b
          → HoldsSpan p dem ask t longer used' (most + n) (after_units p st (force_of p s) h n trace)
      turns pos e true same =
          let like : trace.segment.holder ≡ h = same_holder-eq trace.segment.holder h same in
          let some_units : nat_lt 0 trace.segment.units ≡ true = grind (arith, nat_tests) in
          let start = open-start trace.segment w.done s.units pos e w.place in
          grows (ap₂ (λ a b. a && not b) some_units same)
          (pieces_of-more n s.units w.done h trace.segment.units (e ∙ ap (λ x. w.done ++ piece x trace.segment.units ∷ []) like))
          (omega (arith, start, w.place))
      turns pos e false other =
          let some_units : nat_lt 0 trace.segment.units ≡ true = grind (arith, nat_tests) in
          let r : Piece = piece trace.segment.holder trace.segment.units in
          let start = open-start trace.segment w.done s.units pos e w.place in
          subst (λ b. HoldsSpan p dem ask t longer used' (most + n) (turned b)) (sym (ap₂ (λ a b. a && not b) some_units other)) (record {
            done = w.done ++ r ∷ [];
            segments = inr (
              omega arith,
              pieces_of-other m s.units w.done r h e other
                  ∙ (let all : n ≡ 0 + n = omega arith in ap (λ k. (w.done ++ r ∷ []) ++ piece h k ∷ []) all),
            );
            place = omega (arith, w.place, long);
            taken = now;
            had = had;
            few = omega (arith, w.few, long);
            notes = kept_notes-then trace.notes (notes_with p dem ask s w.done) (written_notes p st (force_of p s) trace) w.notes
                ∙ ap kept_notes (sym (stable (w.done ++ r ∷ []) (omega (arith, start, w.place, total-append w.done (r ∷ [])))
                ∙ (notes-more s w.done r ∙ ap (λ ns. notes_with p dem ask s w.done ++ ns)
                (ap (λ q. segment_notes p dem s q trace.segment.units trace.segment.holder) start
                ∙ tells s used st trace.segment.start trace.segment.units trace.segment.holder w.taken w.place w.had shows))));
          })

      go : IsOpen trace.segment w.done s.units → HoldsSpan p dem ask t longer used' (most + n) (after_units p st (force_of p s) h n trace)
      go (inl q) =
          grows (ap (λ u. nat_lt 0 u && not (same_holder trace.segment.holder h)) q.2)
          (let same : n ≡ trace.segment.units + n = omega (arith, q.2) in
          ap (λ us. pieces_of (us ++ replicate n h)) q.0 ∙ (pieces_of-run m h ∙ ap₂ (λ ds k. ds ++ piece h k ∷ []) (sym q.1) same))
          (omega (arith, ap total q.1))
      go (inr q) = turns q.0 q.1 (same_holder trace.segment.holder h) refl
