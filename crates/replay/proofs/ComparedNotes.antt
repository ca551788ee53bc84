-- What a listener that compares the notes of a run has heard, and where it stopped.
use Rattle.std.proofs.Common.{◌≡◌, ◌+◌, ◌-◌, ◌≤◌, ℕ, Bool, true, false, inl, inr, List, [], ◌∷◌, ◌++◌, length, refl, if◌then◌else◌, ap, ap₂, ◌∙◌, sym, subst, true≢false, append-nil, arith}
use Rattle.std.specs.Prelude.{unwrap_or, Option, Some, None, Ok, Err}
use Rattle.dvs_base.specs.declared.note.Note.{Note}
use Rattle.dvs_base.specs.declared.note.Note.TheVariants.{Release, Speed, Run, Idle, Done, End}
use Rattle.sched_model.specs.Totals.{totals_of}
use Rattle.event_kernel.specs.Heard.{HasHeard, HasBalked}
use Rattle.trace_reader.specs.Traces.{TraceView, is_end, IsEnded}
use Rattle.trace_laws.proofs.OneEnd.{whole-prefix, schedule-ended}
use Rattle.replay.specs.Comparison.{same_note, IsOther, first_unequal, differs, unless_unequal, comparison}
use Rattle.replay.specs.declared.fault.ReplayFault.{ReplayFault}
use Rattle.governor.specs.Meanings.{OwnDemand}
use Rattle.governor.specs.Schedule.{ask_of}
use Rattle.event_kernel.specs.Runs.{Run as KernelRun, demands_of, run_ticks, notes_of_run}

-- a note is equal to itself
pub same-self : (n : Note) → same_note n n ≡ true
same-self (Release t i k) = grind arith
same-self (Speed t f num den) = grind arith
same-self (Run from to i k units energy) = grind arith
same-self (Idle from to units energy) = grind arith
same-self (Done q i k used) = grind arith
same-self (End t run idle) = grind arith

-- a list of notes differs nowhere from itself
pub unequal-self : (at : ℕ) (notes : List Note) → first_unequal at notes notes ≡ None
unequal-self at [] = refl
unequal-self at (n ∷ notes) = rw (same-self n) (unequal-self (at + 1) notes)

-- if notes end once and the first isn't the end, those after it end once
tail-once : (n : Note) (notes : List Note) → is_end n ≡ false → IsEnded (n ∷ notes) → IsEnded notes
tail-once n [] other h = absurd (true≢false (sym h ∙ other))
tail-once n (m ∷ notes) other h = h.1

module _ {L : Type 0} (rest : L → List Note) (wanted : L → Option Note) where
  -- the listener heard the next note of the trace
  abbrev pub HeardNext : L → Note → L → Type 0
  HeardNext a n b = rest a ≡ n ∷ rest b

  -- the listener heard another note in place of the trace's next one
  abbrev pub HeardOther : L → Note → L → Type 0
  HeardOther a n b = IsOther n (rest a) × (rest b ≡ rest a) × (wanted b ≡ Some n)

  heard-rest : (from : L) (notes : List Note) (to : L) → HasHeard HeardNext from notes to → rest from ≡ notes ++ rest to
  heard-rest from [] to h = ap rest h
  heard-rest from (n ∷ notes) to h = h.1 ∙ ap (λ (l : List Note). n ∷ l) (heard-rest h.0 notes to h.2)

  -- a listener that heard all notes of a run had these notes to compare with, and no more
  pub heard-same : (from : L) (notes : List Note) (to : L) → IsEnded notes → IsEnded (rest from)
      → HasHeard HeardNext from notes to → rest from ≡ notes
  heard-same from notes to once ends h =
      let all : rest from ≡ notes ++ rest to = heard-rest from notes to h in
      let none : rest to ≡ [] = whole-prefix notes (rest to) once (subst IsEnded all ends) in
      all ∙ (ap (λ (l : List Note). notes ++ l) none ∙ append-nil notes)

  -- a listener stopped at the first unequal note: the note wanted there, the note found, and the notes after that
  pub record StoppedAt (at : ℕ) (from : L) (notes : List Note) (to : L) : Type 0 where
    pub want : Note
    pub found : Note
    pub more : List Note
    pub wants : wanted to ≡ Some want
    pub finds : rest to ≡ found ∷ more
    pub short : length (rest to) ≤ length (rest from)
    pub differ : first_unequal at notes (rest from) ≡ Some (at + (length (rest from) - length (rest to)), want, found)

  stopped-here : (at : ℕ) (from : L) (n : Note) (notes : List Note) (to : L) (l : List Note) → rest from ≡ l
      → IsEnded l → HeardOther from n to → StoppedAt at from (n ∷ notes) to
  stopped-here at from n notes to [] is ends h = absurd ends
  stopped-here at from n notes to (m ∷ more) is ends h =
      let other : same_note m n ≡ false = subst (IsOther n) is h.0 in
      let left : rest to ≡ m ∷ more = h.1 ∙ is in
      record {
        want = n;
        found = m;
        more = more;
        wants = h.2;
        finds = left;
        short = rw h.1 (omega arith);
        differ =
            let long : length (rest to) ≡ length (rest from) = ap length h.1 in
            let place : at + (length (rest from) - length (rest to)) ≡ at = omega (arith, long) in
            ap (first_unequal at (n ∷ notes)) is ∙ (ap (λ (b : Bool). if b then first_unequal (at + 1) notes more else Some (at, n, m)) other
            ∙ ap (λ (place : ℕ). Some (place, n, m)) (sym place));
      }

  stopped-later : (at : ℕ) (from : L) (n : Note) (notes : List Note) (next to : L) → rest from ≡ n ∷ rest next
      → StoppedAt (at + 1) next notes to → StoppedAt at from (n ∷ notes) to
  stopped-later at from n notes next to is h =
      let long : length (rest from) ≡ length (rest next) + 1 = ap length is ∙ omega arith in
      let place : at + 1 + (length (rest next) - length (rest to)) ≡ at + (length (rest from) - length (rest to)) = omega (arith, long, h.short) in
      record {
        want = h.want;
        found = h.found;
        more = h.more;
        wants = h.wants;
        finds = h.finds;
        short = omega (arith, long, h.short);
        differ =
            ap (first_unequal at (n ∷ notes)) is ∙ (ap (λ (b : Bool). if b then first_unequal (at + 1) notes (rest next) else Some (at, n, n)) (same-self n)
            ∙ (h.differ ∙ ap (λ (place : ℕ). Some (place, h.want, h.found)) place));
      }

  -- a listener that balked at one of a run's notes stopped at the first unequal one
  pub balked-first : (at : ℕ) (from : L) (notes : List Note) (to : L) → IsEnded notes
      → IsEnded (rest from)
      → HasBalked HeardNext HeardOther from notes to → StoppedAt at from notes to
  balked-first at from [] to once ends h = absurd h
  balked-first at from (n ∷ notes) to once ends (inl here) = stopped-here at from n notes to (rest from) refl ends here
  balked-first at from (n ∷ []) to once ends (inr later) = absurd later.2
  balked-first at from (n ∷ m ∷ notes) to once ends (inr later) =
      stopped-later at from n (m ∷ notes) later.0 to later.1
      (balked-first (at + 1) later.0 (m ∷ notes) to once.1 (tail-once n (rest later.0) once.0 (subst IsEnded later.1 ends)) later.2)

  -- if a listener stopped, comparing the notes gives the refusal at the first two unequal ones
  pub stopped-compared : (tasks : ℕ) (t : TraceView) (from : L) (notes : List Note) (to : L) (w : Note) (why : ReplayFault)
      → rest from ≡ t.notes → StoppedAt 0 from notes to → wanted to ≡ Some w
      → ((found : Note) (more : List Note) → rest to ≡ found ∷ more → why ≡ differs tasks t (length t.notes - length (rest to)) w found)
      → Err why ≡ comparison tasks t notes
  stopped-compared tasks t from notes to w why is s wants told =
      let want : w ≡ s.want = ap (λ (o : Option Note). unwrap_or o w) (sym wants ∙ s.wants) in
      let long : length (rest from) ≡ length t.notes = ap length is in
      let place : length t.notes - length (rest to) ≡ 0 + (length (rest from) - length (rest to)) = omega (arith, long) in
      ap (λ (e : ReplayFault). Err e) (told s.found s.more s.finds ∙ ap₂ (λ (at : ℕ) (n : Note). differs tasks t at n s.found) place want)
      ∙ sym (ap (λ (l : List Note). unless_unequal tasks t (first_unequal 0 notes l)) (sym is) ∙ ap (unless_unequal tasks t) s.differ)

-- a trace compared with its own notes
pub compared-same : (tasks : ℕ) (t : TraceView) (notes : List Note) → t.notes ≡ notes
    → comparison tasks t notes ≡ Ok (totals_of notes)
compared-same tasks t notes is =
    subst (λ (l : List Note). comparison tasks t l ≡ Ok (totals_of l)) is
    (rw (unequal-self 0 t.notes) refl)

-- the run, by a governor's own demand; the trace; and the listener before and after
module _ {L : Type 0} (rest : L → List Note) (wanted : L → Option Note)
    (demand : OwnDemand) (run : KernelRun) (t : TraceView) (ended : IsEnded t.notes) (from to : L) (notes_are : rest from ≡ t.notes) where
  once : IsEnded (notes_of_run demand run)
  once =
      let dem = demands_of run.plan run.demands in
      schedule-ended run.plan dem (ask_of demand run.plan dem) (run_ticks demand run)

  ends : IsEnded (rest from)
  ends = subst IsEnded (sym notes_are) ended

  -- if the listener heard all notes, they are those of the trace
  pub run-same : HasHeard (HeardNext rest wanted) from (notes_of_run demand run) to → t.notes ≡ notes_of_run demand run
  run-same h = sym notes_are ∙ heard-same rest wanted from (notes_of_run demand run) to once ends h

  -- if the listener stopped, it stopped at the first unequal note
  pub run-stopped : HasBalked (HeardNext rest wanted) (HeardOther rest wanted) from (notes_of_run demand run) to
      → StoppedAt rest wanted 0 from (notes_of_run demand run) to
  run-stopped h = balked-first rest wanted 0 from (notes_of_run demand run) to once ends h
