-- One walk over the notes of a schedule: a fact of each kind of note is a fact of all its notes. So none but the last is
-- the end, and each completion has a task of the plan and its job's demand.
use Rattle.std.proofs.Common.{◌≡◌, ℕ, zero, suc, ◌+◌, ◌<◌, ◌≤◌, Bool, true, false, List, [], ◌∷◌, length, flat_map, refl, arith, if◌then◌else◌, sym, subst, nat_eq, reverse}
use Rattle.std.specs.List.{AllByRecursion}
use Rattle.std.proofs.lemmas.Grind.{flat_map-append}
use Rattle.std.proofs.lemmas.Bool.Decides.{nat_tests}
use Rattle.dvs_base.specs.declared.note.Note.{Note}
use Rattle.dvs_base.specs.declared.note.Note.TheVariants.{Release, Done, Run, Idle, Speed, End}
use Rattle.dvs_base.specs.declared.note.Pos.{Pos}
use Rattle.grid_fraction.specs.Numbers.{list_below}
use Rattle.dvs_base.proofs.Lists.{each-append}
use Rattle.sched_model.specs.declared.holder.Holder.{Holder}
use Rattle.sched_model.specs.declared.holder.Holder.TheVariants.{Nobody, Held}
use Rattle.sched_model.specs.Plan.{Plan, count, point}
use Rattle.sched_model.specs.Jobs.{JobDemands, latest, releases_at}
use Rattle.sched_model.specs.Ticks.{PublishedDemand, Tick, exec}
use Rattle.sched_model.specs.Schedule.{IsScheduleBy}
use Rattle.sched_model.specs.Admission.{IsWithinLimits}
use Rattle.sched_model.specs.Notes.{Span, Piece, pieces_of, position_of, run_energy, idle_energy, release_notes, all_release_notes, had_by, pieces_notes, span_notes, notes_before_end, spans_of, spans_with, tick_units, notes_of}
use Rattle.sched_model.proofs.Spans.{notes-span, IsNow, IsLastSpan, by-spans, flat_map-last}
use Rattle.sched_model.proofs.PieceLemmas.{each-piece, total, total-pieces}
use Rattle.sched_model.specs.Decision.{is_decision}
use Rattle.sched_model.proofs.Units.{each-weaker, each-unit}

-- what holds of the notes of each number below n holds of the notes of all of them
each-flat : (P : Note → Type 0) (n : ℕ) (f : ℕ → List Note) → ((i : ℕ) → i < n → AllByRecursion P (f i))
    → AllByRecursion P (flat_map f (list_below n (λ i. i)))
each-flat P zero f h = tt
each-flat P (suc n) f h = grind (arith, nat_tests, flat_map-append, each-append, each-flat P n f (λ i lt. h i (omega (arith, lt))))

-- the position where unit number q of a span begins
abbrev pub at_unit : Plan → Span → ℕ → Pos
at_unit p s = position_of (length s.past) ((point p s.entry).speed)

module _ (p : Plan) (dem : JobDemands) (ask : PublishedDemand) where
  -- a fact of each kind of note of a span whose units have such holders
  pub record EachNote (P : Note → Type 0) (IsHolder : Holder → Type 0) (s : Span) : Type 0 where
    pub release : (i : ℕ) → i < count p → P (Release (length s.past) i (latest p i (length s.past)))
    pub empty : (i : ℕ) → i < count p → dem i (latest p i (length s.past)) ≡ 0
        → P (Done (record { tick = length s.past; offset = 0 }) i (latest p i (length s.past)) 0)
    pub decision : P (Speed (length s.past) ((point p s.entry).speed) ((ask s.past).num) ((ask s.past).den))
    pub idle : (q units : ℕ) → q + units ≤ length s.units → P (Idle (at_unit p s q) (at_unit p s (q + units)) units (idle_energy p s.entry units))
    pub run : (q units i k : ℕ) → q + units ≤ length s.units → IsHolder (Held i k)
        → P (Run (at_unit p s q) (at_unit p s (q + units)) i k units (run_energy p s.entry units))
    pub done : (q i k : ℕ) → q ≤ length s.units → IsHolder (Held i k) → had_by p s q i k ≡ dem i k → P (Done (at_unit p s q) i k (dem i k))

  module _ (P : Note → Type 0) (IsHolder : Holder → Type 0) (s : Span) (each : EachNote P IsHolder s) where
    releases-each : AllByRecursion P (all_release_notes p dem (length s.past))
    releases-each =
        each-flat P (count p) (release_notes p dem (length s.past))
        (λ i lt. go i lt (releases_at p i (length s.past)) (nat_eq (dem i (latest p i (length s.past))) 0) refl)
      where
        go : (i : ℕ) → i < count p → (a b : Bool) → nat_eq (dem i (latest p i (length s.past))) 0 ≡ b
            → AllByRecursion P (if a then Release (length s.past) i (latest p i (length s.past))
            ∷ (if b then Done (record { tick = length s.past; offset = 0 }) i (latest p i (length s.past)) 0 ∷ [] else []) else [])
        go i lt a b e = grind (arith, nat_tests)

    pieces-each : (q : ℕ) (rs : List Piece) → AllByRecursion (λ (r : Piece). IsHolder r.holder) rs → q + total rs ≤ length s.units
        → AllByRecursion P (pieces_notes p dem s q rs)
    pieces-each q [] held le = tt
    pieces-each q (r ∷ rs) held le = grind (arith, nat_tests, pieces-each (q + r.units) rs held.1 (omega (arith, le)))

    pub segments-each : AllByRecursion IsHolder s.units → AllByRecursion P (pieces_notes p dem s 0 (pieces_of s.units))
    segments-each held = pieces-each 0 (pieces_of s.units) (each-piece IsHolder s.units held) (omega (arith, total-pieces s.units))

    pub span-each : AllByRecursion IsHolder s.units → AllByRecursion P (span_notes p dem ask s)
    span-each held = grind (arith, nat_tests, each-append, releases-each, segments-each)

  pub none-each : (P : Note → Type 0) → AllByRecursion P (notes_before_end p dem ask [])
  unfolding notes_before_end
  none-each P = tt

  -- some first ticks of a schedule: they are no more, and no job has had more in them
  pub record AreFirst (first ticks : List Tick) : Type 0 where
    pub fewer : length first ≤ length ticks
    pub less : (i k : ℕ) → exec p first i k ≤ exec p ticks i k

  -- what holds of each kind of note of each span of a schedule holds of all its notes before the end
  pub each-note : (lim : IsWithinLimits p) (P : Note → Type 0) (ticks : List Tick)
      → ((x : Tick) (past : List Tick) (s : Span) → AreFirst (x ∷ past) ticks → IsLastSpan p dem ask x past s
      → EachNote P (IsNow p dem (length past)) s)
      → IsScheduleBy p dem ask ticks → AllByRecursion P (notes_before_end p dem ask ticks)
  each-note lim P ticks each h =
      by-spans p dem ask (λ first. AreFirst first ticks → AllByRecursion P (notes_before_end p dem ask first)) (λ first. none-each P)
      next ticks h (record { fewer = omega arith; less = λ i k. omega arith })
    where
      next : (x : Tick) (past : List Tick) (s : Span) → IsScheduleBy p dem ask (x ∷ past) → IsLastSpan p dem ask x past s
          → (AreFirst s.past ticks → AllByRecursion P (notes_before_end p dem ask s.past))
          → AreFirst (x ∷ past) ticks → AllByRecursion P (notes_before_end p dem ask (x ∷ past))
      next x past s sched l ih first =
          subst (AllByRecursion P) (sym (notes-span p dem ask (x ∷ past) s.past s l.spans))
          (each-append P (notes_before_end p dem ask s.past) (span_notes p dem ask s)
          (ih (record { fewer = omega (arith, first.fewer, l.shorter); less = λ i k. omega (arith, l.grew i k, first.less i k) }))
          (span-each P (IsNow p dem (length past)) s (each x past s first l) (l.now lim)))

-- the note isn't the end of a run; a completion has a task of the plan and its job's demand
abbrev pub IsBeforeEnd : Plan → JobDemands → Note → Type 0
IsBeforeEnd p dem (Done at_end i k used) = (i < count p) × (used ≡ dem i k)
IsBeforeEnd p dem (End ticks run idle) = ⊥
IsBeforeEnd p dem _ = Unit {0}

-- nobody, or a job of a task of the plan
abbrev IsOfPlan : Plan → Holder → Type 0
IsOfPlan p Nobody = Unit {0}
IsOfPlan p (Held i k) = i < count p

module _ (p : Plan) (dem : JobDemands) (ask : PublishedDemand) where
  abbrev AreOfPlan : List Span → Type 0
  AreOfPlan = AllByRecursion (λ (s : Span). AllByRecursion (IsOfPlan p) s.units)

  spans-held : (ticks : List Tick) → AreOfPlan (spans_of p dem ticks)
  spans-held [] = tt
  spans-held (x ∷ past) = go (is_decision p dem past) (spans_of p dem past) (spans-held past)
    where
      own : AllByRecursion (IsOfPlan p) (tick_units p past x)
      own = each-unit p past x (IsOfPlan p) (λ i lt some. lt) tt

      go : (b : Bool) (spans : List Span) → AreOfPlan spans
          → AreOfPlan (if b then record { past = past; entry = x.entry; units = tick_units p past x } ∷ spans else spans_with (tick_units p past x) spans)
      go true spans held = (own, held)
      go false [] held = tt
      go false (s ∷ spans) held = (each-append (IsOfPlan p) s.units (tick_units p past x) held.0 own, held.1)

  each-before : (s : Span) → EachNote p dem ask (IsBeforeEnd p dem) (IsOfPlan p) s
  each-before s = grind (arith, nat_tests)

  spans-before : (spans : List Span) → AreOfPlan spans → AllByRecursion (IsBeforeEnd p dem) (flat_map (span_notes p dem ask) (reverse spans))
  spans-before [] held = tt
  spans-before (s ∷ spans) held =
      subst (AllByRecursion (IsBeforeEnd p dem)) (sym (flat_map-last (span_notes p dem ask) s spans))
      (each-append (IsBeforeEnd p dem) (flat_map (span_notes p dem ask) (reverse spans)) (span_notes p dem ask s)
      (spans-before spans held.1) (span-each p dem ask (IsBeforeEnd p dem) (IsOfPlan p) s (each-before s) held.0))

  -- no note but the last is the end, and each completion has a task of the plan and its job's demand
  pub before-end-each : (ticks : List Tick) → AllByRecursion (IsBeforeEnd p dem) (notes_before_end p dem ask ticks)
  unfolding notes_before_end
  before-end-each ticks = spans-before (spans_of p dem ticks) (spans-held ticks)

  -- what holds of each note before the end, and of the end, holds of all notes
  pub notes-each : (P : Note → Type 0) → ((n : Note) → IsBeforeEnd p dem n → P n)
      → ((ticks run idle : ℕ) → P (End ticks run idle)) → (ticks : List Tick)
      → AllByRecursion P (notes_of p dem ask ticks)
  notes-each P before at_end ticks = grind (arith, nat_tests, each-append, each-weaker, before-end-each)
