-- The last span of a schedule: its decision, its ticks, its units, its notes, and what each job has had by its end.
use Rattle.std.proofs.Common.{◌≡◌, true, false, List, [], ◌∷◌, ◌++◌, reverse, flat_map, refl, ap, ◌∙◌, append-nil, ℕ, zero, suc, ◌+◌, ◌-◌, ◌*◌, ◌<◌, ◌≤◌, Bool, length, arith, if◌then◌else◌, sym, true≢false, ◌⊎◌, inl, inr, length-append, eq-or-lt_of_le}
use Rattle.std.proofs.lemmas.List.{reverse-append}
use Rattle.std.proofs.lemmas.Grind.{flat_map-append}
use Rattle.std.specs.Prelude.{count_by, cond}
use Rattle.std.specs.List.{AllByRecursion}
use Rattle.std.proofs.lemmas.List.Sums.{sum_by-cons}
use Rattle.std.proofs.lemmas.Bool.Decides.{nat_tests}
use Rattle.std.proofs.lemmas.Bool.{or_parts, false_from_ne_true}
use Rattle.grid_fraction.proofs.Counts.{count-append}
use Rattle.grid_fraction.proofs.Searches.{any_below-false}
use Rattle.freq_table.specs.Tables.{lowest_entry}
use Rattle.dvs_base.proofs.Lists.{each-append}
use Rattle.sched_model.specs.Plan.{Plan, count, point, period}
use Rattle.sched_model.specs.Jobs.{JobDemands, latest, releases_at, is_release}
use Rattle.sched_model.specs.Ticks.{PublishedDemand, Tick, exec}
use Rattle.sched_model.specs.Decision.{is_decision}
use Rattle.sched_model.specs.Notes.{Span, spans_of, spans_with, tick_units, span_notes, notes_before_end, same_holder}
use Rattle.sched_model.specs.declared.holder.Holder.{Holder}
use Rattle.sched_model.specs.declared.holder.Holder.TheVariants.{Nobody, Held}
use Rattle.sched_model.specs.Schedule.{entry_in_force, IsNext, IsScheduleBy}
use Rattle.sched_model.specs.Admission.{IsWithinLimits}
use Rattle.sched_model.proofs.JobLaws.{exec-none}
use Rattle.sched_model.proofs.States.{due_released, same_job}
use Rattle.sched_model.proofs.Limits.{every_period}
use Rattle.sched_model.proofs.Schedules.{force-within, share-legal}
use Rattle.sched_model.proofs.Units.{each-weaker, each-unit, units-had, units-long}

-- lists joined from the last element to the first one end with the list of the first element
pub flat_map-last : {A B : Type 0} (f : A → List B) (x : A) (xs : List A) → flat_map f (reverse (x ∷ xs)) ≡ flat_map f (reverse xs) ++ f x
flat_map-last f x xs = grind (arith, reverse-append (x ∷ []) xs, flat_map-append f (reverse xs) (x ∷ []), append-nil (f x))

pub notes-span : (p : Plan) (dem : JobDemands) (ask : PublishedDemand) (ticks past : List Tick) (s : Span)
    → spans_of p dem ticks ≡ s ∷ spans_of p dem past
    → notes_before_end p dem ask ticks ≡ notes_before_end p dem ask past ++ span_notes p dem ask s
unfolding notes_before_end
notes-span p dem ask ticks past s e = grind (arith, nat_tests, flat_map-last)

-- a span opens at a decision instant, and the ticks up to the next lengthen it
pub span-opens : (p : Plan) (dem : JobDemands) (x : Tick) (past : List Tick) → is_decision p dem past ≡ true
    → spans_of p dem (x ∷ past) ≡ record { past = past; entry = x.entry; units = tick_units p past x } ∷ spans_of p dem past
span-opens p dem x past e = rw e refl

pub span-grows : (p : Plan) (dem : JobDemands) (x : Tick) (past : List Tick) (s : Span) (before : List Tick) → is_decision p dem past ≡ false
    → spans_of p dem past ≡ s ∷ spans_of p dem before
    → spans_of p dem (x ∷ past) ≡ record { past = s.past; entry = s.entry; units = s.units ++ tick_units p past x } ∷ spans_of p dem before
span-grows p dem x past s before e h = rw e (ap (spans_with (tick_units p past x)) h)

-- nobody, or the latest job of a task at tick t, which needs something
abbrev pub IsNow : Plan → JobDemands → ℕ → Holder → Type 0
IsNow p dem t Nobody = Unit {0}
IsNow p dem t (Held i k) = (i < count p) × (k ≡ latest p i t) × (0 < dem i k)

-- if there is no decision, no job is released
pub none-released : (p : Plan) (dem : JobDemands) (past : List Tick) → is_decision p dem past ≡ false → (i : ℕ) → i < count p
    → releases_at p i (length past) ≡ false
none-released p dem [] e i lt = absurd (true≢false e)
none-released p dem (x ∷ past) e i lt =
    any_below-false (count p) (λ j. releases_at p j (length (x ∷ past))) (or_parts (is_release p (length (x ∷ past))) _ e).0 i lt

module _ (p : Plan) (dem : JobDemands) (periods : (i : ℕ) → 0 < period p i) where
  -- if no job of a task is released, its latest job stays
  pub stays-unreleased : (x : Tick) (past : List Tick) (i : ℕ) → releases_at p i (length (x ∷ past)) ≡ false
      → latest p i (length (x ∷ past)) ≡ latest p i (length past)
  stays-unreleased x past i none =
      same_job p dem periods x past i (false_from_ne_true _ (λ q. true≢false (sym (due_released p dem periods (x ∷ past) i true q) ∙ none)))

  -- the latest jobs stay if there is no decision
  pub stays : (x : Tick) (past : List Tick) → is_decision p dem (x ∷ past) ≡ false → (i : ℕ) → i < count p
      → latest p i (length (x ∷ past)) ≡ latest p i (length past)
  stays x past e i lt = stays-unreleased x past i (none-released p dem (x ∷ past) e i lt)

module _ (p : Plan) (dem : JobDemands) (ask : PublishedDemand) where
  abbrev speed_of : ℕ → ℕ
  speed_of e = (point p e).speed

  -- the last span of the ticks `past` and x after them; some facts of it need the limits of plans
  pub record IsLastSpan (x : Tick) (past : List Tick) (s : Span) : Type 0 where
    pub spans : spans_of p dem (x ∷ past) ≡ s ∷ spans_of p dem s.past
    pub decided : is_decision p dem s.past ≡ true
    pub earlier : IsScheduleBy p dem ask s.past
    pub shorter : length s.past ≤ length past
    pub entry : IsWithinLimits p → s.entry < length p.machine.points
    pub force : s.entry ≡ x.entry
    pub long : length s.units ≡ (length (x ∷ past) - length s.past) * speed_of s.entry
    pub grew : (i k : ℕ) → exec p s.past i k ≤ exec p past i k
    pub had : IsWithinLimits p → (i k : ℕ) → i < count p → 1 ≤ k
        → exec p (x ∷ past) i k ≡ exec p s.past i k + count_by (same_holder (Held i k)) s.units
    pub same : IsWithinLimits p → (i t : ℕ) → i < count p → length s.past ≤ t → t ≤ length past → latest p i t ≡ latest p i (length s.past)
    pub now : IsWithinLimits p → AllByRecursion (IsNow p dem (length past)) s.units

  units-now : (past : List Tick) (x : Tick) → IsNext p dem ask past x → AllByRecursion (IsNow p dem (length past)) (tick_units p past x)
  units-now past x next =
      each-unit p past x (IsNow p dem (length past))
      (λ i lt some. (lt, refl, omega (arith, some, share-legal p dem past ((point p x.entry).speed) x next.legal i lt))) tt

  pub opened : (x : Tick) (past : List Tick) → IsScheduleBy p dem ask past → IsNext p dem ask past x → is_decision p dem past ≡ true
      → IsLastSpan x past (record { past = past; entry = x.entry; units = tick_units p past x })
  opened x past h next e = grind (arith, nat_tests, span-opens, force-within, units-long, units-had, every_period, units-now)

  pub grows : (x y : Tick) (past : List Tick) (s : Span) → IsLastSpan y past s → IsScheduleBy p dem ask (x ∷ y ∷ past) → is_decision p dem (y ∷ past) ≡ false
      → IsLastSpan x (y ∷ past) (record { past = s.past; entry = s.entry; units = s.units ++ tick_units p (y ∷ past) x })
  grows x y past s l h e = record {
    spans = span-grows p dem x (y ∷ past) s s.past e l.spans;
    decided = l.decided;
    earlier = l.earlier;
    shorter = omega (arith, l.shorter);
    entry = l.entry;
    force = l.force ∙ same-entry;
    long =
        let speeds : speed_of x.entry ≡ speed_of s.entry = ap speed_of (sym (l.force ∙ same-entry)) in
        let more : length (x ∷ y ∷ past) - length s.past ≡ (length (y ∷ past) - length s.past) + 1 = omega (arith, l.shorter) in
        length-append s.units (tick_units p (y ∷ past) x)
        ∙ rw more (omega (arith, l.long, units-long p dem ask (y ∷ past) x h.1, speeds));
    grew = λ i k. omega (arith, l.grew i k);
    had = λ lim i k lt some_job.
        omega (
          arith,
          units-had p (y ∷ past) x (every_period p lim) i k lt some_job,
          l.had lim i k lt some_job,
          count-append (same_holder (Held i k)) s.units (tick_units p (y ∷ past) x),
        );
    same = λ lim i t lt low high. go lim i t lt low (eq-or-lt_of_le high);
    now = λ lim.
        each-append (IsNow p dem (length (y ∷ past))) s.units (tick_units p (y ∷ past) x)
        (each-weaker (IsNow p dem (length past)) (IsNow p dem (length (y ∷ past))) (later lim) s.units (l.now lim)) (units-now (y ∷ past) x h.1);
  }
    where
      same-entry : y.entry ≡ x.entry
      same-entry =
          h.0.1.entry ∙ (sym (ap (λ b. if b then lowest_entry p.machine (ask (y ∷ past)) else entry_in_force p dem ask past) e) ∙ sym h.1.entry)

      keeps : IsWithinLimits p → (i : ℕ) → i < count p → latest p i (length (y ∷ past)) ≡ latest p i (length past)
      keeps lim = stays p dem (every_period p lim) y past e

      go : IsWithinLimits p → (i t : ℕ) → i < count p → length s.past ≤ t → (t ≡ length (y ∷ past)) ⊎ (t < length (y ∷ past))
          → latest p i t ≡ latest p i (length s.past)
      go lim i t lt low (inl here) = ap (latest p i) here ∙ (keeps lim i lt ∙ l.same lim i (length past) lt l.shorter (omega arith))
      go lim i t lt low (inr before) = l.same lim i t lt low (omega arith)

      later : IsWithinLimits p → (h : Holder) → IsNow p dem (length past) h → IsNow p dem (length (y ∷ past)) h
      later lim Nobody now = tt
      later lim (Held i k) now = (now.0, now.1 ∙ sym (keeps lim i now.0), now.2)

  -- a schedule of at least one tick has a last span
  pub last-span : (x : Tick) (past : List Tick) → IsScheduleBy p dem ask (x ∷ past) → (s : Span) × IsLastSpan x past s
  last-span x [] h = (record { past = []; entry = x.entry; units = tick_units p [] x }, opened x [] tt h.1 refl)
  last-span x (y ∷ past) h = go (is_decision p dem (y ∷ past)) refl (last-span y past h.0)
    where
      go : (b : Bool) → is_decision p dem (y ∷ past) ≡ b → ((s : Span) × IsLastSpan y past s) → (s : Span) × IsLastSpan x (y ∷ past) s
      go true e l = (record { past = y ∷ past; entry = x.entry; units = tick_units p (y ∷ past) x }, opened x (y ∷ past) h.0 h.1 e)
      go false e l = (record { past = l.0.past; entry = l.0.entry; units = l.0.units ++ tick_units p (y ∷ past) x }, grows x y past l.0 l.1 h e)

  -- if job 0 of each task needs nothing, it holds no units, so the last span adds its units to what each job has had
  pub had-each : IsWithinLimits p → ((i : ℕ) → dem i 0 ≡ 0) → (x : Tick) (past : List Tick) (s : Span) → IsLastSpan x past s → (i k : ℕ) → i < count p
      → exec p (x ∷ past) i k ≡ exec p s.past i k + count_by (same_holder (Held i k)) s.units
  had-each lim needless x past s l i zero lt = omega (arith, exec-none p (x ∷ past) i, exec-none p s.past i, none s.units (l.now lim))
    where
      one : (h : Holder) → IsNow p dem (length past) h → ◌≡◌ {A = ℕ} (cond (same_holder (Held i 0) h) 1 0) 0
      one h now = grind (arith, nat_tests)

      none : (us : List Holder) → AllByRecursion (IsNow p dem (length past)) us → count_by (same_holder (Held i 0)) us ≡ 0
      none [] all = refl
      none (h ∷ us) all = omega (arith, sum_by-cons (λ u. cond (same_holder (Held i 0) u) 1 0) h us, one h all.0, none us all.1)
  had-each lim needless x past s l i (suc k) lt = l.had lim i (suc k) lt (omega arith)

  -- induction by spans: a fact of no ticks, which goes on from the ticks before a span to those with it, holds of each schedule
  pub by-spans : (P : List Tick → Type 0) → P []
      → ((x : Tick) (past : List Tick) (s : Span) → IsScheduleBy p dem ask (x ∷ past) → IsLastSpan x past s → P s.past → P (x ∷ past))
      → (ticks : List Tick) → IsScheduleBy p dem ask ticks → P ticks
  by-spans P none next ticks h = go (length ticks) ticks (omega arith) h
    where
      go : (n : ℕ) (ticks : List Tick) → length ticks ≤ n → IsScheduleBy p dem ask ticks → P ticks
      go n [] le h = none
      go zero (x ∷ past) le h = absurd (omega arith)
      go (suc n) (x ∷ past) le h =
          let (s, l) = last-span x past h in
          next x past s h l (go n s.past (omega (arith, le, l.shorter)) l.earlier)
