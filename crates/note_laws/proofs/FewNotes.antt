-- A span has few notes, a schedule has few compared with its released jobs, and no sum of energies is large.
use Rattle.std.proofs.Common.{◌≡◌, ℕ, ◌+◌, ◌-◌, ◌*◌, ◌<◌, ◌≤◌, ◌&&◌, List, [], ◌∷◌, length, refl, arith, ap, subst, nat_eq, length-append, zero, suc, Bool, true, false, ◌∙◌, sym, ◌++◌, sum_by, count_by, cond}
use Rattle.freq_table.specs.declared.limits.TheConstants.{TOP_SPEED}
use Rattle.std.specs.List.{AllByRecursion}
use Rattle.std.proofs.lemmas.List.Sums.{sum_by-cons}
use Rattle.dvs_base.specs.declared.limits.TheConstants.{MOST_TASKS}
use Rattle.dvs_base.specs.declared.note.Note.{Note}
use Rattle.dvs_base.specs.declared.note.Note.TheVariants.{Release, Speed, Run, Done, End, Idle}
use Rattle.grid_fraction.specs.Numbers.{sum_below, ceil_div}
use Rattle.grid_fraction.proofs.Sums.{sum_below-limit, sum_below-add, sum_below-le}
use Rattle.grid_fraction.proofs.Counts.{one-or-none, count-append}
use Rattle.sched_model.specs.Plan.{Plan, count, point, period, offset}
use Rattle.sched_model.specs.Jobs.{JobDemands, latest, releases_at, release, released_jobs}
use Rattle.sched_model.specs.Ticks.{PublishedDemand, Tick, share, exec}
use Rattle.sched_model.specs.Decision.{completes_in}
use Rattle.sched_model.specs.Schedule.{IsScheduleBy}
use Rattle.sched_model.specs.Admission.{IsWithinLimits}
use Rattle.sched_model.specs.Notes.{Span, spans_of, pieces_of, all_release_notes, pieces_notes, span_notes, run_energy_told, idle_energy_told, most_unit_energy, notes_before_end, notes_of}
use Rattle.sched_model.proofs.Limits.{energy-most, every_period}
use Rattle.sched_model.proofs.Spans.{notes-span, IsLastSpan, IsNow, last-span, by-spans}
use Rattle.sched_model.proofs.NoteSums.{one_if, release-counts, pieces-most, none-sum, running, idling, run-next, idle-next, releases, completions, span-sum, none-weighs, reached-up, done_by, tells-all, all_done-next}
use Rattle.sched_model.proofs.Units.{units-weight, shares-fit}
use Rattle.sched_model.proofs.Walk.{EachNote, each-note, IsBeforeEnd, before-end-each}
use Rattle.sched_model.proofs.SpanPieces.{LastHasFew, last-few}
use Rattle.std.proofs.lemmas.Bool.Decides.{nat_tests}
use Rattle.std.proofs.lemmas.Nat.{le-div}
use Rattle.grid_fraction.proofs.Ceilings.{ceil-at, ceil-mono}
use Rattle.sched_model.proofs.JobLaws.{release-none, latest-pos}
use Rattle.sched_model.specs.Totals.{is_released, is_finished, is_decided, totals_of}
use Rattle.note_laws.specs.LineCounts.{AreFew, HasFewNotes}
use Rattle.note_laws.proofs.CountLemmas.{adds, has-few}

-- a note before the `End` of a run, whose task, if it has one, is a task of the plan
abbrev pub IsNoteIn : Plan → Note → Type 0
IsNoteIn p (Release tick i k) = i < count p
IsNoteIn p (Run from to i k units energy) = i < count p
IsNoteIn p (Done at_end i k used) = i < count p
IsNoteIn p (End ticks run idle) = ⊥
IsNoteIn p _ = Unit {0}

-- the most notes of a span: two for each release, one for the decision, and two for each of its segments
abbrev pub span_most : ℕ
span_most = 4 * MOST_TASKS + 3

length-sum : {A : Type 0} (xs : List A) → length xs ≡ sum_by (λ x. 1) xs
length-sum [] = refl
length-sum {A = A} (x ∷ xs) = omega (arith, sum_by-cons (λ (y : A). 1) x xs, length-sum xs)

module _ (p : Plan) (lim : IsWithinLimits p) (dem : JobDemands) (needless : (i : ℕ) → dem i 0 ≡ 0) (ask : PublishedDemand) where
  -- the notes of the last span are at most `span_most`
  pub last-fits : (x : Tick) (past : List Tick) (s : Span) (spans : List Span) → IsScheduleBy p dem ask (x ∷ past)
      → spans_of p dem (x ∷ past) ≡ s ∷ spans → length (span_notes p dem ask s) ≤ span_most
  last-fits x past s spans h is =
      let segments = subst (LastHasFew p dem ask lim needless x past) is (last-few p dem ask lim needless x past h) in
      let told : List Note = pieces_notes p dem s 0 (pieces_of s.units) in
      omega (
        arith,
        length-append (all_release_notes p dem (length s.past))
            (Speed (length s.past) ((point p s.entry).speed) ((ask s.past).num) ((ask s.past).den) ∷ told),
        length-sum (all_release_notes p dem (length s.past)),
        release-counts p dem (length s.past) (λ note. 1) 1 1 (λ i k. refl) (λ i k. refl),
        sum_below-limit (count p) 1 _ (λ i lt. one-or-none (releases_at p i (length s.past))),
        sum_below-limit (count p) 1 _ (λ i lt. one-or-none (releases_at p i (length s.past) && nat_eq (dem i (latest p i (length s.past))) 0)),
        length-sum told,
        pieces-most p dem ask (λ note. 1) 1 1 (λ from to i k u e. omega arith) (λ from to u e. omega arith) (λ at_end i k u. omega arith)
            s 0 (pieces_of s.units),
        segments.few,
        sum_below-limit (count p) 1 (λ i. one_if (completes_in p dem x past i)) (λ i lt. one-or-none (completes_in p dem x past i)),
        lim.tasks.few,
      )

  each-in : (s : Span) (t : ℕ) → EachNote p dem ask (IsNoteIn p) (IsNow p dem t) s
  each-in s t = grind (arith, nat_tests)

  low-energy : (ticks : List Tick) → IsScheduleBy p dem ask ticks
      → sum_by run_energy_told (notes_before_end p dem ask ticks) + sum_by idle_energy_told (notes_before_end p dem ask ticks)
      ≤ most_unit_energy * (TOP_SPEED * length ticks)
  low-energy [] h = omega (arith, none-sum p dem ask run_energy_told, none-sum p dem ask idle_energy_told)
  low-energy (x ∷ past) h =
      let (s, l) = last-span p dem ask x past h in
      let entry : x.entry < length p.machine.points = subst (λ e. e < length p.machine.points) l.force (l.entry lim) in
      let mv : ℕ = (point p x.entry).millivolts in
      let low = (lim.machine.each x.entry entry).low_millivolts in
      let given : ℕ = sum_below (count p) (share x) in
      let idle : ℕ = (point p x.entry).speed - given in
      omega (
        arith,
        low-energy past h.0,
        run-next p dem ask x past h,
        idle-next p dem ask x past h,
        units-weight p past x (running p dem ask x.entry) (mv * mv * 1000) (λ i k. refl),
        units-weight p past x (idling p dem ask x.entry) 0 (λ i k. refl),
        energy-most given mv 1000 low (omega arith),
        energy-most idle mv p.machine.idle low lim.machine.low_idle,
        shares-fit p dem ask past x h.1,
        (lim.machine.each x.entry entry).low_speed,
      )

  abbrev AreFewNotes : List Tick → Type 0
  AreFewNotes ticks = length (notes_before_end p dem ask ticks) ≤ span_most * length ticks

  none-few : AreFewNotes []
  unfolding notes_before_end
  none-few = omega arith

  next-few : (x : Tick) (past : List Tick) (s : Span) → IsScheduleBy p dem ask (x ∷ past) → IsLastSpan p dem ask x past s
      → AreFewNotes s.past → AreFewNotes (x ∷ past)
  next-few x past s h l ih =
      omega (
        arith,
        ih,
        l.shorter,
        ap length (notes-span p dem ask (x ∷ past) s.past s l.spans),
        length-append (notes_before_end p dem ask s.past) (span_notes p dem ask s),
        last-fits x past s (spans_of p dem s.past) h l.spans,
      )

  -- the notes of these ticks are of the plan's tasks, few, and with at most the energy of `TOP_SPEED` units for each tick
  pub record AllFit (ticks : List Tick) : Type 0 where
    pub each : AllByRecursion (IsNoteIn p) (notes_before_end p dem ask ticks)
    pub few : length (notes_before_end p dem ask ticks) ≤ span_most * length ticks
    pub low : sum_by run_energy_told (notes_before_end p dem ask ticks) + sum_by idle_energy_told (notes_before_end p dem ask ticks)
        ≤ most_unit_energy * (TOP_SPEED * length ticks)

  pub ticks-fit : (ticks : List Tick) → IsScheduleBy p dem ask ticks → AllFit ticks
  ticks-fit ticks h = record {
    each = each-note p dem ask lim (IsNoteIn p) ticks (λ x past s first l. each-in s (length past)) h;
    few = by-spans p dem ask AreFewNotes none-few next-few ticks h;
    low = low-energy ticks h;
  }

-- a quotient rounded up is at least one more than a whole number that it exceeds
ceil-over : (q n d : ℕ) → 0 < d → q * d < n → suc q ≤ ceil_div n d
ceil-over q n d some over = le-div (suc q) (n + (d - 1)) d some (omega (arith, some, over))

release-at : (p : Plan) (i k : ℕ) → release p i (suc k) ≡ offset p i + k * period p i
unfolding release
release-at p i k = let e : suc k - 1 ≡ k = omega arith in rw e refl

-- the jobs of task i released before tick t, and one released at t, are all released before a later tick
released-more : (p : Plan) (i t later : ℕ) → 0 < period p i → t < later
    → ceil_div (t - offset p i) (period p i) + one_if (releases_at p i t) ≤ ceil_div (later - offset p i) (period p i)
released-more p i t later some lt = go (releases_at p i t) refl
  where
    go : (b : Bool) → releases_at p i t ≡ b
        → ceil_div (t - offset p i) (period p i) + one_if (releases_at p i t) ≤ ceil_div (later - offset p i) (period p i)
    go false e = rw e (omega (arith, ceil-mono (t - offset p i) (later - offset p i) (period p i) some (omega arith)))
    go true e = rw e (job (latest p i t) refl (grind (arith, nat_tests)))
      where
        job : (k : ℕ) → latest p i t ≡ k → release p i (latest p i t) ≡ t
            → ceil_div (t - offset p i) (period p i) + 1 ≤ ceil_div (later - offset p i) (period p i)
        job zero none here =
            let first : offset p i ≤ t = omega (arith, here, ap (release p i) none, release-none p i) in
            absurd (omega (arith, none, latest-pos p i t first))
        job (suc k) is here =
            let at : offset p i + k * period p i ≡ t = sym (release-at p i k) ∙ (ap (release p i) (sym is) ∙ here) in
            let whole : t - offset p i ≡ k * period p i = omega (arith, at) in
            let jobs : ceil_div (t - offset p i) (period p i) ≡ k =
            ap (λ n. ceil_div n (period p i)) whole ∙ ceil-at k (period p i) some in
            omega (arith, jobs, ceil-over k (later - offset p i) (period p i) some (omega (arith, at, lt)))

-- the jobs of all tasks released before tick t, and those released at t, are all released before a later tick
pub releases-more : (p : Plan) (t later : ℕ) → ((i : ℕ) → 0 < period p i) → t < later
    → released_jobs p t + releases p t ≤ released_jobs p later
releases-more p t later some lt =
    let jobs : ℕ → ℕ → ℕ = λ m i. ceil_div (m - offset p i) (period p i) in
    omega (
      arith,
      sum_below-add (count p) (jobs t) (λ i. one_if (releases_at p i t)),
      sum_below-le (count p) (λ i. jobs t i + one_if (releases_at p i t)) (jobs later)
          (λ i inside. released-more p i t later (some i) lt),
    )

-- a note of a segment
abbrev pub is_segment : Note → Bool
is_segment (Run from to i k units energy) = true
is_segment (Idle from to units energy) = true
is_segment _ = false

-- how many notes are of the four kinds; each note of a run but the last is of one of them
abbrev kinds : List Note → ℕ
kinds notes =
    count_by is_released notes + count_by is_finished notes + count_by is_decided notes + count_by is_segment notes

kinds-append : (xs ys : List Note) → kinds (xs ++ ys) ≡ kinds xs + kinds ys
kinds-append xs ys = grind (arith, nat_tests, count-append)

kinds-one : (p : Plan) (dem : JobDemands) (n : Note) → IsBeforeEnd p dem n → kinds (n ∷ []) ≡ 1
kinds-one p dem (End t run idle) h = absurd h
kinds-one p dem _ h = omega arith

kinds-length : (p : Plan) (dem : JobDemands) (notes : List Note) → AllByRecursion (IsBeforeEnd p dem) notes
    → length notes ≡ kinds notes
kinds-length p dem [] h = refl
kinds-length p dem (n ∷ notes) h =
    omega (arith, kinds-append (n ∷ []) notes, kinds-one p dem n h.0, kinds-length p dem notes h.1)

module _ (p : Plan) (dem : JobDemands) (ask : PublishedDemand) (lim : IsWithinLimits p)
    (needless : (i : ℕ) → dem i 0 ≡ 0) where
  abbrev notes : List Tick → List Note
  notes = notes_before_end p dem ask

  abbrev segments_in : List Note → ℕ
  segments_in = count_by is_segment

  -- the jobs that complete in the last tick are among the completions in the span's segments
  completed-told : (x : Tick) (past : List Tick) (s : Span) → IsScheduleBy p dem ask (x ∷ past) → IsLastSpan p dem ask x past s
      → completions p dem x past ≤ count_by is_finished (pieces_notes p dem s 0 (pieces_of s.units))
  completed-told x past s h l =
      let k : ℕ → ℕ = λ i. latest p i (length past) in
      omega (
        arith,
        (tells-all p dem ask lim needless).segments x past s h l,
        none-weighs s.units,
        all_done-next p dem ask x past,
        sum_below-le (count p) (λ i. done_by p dem i (k i) s.past) (λ i. done_by p dem i (k i) past)
            (λ i lt. reached-up (dem i (k i)) (exec p s.past i (k i)) (exec p past i (k i)) (l.grew i (k i))),
      )

  -- the segments over the notes of these ticks are at most the decisions and the completions
  abbrev AreFewSegments : List Tick → Type 0
  AreFewSegments ticks = segments_in (notes ticks) ≤ count_by is_decided (notes ticks) + count_by is_finished (notes ticks)

  none-segments : AreFewSegments []
  none-segments = omega (arith, none-sum p dem ask (λ note. cond (is_segment note) 1 0))

  next-segments : (x : Tick) (past : List Tick) (s : Span) → IsScheduleBy p dem ask (x ∷ past) → IsLastSpan p dem ask x past s
      → AreFewSegments s.past → AreFewSegments (x ∷ past)
  next-segments x past s h l ih =
      let few = subst (LastHasFew p dem ask lim needless x past) l.spans (last-few p dem ask lim needless x past h) in
      omega (
        arith,
        ih,
        few.few,
        span-sum p dem ask (λ note. cond (is_segment note) 1 0) x past s l,
        span-sum p dem ask (λ note. cond (is_decided note) 1 0) x past s l,
        span-sum p dem ask (λ note. cond (is_finished note) 1 0) x past s l,
        release-counts p dem (length s.past) (λ note. cond (is_segment note) 1 0) 0 0 (λ i k. refl) (λ i k. refl),
        pieces-most p dem ask (λ note. cond (is_segment note) 1 0) 1 0 (λ from to i k u e. omega arith) (λ from to u e. omega arith)
            (λ at_end i k u. omega arith) s 0 (pieces_of s.units),
        completed-told x past s h l,
      )

  few-releases : (ticks : List Tick) → IsScheduleBy p dem ask ticks → count_by is_released (notes ticks) ≤ released_jobs p (length ticks)
  few-releases [] h = omega (arith, none-sum p dem ask (λ note. cond (is_released note) 1 0))
  few-releases (x ∷ past) h =
      omega (
        arith,
        few-releases past h.0,
        (adds p dem ask lim needless x past h).released,
        releases-more p (length past) (length (x ∷ past)) (every_period p lim) (omega arith),
      )

  -- a release, a completion, two decisions and three segments for each job, and three more notes
  few-notes : (ticks : List Tick) → IsScheduleBy p dem ask ticks
      → length (notes_of p dem ask ticks) ≤ 7 * released_jobs p (length ticks) + 3
  few-notes ticks h =
      let last : Note = End (length ticks) (sum_by run_energy_told (notes ticks)) (sum_by idle_energy_told (notes ticks)) in
      let few : AreFew (totals_of (notes_of p dem ask ticks)) = has-few p lim dem needless ask ticks h in
      omega (
        arith,
        few-releases ticks h,
        by-spans p dem ask AreFewSegments none-segments next-segments ticks h,
        few.completions,
        few.two_each,
        length-append (notes ticks) (last ∷ []),
        kinds-length p dem (notes ticks) (before-end-each p dem ask ticks),
        count-append is_released (notes ticks) (last ∷ []),
        count-append is_finished (notes ticks) (last ∷ []),
        count-append is_decided (notes ticks) (last ∷ []),
      )

-- every schedule has few notes
pub has-few-notes : (p : Plan) → IsWithinLimits p → HasFewNotes p
has-few-notes p lim dem needless ask ticks h = omega (arith, few-notes p dem ask lim needless ticks h)
