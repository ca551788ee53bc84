-- Sums over the notes of a schedule, tick by tick: what a tick adds to each.
use Rattle.std.proofs.Common.{◌≡◌, ◌≢◌, ℕ, zero, suc, ◌+◌, ◌*◌, ◌<◌, ◌≤◌, Bool, true, false, ◌&&◌, List, [], ◌∷◌, ◌++◌, length, take, replicate, refl, arith, if◌then◌else◌, ap, ap₂, ◌∙◌, sym, nat_eq, nat_le, append_assoc, append-nil, length-append}
use Rattle.std.specs.Prelude.{count_by, sum_by, flat_map, cond}
use Rattle.std.specs.List.{AllByRecursion}
use Rattle.std.proofs.Math.Seq.{take-append_seam}
use Rattle.std.proofs.lemmas.List.{length-replicate}
use Rattle.std.proofs.lemmas.List.Concat.{flat_map-append}
use Rattle.std.proofs.lemmas.List.Folds.{sum_by-replicate}
use Rattle.std.proofs.lemmas.List.Sums.{sum_by-cons, sum_by-append, sum_by_push}
use Rattle.std.proofs.lemmas.Bool.Decides.{nat_tests}
use Rattle.dvs_base.specs.declared.note.Note.{Note}
use Rattle.dvs_base.specs.declared.note.Note.TheVariants.{Release, Done, Run, Idle, Speed, End}
use Rattle.dvs_base.specs.declared.note.Pos.{Pos}
use Rattle.grid_fraction.specs.Numbers.{sum_below, list_below}
use Rattle.grid_fraction.proofs.Counts.{count-append, count-replicate}
use Rattle.grid_fraction.proofs.Sums.{sum_below-same, sum_below-add, sum_below-zero, sum_below-one}
use Rattle.sched_model.specs.declared.holder.Holder.{Holder}
use Rattle.sched_model.specs.declared.holder.Holder.TheVariants.{Nobody, Held}
use Rattle.sched_model.specs.Plan.{Plan, count, point}
use Rattle.sched_model.specs.Jobs.{JobDemands, latest, releases_at}
use Rattle.sched_model.specs.Ticks.{PublishedDemand, Tick, exec, is_done}
use Rattle.sched_model.specs.Decision.{completes_in, is_decision}
use Rattle.sched_model.specs.Schedule.{IsScheduleBy}
use Rattle.sched_model.specs.Admission.{IsWithinLimits}
use Rattle.sched_model.specs.Notes.{same_holder, Span, Piece, pieces_of, run_energy, idle_energy, all_release_notes, had_by, segment_notes, pieces_notes, tick_units, run_energy_told, idle_energy_told, notes_before_end, notes_of}
use Rattle.sched_model.specs.Totals.{is_finished}
use Rattle.sched_model.proofs.LevelSums.{sum_below-times}
use Rattle.sched_model.proofs.Limits.{every_period}
use Rattle.sched_model.proofs.Spans.{notes-span, IsNow, IsLastSpan, last-span, grows, opened, none-released, stays, had-each}
use Rattle.sched_model.proofs.PieceLemmas.{HaveUnits, have_units, laid, laid-pieces}
use Rattle.sched_model.proofs.Schedules.{exec-most}
use Rattle.sched_model.proofs.Walk.{EachNote, segments-each}

-- the note says that job k of task i completes
abbrev pub tells_done : ℕ → ℕ → Note → Bool
tells_done i k (Done at_end j l used) = nat_eq i j && nat_eq k l
tells_done i k _ = false

-- a function of tasks and jobs has one value if the tests of both numbers pass
pub same-numbers : (f : ℕ → ℕ → ℕ) (i j k l : ℕ) → (nat_eq i j && nat_eq k l) ≡ true → f j l ≡ f i k
same-numbers f i j k l e = grind (arith, nat_tests)

-- a sum over the lists of the numbers below n is the sum of the sums over each
pub sum-each : {A : Type 0} (f : A → ℕ) (lists : ℕ → List A) (n : ℕ)
    → sum_by f (flat_map lists (list_below n (λ i. i))) ≡ sum_below n (λ i. sum_by f (lists i))
sum-each f lists zero = refl
sum-each f lists (suc n) = grind (arith, nat_tests, flat_map-append, sum_by-append, sum-each f lists n)

-- 1 if the test is true, otherwise 0
abbrev pub one_if : Bool → ℕ
one_if b = if b then 1 else 0

-- the number of releases at tick t
abbrev pub releases : Plan → ℕ → ℕ
releases p t = sum_below (count p) (λ i. one_if (releases_at p i t))

-- the number of releases at tick t of jobs that need nothing
abbrev pub empty_jobs : Plan → JobDemands → ℕ → ℕ
empty_jobs p dem t = sum_below (count p) (λ i. one_if (releases_at p i t && nat_eq (dem i (latest p i t)) 0))

-- how many jobs complete in the tick x after `past`
abbrev pub completions : Plan → JobDemands → Tick → List Tick → ℕ
completions p dem x past = sum_below (count p) (λ i. one_if (completes_in p dem x past i))

-- the notes of the releases of tick t
module _ (p : Plan) (dem : JobDemands) (t : ℕ) (f : Note → ℕ) where
  abbrev released : ℕ → ℕ
  released i = one_if (releases_at p i t)

  -- 1 if task i releases a job that needs nothing, otherwise 0
  abbrev empty : ℕ → ℕ
  empty i = one_if (releases_at p i t && nat_eq (dem i (latest p i t)) 0)

  -- a sum over them, task by task
  pub release-sum : sum_by f (all_release_notes p dem t)
      ≡ sum_below (count p) (λ i. one_if (releases_at p i t) * f (Release t i (latest p i t))
      + one_if (releases_at p i t && nat_eq (dem i (latest p i t)) 0) * f (Done (record { tick = t; offset = 0 }) i (latest p i t) 0))
  release-sum = grind (arith, nat_tests, sum-each, sum_below-same)

  -- the sum if all releases add the same, and so do all completions with a release
  pub release-counts : (each done : ℕ) → ((i k : ℕ) → f (Release t i k) ≡ each)
      → ((i k : ℕ) → f (Done (record { tick = t; offset = 0 }) i k 0) ≡ done)
      → sum_by f (all_release_notes p dem t) ≡ each * releases p t + done * empty_jobs p dem t
  release-counts each done one last =
      omega (
        arith,
        release-sum,
        sum_below-same (count p) (λ i. released i * f (Release t i (latest p i t)) + empty i * f (Done (record { tick = t; offset = 0 }) i (latest p i t) 0))
            (λ i. each * released i + done * empty i)
            (λ i lt. omega (arith, ap (λ m. released i * m) (one i (latest p i t)), ap (λ m. empty i * m) (last i (latest p i t)))),
        sum_below-add (count p) (λ i. each * released i) (λ i. done * empty i),
        sum_below-times (count p) each released,
        sum_below-times (count p) done empty,
      )

-- 1 if what a job has had reaches its demand, otherwise 0
abbrev pub reached : ℕ → ℕ → ℕ
reached need had = if nat_le need had then 1 else 0

pub reached-all : (need had : ℕ) → need ≤ had → reached need had ≡ 1
reached-all need had le = let e : nat_le need had ≡ true = grind (arith, nat_tests) in rw e refl

pub reached-none : (need had : ℕ) → had < need → reached need had ≡ 0
reached-none need had lt = let e : nat_le need had ≡ false = grind (arith, nat_tests) in rw e refl

pub reached-up : (need had more : ℕ) → had ≤ more → reached need had ≤ reached need more
reached-up need had more le = grind (arith, nat_tests)

-- 1 if job k of task i has had its demand in these ticks, otherwise 0
abbrev pub done_by : Plan → JobDemands → ℕ → ℕ → List Tick → ℕ
done_by p dem i k ticks = reached (dem i k) (exec p ticks i k)

-- a unit weighs nothing
abbrev pub nothing : ℕ → Holder → ℕ
nothing e h = 0

pub none-weighs : (us : List Holder) → sum_by (λ h. 0) us ≡ 0
none-weighs [] = refl
none-weighs (u ∷ us) = omega (arith, sum_by-cons (λ (h : Holder). 0) u us, none-weighs us)

-- the completions of a job in a span
module _ (p : Plan) (dem : JobDemands) (s : Span) (i k : ℕ) where
  -- what the job has had after the units `us` of the span
  abbrev had_of : List Holder → ℕ
  had_of us = exec p s.past i k + count_by (same_holder (Held i k)) us

  had-more : (us : List Holder) (n : ℕ) (h : Holder) → had_of (us ++ replicate n h) ≡ had_of us + (if same_holder (Held i k) h then n else 0)
  had-more us n h = grind (arith, nat_tests, count-append, count-replicate)

  -- the notes of a segment have the completion if its units take the job to its demand
  segment-told : (front : List Holder) (u : ℕ) (h : Holder) → 0 < u → had_by p s (length front + u) i k ≡ had_of (front ++ replicate u h)
      → had_of (front ++ replicate u h) ≤ dem i k
      → count_by (tells_done i k) (segment_notes p dem s (length front) u h) + reached (dem i k) (had_of front)
      ≡ reached (dem i k) (had_of (front ++ replicate u h))
  segment-told front u Nobody some now most = grind (arith, had-more)
  segment-told front u (Held j l) some now most = grind (arith, had-more)

  pieces-told : (front : List Holder) (rs : List Piece) → HaveUnits rs → s.units ≡ front ++ laid rs → had_of s.units ≤ dem i k
      → count_by (tells_done i k) (pieces_notes p dem s (length front) rs) + reached (dem i k) (had_of front) ≡ reached (dem i k) (had_of s.units)
  pieces-told front [] some e most = omega (arith, ap (λ us. reached (dem i k) (had_of us)) (e ∙ append-nil front))
  pieces-told front (r ∷ rs) some e most = go long (pieces-told next rs some.1 units most)
    where
      next : List Holder
      next = front ++ replicate r.units r.holder

      long : length next ≡ length front + r.units
      long = omega (arith, length-append front (replicate r.units r.holder), length-replicate r.units r.holder)

      units : s.units ≡ next ++ laid rs
      units = e ∙ sym (append_assoc front (replicate r.units r.holder) (laid rs))

      now : had_by p s (length front + r.units) i k ≡ had_of next
      now = ap (λ q. had_of (take q s.units)) (sym long) ∙ ap had_of (ap (take (length next)) units ∙ take-append_seam next (laid rs))

      within : had_of next ≤ had_of s.units
      within = omega (arith, ap had_of units, count-append (same_holder (Held i k)) next (laid rs))

      go : length next ≡ length front + r.units
          → count_by (tells_done i k) (pieces_notes p dem s (length next) rs) + reached (dem i k) (had_of next) ≡ reached (dem i k) (had_of s.units)
          → count_by (tells_done i k) (pieces_notes p dem s (length front) (r ∷ rs)) + reached (dem i k) (had_of front)
          ≡ reached (dem i k) (had_of s.units)
      go long ih =
          omega (
            arith,
            ih,
            ap (λ q. count_by (tells_done i k) (pieces_notes p dem s q rs)) long,
            count-append (tells_done i k) (segment_notes p dem s (length front) r.units r.holder) (pieces_notes p dem s (length front + r.units) rs),
            segment-told front r.units r.holder some.0 now (omega (arith, within, most)),
          )

  -- a span's segments have the completion once if what the job has had rises to its demand in them, otherwise never
  pub units-told : had_of s.units ≤ dem i k
      → count_by (tells_done i k) (pieces_notes p dem s 0 (pieces_of s.units)) + reached (dem i k) (exec p s.past i k)
      ≡ reached (dem i k) (had_of s.units)
  units-told most =
      let none : had_of [] ≡ exec p s.past i k = omega arith in
      omega (arith, ap (reached (dem i k)) none, pieces-told [] (pieces_of s.units) (have_units s.units) (sym (laid-pieces s.units)) most)

-- a completion is of one of the first n tasks, and of its job
abbrev IsDoneOf : ℕ → (ℕ → ℕ) → Note → Type 0
IsDoneOf n job (Done at_end i k used) = (i < n) × (k ≡ job i)
IsDoneOf n job _ = Unit {0}

-- if the completions are of one job of each task, all completions are the sum of the completions of each
finished-each : (n : ℕ) (job : ℕ → ℕ) (notes : List Note) → AllByRecursion (IsDoneOf n job) notes
    → count_by is_finished notes ≡ sum_below n (λ i. count_by (tells_done i (job i)) notes)
finished-each n job [] all = sym (sum_below-zero n (λ i. 0) (λ i lt. refl))
finished-each n job (note ∷ notes) all =
    let own : ℕ → ℕ = λ i. cond (tells_done i (job i) note) 1 0 in
    let rest : ℕ → ℕ = λ i. count_by (tells_done i (job i)) notes in
    sum_by-cons (λ m. cond (is_finished m) 1 0) note notes
    ∙ (ap₂ (λ a b. a + b) (one note all.0) (finished-each n job notes all.1)
    ∙ (sym (sum_below-add n own rest)
    ∙ sum_below-same n (λ i. own i + rest i) (λ i. count_by (tells_done i (job i)) (note ∷ notes))
    (λ i lt. sym (sum_by-cons (λ m. cond (tells_done i (job i) m) 1 0) note notes))))
  where
    one : (note : Note) → IsDoneOf n job note → cond (is_finished note) 1 0 ≡ sum_below n (λ i. cond (tells_done i (job i) note) 1 0)
    one (Done at_end j l used) h =
        sym (sum_below-one n j (λ i. cond (nat_eq i j && nat_eq (job i) l) 1 0) h.0 (λ i lt ne. off i ne (nat_eq i j) refl) ∙ on)
      where
        off : (i : ℕ) → i ≢ j → (b : Bool) → nat_eq i j ≡ b → ◌≡◌ {A = ℕ} (cond (nat_eq i j && nat_eq (job i) l) 1 0) 0
        off i ne true e = absurd (ne (grind (arith, nat_tests)))
        off i ne false e = rw e refl

        on : ◌≡◌ {A = ℕ} (cond (nat_eq j j && nat_eq (job j) l) 1 0) 1
        on = grind (arith, nat_tests)
    one _ h = sym (sum_below-zero n (λ i. 0) (λ i lt. refl))

module _ (p : Plan) (dem : JobDemands) (ask : PublishedDemand) where
  abbrev notes : List Tick → List Note
  notes = notes_before_end p dem ask

  pub none-sum : (f : Note → ℕ) → sum_by f (notes_before_end p dem ask []) ≡ 0
  unfolding notes_before_end
  none-sum f = refl

  -- if there is no decision, the notes have no release
  none-at : (f : Note → ℕ) (past : List Tick) → is_decision p dem past ≡ false → sum_by f (all_release_notes p dem (length past)) ≡ 0
  none-at f past e = grind (arith, nat_tests, none-released, release-sum, sum_below-zero)

  -- the segments of a span add to `f` the weights of its units, and what `done` rises by from its beginning to its end;
  -- `done` looks at the jobs that are the latest at a tick
  pub record Measures (f : Note → ℕ) (weight : ℕ → Holder → ℕ) (done : ℕ → List Tick → ℕ) : Type 0 where
    pub segments : (x : Tick) (past : List Tick) (s : Span) → IsScheduleBy p dem ask (x ∷ past) → IsLastSpan p dem ask x past s
        → sum_by f (pieces_notes p dem s 0 (pieces_of s.units)) + done (length past) s.past
        ≡ sum_by (weight s.entry) s.units + done (length past) (x ∷ past)
    pub still : (y : Tick) (past ticks : List Tick) → is_decision p dem (y ∷ past) ≡ false → done (length (y ∷ past)) ticks ≡ done (length past) ticks

  module _ (f : Note → ℕ) where
    -- the measure of the note of the decision of a span
    abbrev decision : Span → ℕ
    decision s = f (Speed (length s.past) ((point p s.entry).speed) ((ask s.past).num) ((ask s.past).den))

    -- the last note of a schedule adds its own measure
    pub with-end : (ticks : List Tick)
        → sum_by f (notes_of p dem ask ticks)
        ≡ sum_by f (notes ticks) + f (End (length ticks) (sum_by run_energy_told (notes ticks)) (sum_by idle_energy_told (notes ticks)))
    with-end ticks = sum_by_push f (notes ticks) (End (length ticks) (sum_by run_energy_told (notes ticks)) (sum_by idle_energy_told (notes ticks)))

    pub span-sum : (x : Tick) (past : List Tick) (s : Span) → IsLastSpan p dem ask x past s
        → sum_by f (notes (x ∷ past))
        ≡ sum_by f (notes s.past) + sum_by f (all_release_notes p dem (length s.past)) + decision s + sum_by f (pieces_notes p dem s 0 (pieces_of s.units))
    span-sum x past s l = grind (arith, notes-span p dem ask (x ∷ past) s.past s l.spans, sum_by-append, sum_by-cons)

    -- the measure of the notes at the beginning of tick x: its releases, and a decision
    abbrev pub at_start : List Tick → Tick → ℕ
    at_start past x =
        sum_by f (all_release_notes p dem (length past))
        + one_if (is_decision p dem past) * f (Speed (length past) ((point p x.entry).speed) ((ask past).num) ((ask past).den))

    -- what tick x adds to the sum over the notes: the notes at its beginning, its units, and what is done in it
    pub next-sum : (weight : ℕ → Holder → ℕ) (done : ℕ → List Tick → ℕ) → Measures f weight done
        → (x : Tick) (past : List Tick) → IsScheduleBy p dem ask (x ∷ past)
        → sum_by f (notes (x ∷ past)) + done (length past) past
        ≡ sum_by f (notes past) + at_start past x + sum_by (weight x.entry) (tick_units p past x) + done (length past) (x ∷ past)
    next-sum weight done m x [] h =
        let s : Span = record { past = []; entry = x.entry; units = tick_units p [] x } in
        let l = opened p dem ask x [] tt h.1 refl in
        omega (arith, span-sum x [] s l, m.segments x [] s h l)
    next-sum weight done m x (y ∷ past) h = go (is_decision p dem (y ∷ past)) refl
      where
        go : (b : Bool) → is_decision p dem (y ∷ past) ≡ b
            → sum_by f (notes (x ∷ y ∷ past)) + done (length (y ∷ past)) (y ∷ past)
            ≡ sum_by f (notes (y ∷ past)) + at_start (y ∷ past) x + sum_by (weight x.entry) (tick_units p (y ∷ past) x)
            + done (length (y ∷ past)) (x ∷ y ∷ past)
        go true e =
            let s : Span = record { past = y ∷ past; entry = x.entry; units = tick_units p (y ∷ past) x } in
            let l = opened p dem ask x (y ∷ past) h.0 h.1 e in
            rw e (omega (arith, span-sum x (y ∷ past) s l, m.segments x (y ∷ past) s h l))
        go false e =
            let (s, l) = last-span p dem ask y past h.0 in
            let us : List Holder = tick_units p (y ∷ past) x in
            let longer : Span = record { past = s.past; entry = s.entry; units = s.units ++ us } in
            let k = grows p dem ask x y past s l h e in
            rw e (
            omega (
              arith,
              span-sum y past s l,
              span-sum x (y ∷ past) longer k,
              m.segments y past s h.0 l,
              m.segments x (y ∷ past) longer h k,
              m.still y past s.past e,
              m.still y past (y ∷ past) e,
              none-at f (y ∷ past) e,
              sum_by-append (weight s.entry) s.units us,
              ap (λ entry. sum_by (weight entry) us) k.force,
            )
            )

  -- the measure of a segment at an entry is its units times the weight of one of them there; that of a completion is 0
  pub record Weighs (f : Note → ℕ) (weight : ℕ → Holder → ℕ) : Type 0 where
    pub run : (from to : Pos) (i k units e : ℕ) → f (Run from to i k units (run_energy p e units)) ≡ units * weight e (Held i k)
    pub idle : (from to : Pos) (units e : ℕ) → f (Idle from to units (idle_energy p e units)) ≡ units * weight e Nobody
    pub done : (at_end : Pos) (i k used : ℕ) → f (Done at_end i k used) ≡ 0

  module _ (f : Note → ℕ) (weight : ℕ → Holder → ℕ) (w : Weighs f weight) (s : Span) where
    pieces-sum : (q : ℕ) (rs : List Piece) → sum_by f (pieces_notes p dem s q rs) ≡ sum_by (weight s.entry) (laid rs)
    pieces-sum q [] = refl
    pieces-sum q (r ∷ rs) = grind (arith, sum_by-append, sum_by-replicate, pieces-sum (q + r.units) rs)

  -- a sum over the notes of pieces, if a segment adds at most `each`, and a completion at most `done`
  pub pieces-most : (f : Note → ℕ) (each done : ℕ) → ((from to : Pos) (i k units energy : ℕ) → f (Run from to i k units energy) ≤ each)
      → ((from to : Pos) (units energy : ℕ) → f (Idle from to units energy) ≤ each) → ((at_end : Pos) (i k used : ℕ) → f (Done at_end i k used) ≤ done)
      → (s : Span) (q : ℕ) (rs : List Piece) → sum_by f (pieces_notes p dem s q rs) ≤ (each + done) * length rs
  pieces-most f each done run idle end s q [] = omega arith
  pieces-most f each done run idle end s q (r ∷ rs) = grind (arith, sum_by-append, pieces-most f each done run idle end s (q + r.units) rs)

  pub weights : (f : Note → ℕ) (weight : ℕ → Holder → ℕ) → Weighs f weight → Measures f weight (λ t ticks. 0)
  weights f weight w = grind (arith, nat_tests, laid-pieces, pieces-sum f weight w)

  -- a measure of only segments: it is 0 for releases and decisions
  pub record IsOfSegments (f : Note → ℕ) : Type 0 where
    pub release : (tick i k : ℕ) → f (Release tick i k) ≡ 0
    pub speed : (tick speed num den : ℕ) → f (Speed tick speed num den) ≡ 0

  -- a tick adds the weights of its units to the measure of the segments
  pub segments-next : (f : Note → ℕ) (weight : ℕ → Holder → ℕ) → Weighs f weight → IsOfSegments f
      → (x : Tick) (past : List Tick) → IsScheduleBy p dem ask (x ∷ past)
      → sum_by f (notes (x ∷ past)) ≡ sum_by f (notes past) + sum_by (weight x.entry) (tick_units p past x)
  segments-next f weight w o x past h =
      omega (
        arith,
        next-sum f weight (λ t ticks. 0) (weights f weight w) x past h,
        release-counts p dem (length past) f 0 0 (o.release (length past)) (λ i k. w.done (record { tick = length past; offset = 0 }) i k 0),
        ap (λ speed. one_if (is_decision p dem past) * speed) (o.speed (length past) ((point p x.entry).speed) ((ask past).num) ((ask past).den)),
      )

  -- the energies of segments, by the voltage of their entry
  abbrev pub running : ℕ → Holder → ℕ
  running e Nobody = 0
  running e (Held i k) = (point p e).millivolts * (point p e).millivolts * 1000

  abbrev pub idling : ℕ → Holder → ℕ
  idling e Nobody = (point p e).millivolts * (point p e).millivolts * p.machine.idle
  idling e (Held i k) = 0

  pub run-next : (x : Tick) (past : List Tick) → IsScheduleBy p dem ask (x ∷ past)
      → sum_by run_energy_told (notes (x ∷ past)) ≡ sum_by run_energy_told (notes past) + sum_by (running x.entry) (tick_units p past x)
  run-next =
      segments-next run_energy_told running
      (record { run = λ from to i k units e. omega arith; idle = λ from to units e. omega arith; done = λ at_end i k used. refl })
      (record { release = λ tick i k. refl; speed = λ tick speed num den. refl })

  pub idle-next : (x : Tick) (past : List Tick) → IsScheduleBy p dem ask (x ∷ past)
      → sum_by idle_energy_told (notes (x ∷ past)) ≡ sum_by idle_energy_told (notes past) + sum_by (idling x.entry) (tick_units p past x)
  idle-next =
      segments-next idle_energy_told idling
      (record { run = λ from to i k units e. omega arith; idle = λ from to units e. omega arith; done = λ at_end i k used. refl })
      (record { release = λ tick i k. refl; speed = λ tick speed num den. refl })

  -- the completions of one job
  pub tells-job : IsWithinLimits p → (i k : ℕ) → i < count p → 1 ≤ k → Measures (λ note. cond (tells_done i k note) 1 0) nothing (λ t. done_by p dem i k)
  tells-job lim i k lt some = record {
    segments = λ x past s h l.
        let now = l.had lim i k lt some in
        omega (
          arith,
          none-weighs s.units,
          units-told p dem s i k (omega (arith, now, exec-most p dem ask (x ∷ past) h i k lt)),
          ap (reached (dem i k)) now,
        );
    still = λ y past ticks e. refl;
  }

  -- how many of the jobs that are the latest at tick t have had their demand in these ticks
  abbrev pub all_done : ℕ → List Tick → ℕ
  all_done t ticks = sum_below (count p) (λ i. done_by p dem i (latest p i t) ticks)

  -- all completions, if job 0 of each task needs nothing
  pub tells-all : IsWithinLimits p → ((i : ℕ) → dem i 0 ≡ 0) → Measures (λ note. cond (is_finished note) 1 0) nothing all_done
  tells-all lim needless = record {
    segments = segments;
    still = λ y past ticks e. sum_below-same (count p) _ _ (λ i lt. ap (λ k. done_by p dem i k ticks) (stays p dem (every_period p lim) y past e i lt));
  }
    where
      segments : (x : Tick) (past : List Tick) (s : Span) → IsScheduleBy p dem ask (x ∷ past) → IsLastSpan p dem ask x past s
          → count_by is_finished (pieces_notes p dem s 0 (pieces_of s.units)) + all_done (length past) s.past
          ≡ sum_by (λ h. 0) s.units + all_done (length past) (x ∷ past)
      segments x past s h l =
          let told : List Note = pieces_notes p dem s 0 (pieces_of s.units) in
          let ends : ℕ → ℕ = λ i. count_by (tells_done i (job i)) told in
          let before : ℕ → ℕ = λ i. done_by p dem i (job i) s.past in
          omega (
            arith,
            none-weighs s.units,
            finished-each (count p) job told (segments-each p dem ask (IsDoneOf (count p) job) (IsNow p dem (length past)) s each (l.now lim)),
            sum_below-add (count p) ends before,
            sum_below-same (count p) (λ i. ends i + before i) (λ i. done_by p dem i (job i) (x ∷ past)) own,
          )
        where
          job : ℕ → ℕ
          job i = latest p i (length past)

          each : EachNote p dem ask (IsDoneOf (count p) job) (IsNow p dem (length past)) s
          each = grind (arith, nat_tests)

          own : (i : ℕ) → i < count p
              → count_by (tells_done i (job i)) (pieces_notes p dem s 0 (pieces_of s.units)) + done_by p dem i (job i) s.past
              ≡ done_by p dem i (job i) (x ∷ past)
          own i lt =
              let now = had-each p dem ask lim needless x past s l i (job i) lt in
              units-told p dem s i (job i) (omega (arith, now, exec-most p dem ask (x ∷ past) h i (job i) lt)) ∙ ap (reached (dem i (job i))) (sym now)

  -- the latest jobs that have had their demand after tick x are those before it and those that complete in it
  pub all_done-next : (x : Tick) (past : List Tick)
      → all_done (length past) (x ∷ past) ≡ all_done (length past) past + completions p dem x past
  all_done-next x past =
      sum_below-same (count p) (λ i. done_by p dem i (job i) (x ∷ past)) (λ i. done_by p dem i (job i) past + one_if (completes_in p dem x past i))
      (λ i lt. one i (is_done p dem past i (job i)) refl (is_done p dem (x ∷ past) i (job i)) refl)
      ∙ sum_below-add (count p) (λ i. done_by p dem i (job i) past) (λ i. one_if (completes_in p dem x past i))
    where
      job : ℕ → ℕ
      job i = latest p i (length past)

      one : (i : ℕ) (a : Bool) → is_done p dem past i (job i) ≡ a → (b : Bool) → is_done p dem (x ∷ past) i (job i) ≡ b
          → done_by p dem i (job i) (x ∷ past) ≡ done_by p dem i (job i) past + one_if (completes_in p dem x past i)
      one i a e b f = grind (arith, nat_tests)
