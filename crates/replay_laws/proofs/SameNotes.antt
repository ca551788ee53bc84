-- Two demands that the ticks of a schedule don't distinguish: they have one state, the same decisions, one schedule and the
-- same notes.
use Rattle.std.proofs.Common.{◌≡◌, ◌<◌, ◌≤◌, ℕ, suc, Bool, true, false, List, ◌∷◌, length, refl, ap, ◌∙◌, sym, arith, ◌-◌, [], if◌then◌else◌, ap₂, not, ◌&&◌, ◌||◌, length-drop, ◌+◌, min, ◌⊎◌, inl, inr, zero, ◌++◌, take, drop, flat_map, nat_eq}
use Rattle.std.proofs.lemmas.Bool.Decides.{nat_tests}
use Rattle.std.proofs.Math.Logic.{⊎_elim, ⊎_map}
use Rattle.std.proofs.lemmas.Bool.{cases_lt, cases_Bool}
use Rattle.std.specs.Prelude.{count_by, sum_by}
use Rattle.std.specs.List.{AllByRecursion}
use Rattle.std.proofs.lemmas.List.{take-append-drop}
use Rattle.std.proofs.lemmas.Grind.{flat_map-append}
use Rattle.sched_model.specs.Plan.{Plan, count, worst, point}
use Rattle.sched_model.specs.Jobs.{JobDemands, latest_since, latest, due, last_release, is_release, releases_at}
use Rattle.sched_model.specs.Ticks.{Tick, exec, is_done, at, is_complete, wleft, share, units_left}
use Rattle.grid_fraction.proofs.Searches.{any_below-same}
use Rattle.freq_table.specs.Tables.{lowest_entry}
use Rattle.sched_model.specs.declared.state.Row.{Row}
use Rattle.sched_model.specs.Decision.{completes_in, is_decision}
use Rattle.sched_model.specs.Schedule.{entry_in_force, IsNext, IsScheduleBy}
use Rattle.sched_model.specs.States.{row_of, state_of}
use Rattle.sched_model.specs.Admission.{IsWithinLimits}
use Rattle.sched_model.proofs.Limits.{latest-early, every_period}
use Rattle.sched_model.proofs.Schedules.{exec-drop, share-legal}
use Rattle.grid_fraction.proofs.Tables.{table-same}
use Rattle.governor.specs.Meanings.{OwnDemand}
use Rattle.governor.specs.Schedule.{ask_of}
use Rattle.grid_fraction.proofs.Sums.{sum_below-same}
use Rattle.sched_model.specs.Priority.{stands_before, sum_before, sum_up_to, SharesOut, key_of}
use Rattle.sched_model.proofs.JobLaws.{exec-legal}
use Rattle.sched_model.proofs.LevelSums.{share-most, sum_where-mono}
use Rattle.sched_model.proofs.Allotments.{allotment_of, up_to-before}
use Rattle.dvs_base.specs.declared.note.Note.{Note}
use Rattle.dvs_base.specs.declared.note.Note.TheVariants.{Release, Speed, Run, Done, End}
use Rattle.grid_fraction.specs.declared.Frac.{Frac}
use Rattle.grid_fraction.specs.Numbers.{list_below}
use Rattle.grid_fraction.proofs.Counts.{count-append}
use Rattle.sched_model.specs.declared.holder.Holder.{Holder}
use Rattle.sched_model.specs.declared.holder.Holder.TheVariants.{Nobody, Held}
use Rattle.sched_model.specs.Notes.{same_holder, tick_units, Span, spans_with, spans_of, Piece, pieces_of, position_of, run_energy, release_notes, all_release_notes, had_by, segment_notes, pieces_notes, span_notes, run_energy_told, idle_energy_told, notes_before_end, notes_of}
use Rattle.sched_model.proofs.Spans.{notes-span, IsLastSpan, IsNow, by-spans}
use Rattle.sched_model.proofs.PieceLemmas.{each-piece}
use Rattle.sched_model.proofs.Units.{each-weaker}
use Rattle.replay_laws.specs.OwnList.{Asking}

-- a job that completes in the ticks needs the same by both demands, and one that doesn't needs more than it has had by
-- the other too
abbrev pub Indistinct : Plan → JobDemands → JobDemands → List Tick → ℕ → ℕ → Type 0
Indistinct p dem other ticks i k = (is_done p dem ticks i k ≡ true → dem i k ≡ other i k) × (is_done p dem ticks i k ≡ false → exec p ticks i k < other i k)

-- the ticks don't distinguish the demands of any job that is released before tick t, nor of job 0
abbrev pub Alike : Plan → JobDemands → JobDemands → List Tick → ℕ → Type 0
Alike p dem other ticks t = (i k : ℕ) → i < count p → latest_since p i k < t → Indistinct p dem other ticks i k

-- the published demand depends on the demands of finished jobs only
abbrev pub IsBlind : Plan → Asking → Type 0
IsBlind p ask = (dem other : JobDemands) (past : List Tick) → Alike p dem other past (suc (length past)) → ask dem past ≡ ask other past

-- a job whose demands are not distinguished needs the same by both, or by both more than it has had
equal-or-more : (p : Plan) (dem other : JobDemands) (ticks : List Tick) (i k : ℕ) → Indistinct p dem other ticks i k
    → (dem i k ≡ other i k) ⊎ ((exec p ticks i k < dem i k) × (exec p ticks i k < other i k))
equal-or-more p dem other ticks i k h = elim (cases_Bool (is_done p dem ticks i k)) [
  | inl e ↦ inl (h.0 e)
  | inr e ↦ inr ((let open_job : is_done p dem ticks i k ≡ false = e in grind (arith, nat_tests)), h.1 e)
]

-- the same jobs are finished by both demands
pub same-done : (p : Plan) (dem other : JobDemands) (past : List Tick) (i k : ℕ) → Indistinct p dem other past i k
    → is_done p dem past i k ≡ is_done p other past i k
same-done p dem other past i k h = grind (arith, nat_tests, equal-or-more p dem other past i k h)

-- earlier ticks, in which a job had had no more, don't distinguish its demands either
pub indistinct-before : (p : Plan) (dem other : JobDemands) (now past : List Tick) (i k : ℕ) → exec p past i k ≤ exec p now i k → Indistinct p dem other now i k
    → Indistinct p dem other past i k
indistinct-before p dem other now past i k grows h = (
  λ done. let still : is_done p dem now i k ≡ true = grind (arith, nat_tests, done, grows) in h.0 still,
  λ open_job. grind (arith, nat_tests, open_job, grows, equal-or-more p dem other now i k h),
)

-- earlier ticks don't distinguish the demands of the jobs that were released by then
pub alike-before : (p : Plan) (dem other : JobDemands) (now past : List Tick) (t s : ℕ) → s ≤ t → ((i k : ℕ) → i < count p → exec p past i k ≤ exec p now i k)
    → Alike p dem other now t → Alike p dem other past s
alike-before p dem other now past t s le grows h i k lt early = indistinct-before p dem other now past i k (grows i k lt) (h i k lt (omega (arith, early, le)))

-- the ticks before the last one don't distinguish the demands of the jobs that were released by then
pub alike-earlier : (p : Plan) (dem other : JobDemands) (x : Tick) (past : List Tick) (t s : ℕ) → s ≤ t
    → Alike p dem other (x ∷ past) t → Alike p dem other past s
alike-earlier p dem other x past t s le h = alike-before p dem other (x ∷ past) past t s le (λ i k lt. omega arith) h

module _ (p : Plan) (lim : IsWithinLimits p) (dem other : JobDemands) where
  -- ticks that don't distinguish the demands of what is released by tick t don't distinguish those of the latest job there
  latest-alike : (ticks : List Tick) (t : ℕ) → Alike p dem other ticks (suc t) → (i k : ℕ) → i < count p → k ≡ latest p i t
      → Indistinct p dem other ticks i k
  latest-alike ticks t h i k lt e = h i k lt (rw e (latest-early p lim i t lt))

  pub same-complete : (past : List Tick) → Alike p dem other past (suc (length past)) → (i : ℕ) → i < count p
      → is_complete p dem past i ≡ is_complete p other past i
  same-complete past h i lt =
      let k = latest p i (length past) in
      same-done p dem other past i k (latest-alike past (length past) h i k lt refl)

  -- a row depends on its job's demand only by whether the job is complete
  pub same-row : (past : List Tick) → Alike p dem other past (suc (length past)) → (i : ℕ) → i < count p → row_of p dem past i ≡ row_of p other past i
  same-row past h i lt =
      let k = latest p i (length past) in
      ap (λ (c : Bool). record { deadline = due p i k; job = k; used = exec p past i k; done = c; worst = worst p i }) (same-complete past h i lt)

  pub same-wleft : (past : List Tick) → Alike p dem other past (suc (length past)) → (i : ℕ) → i < count p → wleft p dem past i ≡ wleft p other past i
  same-wleft past h i lt =
      ap (λ (c : Bool). if c then 0 else worst p i - exec p past i (latest p i (length past))) (same-complete past h i lt)

  -- the ticks up to the last release don't distinguish the demands
  pub alike-marked : (past : List Tick) → Alike p dem other past (suc (length past))
      → let r = last_release p (length past) in Alike p dem other (at r past) (suc (length (at r past)))
  alike-marked past h =
      let r = last_release p (length past) in
      alike-before p dem other past (at r past) (suc (length past)) (suc (length (at r past)))
      (omega (arith, length-drop (length past - r) past))
      (λ i k lt. exec-drop p i k (length past - r) past)
      h

  -- both demands give the same state
  pub same-state : (past : List Tick) → Alike p dem other past (suc (length past)) → state_of p dem past ≡ state_of p other past
  same-state past h =
      let r = last_release p (length past) in
      ap₂ (λ (rows : List Row) (base : List ℕ). record { now = length past; rows = rows; base_at = r; base = base })
      (table-same (count p) (row_of p dem past) (row_of p other past) (same-row past h))
      (table-same (count p) (wleft p dem (at r past)) (wleft p other (at r past)) (same-wleft (at r past) (alike-marked past h)))

  -- the same jobs complete in the last tick by both demands
  pub same-completes : (x : Tick) (past : List Tick) → Alike p dem other (x ∷ past) (length (x ∷ past)) → (i : ℕ)
      → i < count p → completes_in p dem x past i ≡ completes_in p other x past i
  same-completes x past h i lt =
      let k = latest p i (length past) in
      let now = latest-alike (x ∷ past) (length past) h i k lt refl in
      let before : Indistinct p dem other past i k = indistinct-before p dem other (x ∷ past) past i k (omega arith) now in
      ap₂ (λ a b. not a && b) (same-done p dem other past i k before) (same-done p dem other (x ∷ past) i k now)

  -- the decisions are the same by both demands
  pub same-decision : (past : List Tick) → Alike p dem other past (length past) → is_decision p dem past ≡ is_decision p other past
  same-decision [] h = refl
  same-decision (x ∷ past) h =
      ap (λ b. is_release p (length (x ∷ past)) || b)
      (any_below-same (count p) (λ i. completes_in p dem x past i) (λ i. completes_in p other x past i)
      (same-completes x past h))

  -- the entry in force is the same by both demands
  pub same-entry : (ask : Asking) → IsBlind p ask → (past : List Tick) → Alike p dem other past (suc (length past))
      → entry_in_force p dem (ask dem) past ≡ entry_in_force p other (ask other) past
  same-entry ask blind [] h = ap (lowest_entry p.machine) (blind dem other [] h)
  same-entry ask blind (x ∷ past) h =
      ap₂ (λ (d : Bool) (e : ℕ × ℕ). if d then e.0 else e.1)
      (same-decision (x ∷ past) (λ i k lt early. h i k lt (omega (arith, early))))
      (ap₂ (λ (a b : ℕ). (a, b))
      (ap (lowest_entry p.machine) (blind dem other (x ∷ past) h))
      (same-entry ask blind past (alike-earlier p dem other x past (suc (length (x ∷ past))) (suc (length past)) (omega arith) h)))

-- a governor's published demand, as a function of the state, depends on the demands of finished jobs only
pub blind-own : (p : Plan) → IsWithinLimits p → (demand : OwnDemand) → IsBlind p (ask_of demand p)
blind-own p lim demand dem other past h = ap (demand p) (same-state p lim dem other past h)

-- the task needs the same by both, or was given less than it needs and no more than the other need
abbrev pub NeedsAlike : (need other given : ℕ → ℕ) → ℕ → Type 0
NeedsAlike need other given j = (need j ≡ other j) ⊎ ((given j < need j) × (given j ≤ other j))

-- a share by the order is one for the other needs too: a task with another need was cut short, so the room ends there
pub shares-alike : (n : ℕ) (key : ℕ → ℕ) (room : ℕ) (need other given : ℕ → ℕ) → SharesOut n key room need given
    → ((j : ℕ) → j < n → NeedsAlike need other given j) → SharesOut n key room other given
shares-alike n key room need other given h alike i lt = go (cases_lt (sum_up_to n key given i) room)
  where
    fits : (j : ℕ) → j < n → given j ≤ other j
    fits j l = ⊎_elim (λ e. omega (arith, e, share-most n key room need given h j l)) (λ c. c.1) (alike j l)

    least : sum_up_to n key given i ≤ sum_up_to n key other i
    least = omega (arith, sum_where-mono n (λ j. stands_before key j i) given other (λ j l b. fits j l), fits i lt)

    -- if some room is left after task j, it needs the same by both
    whole : (j : ℕ) → j < n → sum_up_to n key given j < room → need j ≡ other j
    whole j l more =
        let all : given j ≡ need j = omega (arith, more, h j l, allotment_of n key room need given h j l) in
        ⊎_elim (λ e. e) (λ c. absurd (omega (arith, all, c.0))) (alike j l)

    go : (sum_up_to n key given i < room) ⊎ (room ≤ sum_up_to n key given i) → sum_up_to n key given i ≡ min room (sum_up_to n key other i)
    go (inr full) = omega (arith, full, least, h i lt)
    go (inl more) = omega (arith, h i lt, more, before, whole i lt more)
      where
        before : sum_before n key need i ≡ sum_before n key other i
        before = sum_below-same n _ _ (λ j l. elim (cases_Bool (stands_before key j i)) [
          | inl e ↦ ap (λ (v : ℕ). if stands_before key j i then v else 0) (whole j l (omega (arith, more, up_to-before n key given j i l e)))
          | inr e ↦ rw e refl
        ])

module _ (p : Plan) (lim : IsWithinLimits p) (dem other : JobDemands) (none : (i : ℕ) → dem i 0 ≡ 0) (ask : Asking) (blind : IsBlind p ask) where
  -- the latest jobs need the same by both demands, or were given less than they need and no more than the other need
  needs-alike : (x : Tick) (past : List Tick) (f : ℕ) → SharesOut (count p) (key_of p.scheduler p (length past)) f (units_left p dem past) (share x)
      → Alike p dem other (x ∷ past) (length (x ∷ past)) → (i : ℕ) → i < count p → NeedsAlike (units_left p dem past) (units_left p other past) (share x) i
  needs-alike x past f legal h i lt =
      let k = latest p i (length past) in
      let had : exec p (x ∷ past) i k ≡ exec p past i k + share x i =
      exec-legal p dem x past i (every_period p lim i) (none i) (share-legal p dem past f x legal i lt) in
      ⊎_map (λ e. ap (λ n. n - exec p past i k) e) (λ more. (omega (arith, had, more.0), omega (arith, had, more.1)))
      (equal-or-more p dem other (x ∷ past) i k (latest-alike p lim dem other (x ∷ past) (length past) h i k lt refl))

  -- the tick may come next for the other demand too
  pub same-next : (x : Tick) (past : List Tick) → Alike p dem other (x ∷ past) (length (x ∷ past))
      → IsNext p dem (ask dem) past x → IsNext p other (ask other) past x
  same-next x past h next = record {
    one_share_each = next.one_share_each;
    entry = next.entry ∙ same-entry p lim dem other ask blind past (alike-earlier p dem other x past (length (x ∷ past)) (suc (length past)) (omega arith) h);
    legal = shares-alike (count p) (key_of p.scheduler p (length past)) ((point p x.entry).speed) (units_left p dem past) (units_left p other past) (share x)
        next.legal
        (needs-alike x past ((point p x.entry).speed) next.legal h);
  }

  -- the ticks are a schedule for the other demand too
  pub same-course : (ticks : List Tick) → Alike p dem other ticks (length ticks) → IsScheduleBy p dem (ask dem) ticks → IsScheduleBy p other (ask other) ticks
  same-course [] h sched = tt
  same-course (x ∷ past) h sched =
      (same-course past (alike-earlier p dem other x past (length (x ∷ past)) (length past) (omega arith) h) sched.0, same-next x past h sched.1)

-- two functions that agree on the numbers below n give one list for them
flat_map-same : (n : ℕ) (f g : ℕ → List Note) → ((i : ℕ) → i < n → f i ≡ g i) → flat_map f (list_below n (λ i. i)) ≡ flat_map g (list_below n (λ i. i))
flat_map-same zero f g h = refl
flat_map-same (suc n) f g h =
    flat_map-append f (list_below n (λ i. i)) (n ∷ [])
    ∙ (ap₂ (λ (ns ms : List Note). ns ++ (ms ++ [])) (flat_map-same n f g (λ i lt. h i (omega (arith, lt)))) (h n (omega arith))
    ∙ sym (flat_map-append g (list_below n (λ i. i)) (n ∷ [])))

-- what a job has had by the end of a span
abbrev pub had_in : Plan → Span → ℕ → ℕ → ℕ
had_in p s i k = exec p s.past i k + count_by (same_holder (Held i k)) s.units

-- a job has had at most as much within the span as by its end
pub had-most : (p : Plan) (s : Span) (q i k : ℕ) → had_by p s q i k ≤ had_in p s i k
had-most p s q i k =
    let parts : take q s.units ++ drop q s.units ≡ s.units = take-append-drop q s.units in
    omega (arith, ap (count_by (same_holder (Held i k))) parts, count-append (same_holder (Held i k)) (take q s.units) (drop q s.units))

module _ (p : Plan) (dem other : JobDemands) (s : Span) where
  -- the holder needs the same by both demands, or by both more than it has had by the end of the span
  abbrev EndsAlike : Holder → Type 0
  EndsAlike Nobody = Unit {0}
  EndsAlike (Held i k) = (dem i k ≡ other i k) ⊎ ((had_in p s i k < dem i k) × (had_in p s i k < other i k))

  segment-same : (q u : ℕ) (h : Holder) → EndsAlike h → segment_notes p dem s q u h ≡ segment_notes p other s q u h
  segment-same q u Nobody e = refl
  segment-same q u (Held i k) (inl e) =
      let at_unit = position_of (length s.past) ((point p s.entry).speed) in
      ap (λ (n : ℕ). Run (at_unit q) (at_unit (q + u)) i k u (run_energy p s.entry u)
      ∷ (if nat_eq (had_by p s (q + u) i k) n then Done (at_unit (q + u)) i k n ∷ [] else [])) e
  segment-same q u (Held i k) (inr more) =
      let most : had_by p s (q + u) i k ≤ had_in p s i k = had-most p s (q + u) i k in
      let off : nat_eq (had_by p s (q + u) i k) (dem i k) ≡ false = grind (arith, nat_tests, most, more.0) in
      let off_other : nat_eq (had_by p s (q + u) i k) (other i k) ≡ false = grind (arith, nat_tests, most, more.1) in
      rw (off, off_other) refl

  pub pieces-same : (q : ℕ) (rs : List Piece) → AllByRecursion (λ (r : Piece). EndsAlike r.holder) rs → pieces_notes p dem s q rs ≡ pieces_notes p other s q rs
  pieces-same q [] all = refl
  pieces-same q (r ∷ rs) all = ap₂ (λ (ns ms : List Note). ns ++ ms) (segment-same q r.units r.holder all.0) (pieces-same (q + r.units) rs all.1)

module _ (p : Plan) (lim : IsWithinLimits p) (dem other : JobDemands) where
  releases-same : (past : List Tick) → Alike p dem other past (suc (length past))
      → all_release_notes p dem (length past) ≡ all_release_notes p other (length past)
  releases-same past h = flat_map-same (count p) (release_notes p dem t) (release_notes p other t) (λ i lt.
      let k = latest p i t in
      let needs = equal-or-more p dem other past i k (latest-alike p lim dem other past t h i k lt refl) in
      let same : nat_eq (dem i k) 0 ≡ nat_eq (other i k) 0 = grind (arith, nat_tests, needs) in
      ap (λ (b : Bool). if releases_at p i t then Release t i k ∷ (if b then Done (record { tick = t; offset = 0 }) i k 0 ∷ [] else []) else []) same)
    where
      t : ℕ
      t = length past

  -- both demands have the same spans
  pub spans-same : (ticks : List Tick) → Alike p dem other ticks (length ticks) → spans_of p dem ticks ≡ spans_of p other ticks
  spans-same [] h = refl
  spans-same (x ∷ past) h =
      let before : Alike p dem other past (length past) = alike-earlier p dem other x past (length (x ∷ past)) (length past) (omega arith) h in
      ap₂ (λ (b : Bool) (spans : List Span). if b
      then record { past = past; entry = x.entry; units = tick_units p past x } ∷ spans
      else spans_with (tick_units p past x) spans)
      (same-decision p lim dem other past before)
      (spans-same past before)

  module _ (ask : Asking) (blind : IsBlind p ask) where
    module _ (x : Tick) (past : List Tick) (s : Span) (l : IsLastSpan p dem (ask dem) x past s) (h : Alike p dem other (x ∷ past) (length (x ∷ past))) where
      alike-then : (t : ℕ) → t ≤ length (x ∷ past) → Alike p dem other s.past t
      alike-then t le = alike-before p dem other (x ∷ past) s.past (length (x ∷ past)) t le (λ i k lt. omega (arith, l.grew i k)) h

      -- what a job has by the end of the span it has by the end of the ticks
      had-now : (i k : ℕ) → i < count p → (dem i 0 ≡ other i 0) → (dem i k ≡ other i k) ⊎ (had_in p s i k ≡ exec p (x ∷ past) i k)
      had-now i zero lt none = inl none
      had-now i (suc k) lt none = inr (sym (l.had lim i (suc k) lt (omega arith)))

      ends-alike : ((i : ℕ) → dem i 0 ≡ other i 0) → (holder : Holder) → IsNow p dem (length past) holder → EndsAlike p dem other s holder
      ends-alike none Nobody now = tt
      ends-alike none (Held i k) now =
          ⊎_elim (λ same. inl same) (λ had. ⊎_map (λ same. same) (λ more. (omega (arith, had, more.0), omega (arith, had, more.1)))
          (equal-or-more p dem other (x ∷ past) i k (latest-alike p lim dem other (x ∷ past) (length past) h i k now.0 now.1)))
          (had-now i k now.0 (none i))

      units-alike : ((i : ℕ) → dem i 0 ≡ other i 0) → AllByRecursion (EndsAlike p dem other s) s.units
      units-alike none = each-weaker (IsNow p dem (length past)) (EndsAlike p dem other s) (ends-alike none) s.units (l.now lim)

      -- the last span has the same notes by both demands
      span-same : ((i : ℕ) → dem i 0 ≡ other i 0) → span_notes p dem (ask dem) s ≡ span_notes p other (ask other) s
      span-same none =
          let early : suc (length s.past) ≤ length (x ∷ past) = omega (arith, l.shorter) in
          let now : Alike p dem other s.past (suc (length s.past)) = alike-then (suc (length s.past)) early in
          ap₂ (λ (ns ms : List Note). ns ++ ms)
          (releases-same s.past now)
          (ap₂ (λ (f : Frac) (ms : List Note). Speed (length s.past) ((point p s.entry).speed) (f.num) (f.den) ∷ ms)
          (blind dem other s.past now)
          (pieces-same p dem other s 0 (pieces_of s.units) (each-piece (EndsAlike p dem other s) s.units (units-alike none))))

      spans-other : spans_of p other (x ∷ past) ≡ s ∷ spans_of p other s.past
      spans-other = sym (spans-same (x ∷ past) h)
          ∙ (l.spans ∙ ap (λ spans. s ∷ spans) (spans-same s.past
          (alike-then (length s.past) (omega (arith, l.shorter)))))

    before-end-none : notes_before_end p dem (ask dem) [] ≡ notes_before_end p other (ask other) []
    unfolding notes_before_end
    before-end-none = refl

    same-before-end : ((i : ℕ) → dem i 0 ≡ other i 0) → (ticks : List Tick) → IsScheduleBy p dem (ask dem) ticks
        → Alike p dem other ticks (length ticks) → notes_before_end p dem (ask dem) ticks ≡ notes_before_end p other (ask other) ticks
    same-before-end none ticks sched = by-spans p dem (ask dem) Same (λ h. before-end-none) next ticks sched
      where
        Same : List Tick → Type 0
        Same ticks = Alike p dem other ticks (length ticks) → notes_before_end p dem (ask dem) ticks ≡ notes_before_end p other (ask other) ticks

        next : (x : Tick) (past : List Tick) (s : Span) → IsScheduleBy p dem (ask dem) (x ∷ past) → IsLastSpan p dem (ask dem) x past s
            → Same s.past → Same (x ∷ past)
        next x past s sched l ih h =
            notes-span p dem (ask dem) (x ∷ past) s.past s l.spans
            ∙ (ap₂ (λ (ns ms : List Note). ns ++ ms)
            (ih (alike-then x past s l h (length s.past) (omega (arith, l.shorter))))
            (span-same x past s l h none)
            ∙ sym (notes-span p other (ask other) (x ∷ past) s.past s (spans-other x past s l h)))

    -- the schedule has the same notes by both demands
    pub same-notes : ((i : ℕ) → dem i 0 ≡ other i 0) → (ticks : List Tick) → IsScheduleBy p dem (ask dem) ticks → Alike p dem other ticks (length ticks)
        → notes_of p dem (ask dem) ticks ≡ notes_of p other (ask other) ticks
    same-notes none ticks sched h =
        ap (λ (notes : List Note). notes ++ End (length ticks) (sum_by run_energy_told notes) (sum_by idle_energy_told notes) ∷ [])
        (same-before-end none ticks sched h)
