-- The releases of one boundary.
use Rattle.std.proofs.Common.{eq-eqb, ◌≡◌, ◌≢◌, inl, inr, ℕ, zero, suc, ◌+◌, ◌-◌, ◌<◌, ◌≤◌, Bool, true, false, ◌||◌, List, [], ◌∷◌, ◌++◌, length, refl, arith, if◌then◌else◌, ap, ap₂, ◌∙◌, sym, append-nil, nat_eq, nat_lt, add-one, set, get_or-set_same}
use Rattle.std.specs.Prelude.{flat_map}
use Rattle.std.proofs.Math.Logic.{⊎_elim}
use Rattle.std.proofs.Math.Bool.{or-true, or-false}
use Rattle.std.proofs.lemmas.Bool.{cases_lt}
use Rattle.std.proofs.lemmas.Bool.Decides.{nat_tests}
use Rattle.std.proofs.lemmas.List.{set-set}
use Rattle.std.proofs.lemmas.List.Concat.{flat_map-append}
use Rattle.dvs_base.specs.declared.note.Note.{Note}
use Rattle.dvs_base.specs.declared.note.Note.TheVariants.{Release, Done}
use Rattle.dvs_base.specs.declared.limits.TheConstants.{MOST_TICKS}
use Rattle.sched_model.specs.declared.state.Row.{Row}
use Rattle.event_kernel.proofs.PlanBounds.{PlanBounds}
use Rattle.grid_fraction.specs.Numbers.{any_below, list_below}
use Rattle.sched_model.specs.Plan.{Plan, count, period}
use Rattle.sched_model.specs.Jobs.{JobDemands, latest, releases_at}
use Rattle.sched_model.specs.Ticks.{Tick}
use Rattle.sched_model.specs.Notes.{release_notes}
use Rattle.sched_model.specs.States.{no_row, row_at, prior_row, prior_base_at, prior_base, released_row, prior_state, after_mark, after_release, after_finish, CanRelease, StateView, row_of, state_of}
use Rattle.sched_model.proofs.Schedules.{length-list_below}
use Rattle.grid_fraction.proofs.Tables.{get-table, table-same, set-table}
use Rattle.sched_model.proofs.JobLaws.{latest-small, lt-due}
use Rattle.sched_model.proofs.States.{next_job, prior-due, due_released, row-opened, row-kept, state-marked, state-unmarked}
use Rattle.agenda.specs.Agenda.{NonePast, IsFirstDue, next_job_row, with_next_job}
use Rattle.event_kernel.specs.declared.span_trace.SpanTrace.{SpanTrace}
use Rattle.event_kernel.specs.Segment.{with_notes}
use Rattle.event_kernel.proofs.SpanBuffer.{with-append}
use Rattle.governor.specs.Meanings.{OwnDemand}
use Rattle.governor.specs.Schedule.{course}
use Rattle.event_kernel.specs.Boundary.{needs_nothing, opening_notes}
use Rattle.event_kernel.specs.declared.progress.Setting.{Setting}
use Rattle.event_kernel.specs.Runs.{demands_of}
use Rattle.event_kernel.specs.Settings.{IsAtBoundary}

-- the rows where those of the first m tasks are released
abbrev pub mixed : Plan → JobDemands → List Tick → ℕ → ℕ → Row
mixed p dem past m i = if nat_lt i m then row_of p dem past i else prior_row p dem past i

module _ (p : Plan) (dem : JobDemands) (past : List Tick) (m i : ℕ) where
  mixed-done : i < m → mixed p dem past m i ≡ row_of p dem past i
  mixed-done lt = let there : nat_lt i m ≡ true = grind (arith, nat_tests, lt) in rw there refl

  mixed-here : m ≤ i → mixed p dem past m i ≡ prior_row p dem past i
  mixed-here le = let here : nat_lt i m ≡ false = grind (arith, nat_tests, le) in rw here refl

-- the state at the boundary with these rows
abbrev pub with_rows : Plan → JobDemands → List Tick → List Row → StateView
with_rows p dem past rows = record {
  now = length past;
  rows = rows;
  base_at = prior_base_at p past;
  base = list_below (count p) (prior_base p dem past);
}

-- the notes of the releases of the first m tasks
abbrev pub notes_upto : Plan → JobDemands → List Tick → ℕ → List Note
notes_upto p dem past m = flat_map (release_notes p dem (length past)) (list_below m (λ i. i))

abbrev pub any_upto : Plan → List Tick → ℕ → Bool
any_upto p past m = any_below m (λ i. releases_at p i (length past))

-- the first m rows are released, and `any` says whether a job was
pub record HasReleased (p : Plan) (dem : JobDemands) (past : List Tick) (m : ℕ) (any : Bool) (st : StateView) : Type 0 where
  pub state : st ≡ with_rows p dem past (list_below (count p) (mixed p dem past m))
  pub any_is : any ≡ any_upto p past m

pub releasing-start : (p : Plan) (dem : JobDemands) (past : List Tick) → HasReleased p dem past 0 false (prior_state p dem past)
releasing-start p dem past = record {
  state = ap (with_rows p dem past)
      (table-same (count p) (prior_row p dem past) (mixed p dem past 0)
      (λ i lt. sym (mixed-here p dem past 0 i (omega arith))));
  any_is = refl;
}

module _ (p : Plan) (dem : JobDemands) (past : List Tick) (periods : (i : ℕ) → 0 < period p i) where
  -- the row of a task is the same after m and after n steps if it isn't between them, or isn't due
  mixed-same : (m n i : ℕ) → m ≤ n → dem i 0 ≡ 0 → (m ≤ i → i < n → nat_eq (prior_row p dem past i).deadline (length past) ≡ false)
      → mixed p dem past m i ≡ mixed p dem past n i
  mixed-same m n i le none early = go (nat_lt i m) refl (nat_lt i n) refl
    where
      go : (a : Bool) → nat_lt i m ≡ a → (b : Bool) → nat_lt i n ≡ b
          → (if a then row_of p dem past i else prior_row p dem past i) ≡ (if b then row_of p dem past i else prior_row p dem past i)
      go true e true f = refl
      go false e false f = refl
      go true e false f = absurd (grind (arith, nat_tests, le))
      go false e true f = sym (row-kept p dem periods past i none (early (grind (arith, nat_tests)) (grind (arith, nat_tests))))

  -- the releases and the notes of one task more
  more : (m : ℕ) (b : Bool) → releases_at p m (length past) ≡ b
      → (any_upto p past (m + 1) ≡ (any_upto p past m || b)) × (notes_upto p dem past (m + 1) ≡ notes_upto p dem past m ++ release_notes p dem (length past) m)
  more m b e = (
    ap (any_upto p past) (add-one m) ∙ ap (λ c. any_upto p past m || c) e,
    ap (notes_upto p dem past) (add-one m)
        ∙ (flat_map-append (release_notes p dem (length past)) (list_below m (λ i. i)) (m ∷ [])
        ∙ ap (λ ns. notes_upto p dem past m ++ ns) (append-nil (release_notes p dem (length past) m))),
  )

  -- tasks that aren't due release nothing
  nothing : (n m : ℕ) → ((k : ℕ) → m ≤ k → k < m + n → releases_at p k (length past) ≡ false)
      → (any_upto p past m ≡ any_upto p past (m + n)) × (notes_upto p dem past m ≡ notes_upto p dem past (m + n))
  nothing zero m none = let same : m ≡ m + zero = omega arith in (ap (any_upto p past) same, ap (notes_upto p dem past) same)
  nothing (suc n) m none =
      let here : releases_at p m (length past) ≡ false = none m (omega arith) (omega arith) in
      let one = more m false here in
      let rest = nothing n (m + 1) (λ k lo hi. none k (omega (arith, lo)) (omega (arith, hi))) in
      let same : m + 1 + n ≡ m + suc n = omega arith in (
        sym (or-false (any_upto p past m)) ∙ (sym one.0 ∙ (rest.0 ∙ ap (any_upto p past) same)),
        sym (one.1 ∙ (ap (λ b. notes_upto p dem past m ++ (if b then Release (length past) m (latest p m (length past))
            ∷ (if nat_eq (dem m (latest p m (length past))) 0 then Done (record { tick = length past; offset = 0 }) m (latest p m (length past)) 0 ∷ []
            else []) else [])) here ∙ append-nil (notes_upto p dem past m)))
            ∙ (rest.1 ∙ ap (notes_upto p dem past) same),
      )

module _ {p : Plan} {dem : JobDemands} {past : List Tick} (periods : (i : ℕ) → 0 < period p i) where
  module _ {m : ℕ} {any : Bool} {st : StateView} (r : HasReleased p dem past m any st) where
    now-is : st.now ≡ length past
    now-is = ap (λ (s : StateView). s.now) r.state

    row-at : (i : ℕ) → i < count p → row_at st i ≡ mixed p dem past m i
    row-at i lt = ap (λ (s : StateView). row_at s i) r.state ∙ get-table (count p) (mixed p dem past m) i no_row lt

    pub row-there : (i : ℕ) → i < count p → m ≤ i → row_at st i ≡ prior_row p dem past i
    row-there i lt le = row-at i lt ∙ mixed-here p dem past m i le

    -- no row's next release is before the state's tick
    pub none-past : NonePast p st
    none-past i lt = elim (cases_lt i m) [
      | inl l ↦
          let row = ap (λ (q : Row). q.deadline) (row-at i lt ∙ mixed-done p dem past m i l) in
          omega (arith, now-is, row, lt-due p i (length past) (periods i))
      | inr ge ↦ omega (arith, now-is, ap (λ (q : Row). q.deadline) (row-there i lt ge), prior-due p dem periods past i)
    ]

    -- rows that are not due may be counted as released
    pub skips : (i : ℕ) → ((i : ℕ) → dem i 0 ≡ 0) → m ≤ i → i ≤ count p → ((k : ℕ) → m ≤ k → k < i → (row_at st k).deadline ≢ st.now)
        → HasReleased p dem past i any st × (notes_upto p dem past m ≡ notes_upto p dem past i)
    skips i unneeded lo hi early =
        let there : m + (i - m) ≡ i = omega (arith, lo) in
        let same = nothing p dem past periods (i - m) m (λ k l h. due_released p dem periods past k false (not_due k l (omega (arith, h, lo)))) in (
          record {
            state = r.state ∙ ap (with_rows p dem past) (table-same (count p) (mixed p dem past m) (mixed p dem past i)
                (λ k lt. mixed-same p dem past periods m i k lo (unneeded k) (λ l h. not_due k l h)));
            any_is = r.any_is ∙ (same.0 ∙ ap (any_upto p past) there);
          },
          same.1 ∙ ap (notes_upto p dem past) there,
        )
      where
        not_due : (k : ℕ) → m ≤ k → k < i → nat_eq (prior_row p dem past k).deadline (length past) ≡ false
        not_due k l h =
            let apart : (row_at st k).deadline ≢ st.now = early k l h in
            let row = ap (λ (q : Row). q.deadline) (row-there k (omega (arith, h, hi)) l) in
            let now = now-is in
            grind (arith, nat_tests, apart, row, now)

    -- the rows before the first one that is due may be counted as released
    pub at-due : ((i : ℕ) → dem i 0 ≡ 0) → {i : ℕ} → IsFirstDue p st i
        → HasReleased p dem past i any st × (notes_upto p dem past m ≡ notes_upto p dem past i)
    at-due unneeded {i} d = skips i unneeded (⊎_elim (λ l. absurd (omega (
      arith,
      now-is,
      d.due,
      ap (λ (q : Row). q.deadline) (row-at i d.below ∙ mixed-done p dem past m i l),
      lt-due p i (length past) (periods i),
    ))) (λ ge. ge) (cases_lt i m)) (omega (arith, d.below)) (λ k lo hi. d.first k hi)

    pub at-end : ((i : ℕ) → dem i 0 ≡ 0) → m ≤ count p → ((k : ℕ) → k < count p → (row_at st k).deadline ≢ st.now)
        → HasReleased p dem past (count p) any st × (notes_upto p dem past m ≡ notes_upto p dem past (count p))
    at-end unneeded le none = skips (count p) unneeded le (omega arith) (λ k lo hi. none k hi)

    -- the release of a row that is due
    module _ (lt : m < count p) (due : (row_at st m).deadline ≡ st.now) where
      row : row_at st m ≡ prior_row p dem past m
      row = row-there m lt (omega arith)

      due_there : (prior_row p dem past m).deadline ≡ length past
      due_there = sym (ap (λ (q : Row). q.deadline) row) ∙ (due ∙ now-is)

      released_there : releases_at p m (length past) ≡ true
      released_there = due_released p dem periods past m true (let d : (prior_row p dem past m).deadline ≡ length past = due_there in grind (arith, nat_tests))

      opening_are : opening_notes dem st m ≡ release_notes p dem (length past) m
      opening_are =
          let notes : ℕ → ℕ → List Note = λ t k. Release t m k ∷ (if nat_eq (dem m k) 0 then Done (record { tick = t; offset = 0 }) m k 0 ∷ [] else []) in
          ap₂ notes now-is (ap (λ (q : Row). q.job + 1) row ∙ sym (next_job p dem periods past m due_there))
          ∙ sym (ap (λ b. if b then notes (length past) (latest p m (length past)) else []) released_there)

      pub opens : (next : StateView) → next ≡ with_next_job p st m (needs_nothing dem st m) → HasReleased p dem past (m + 1) true next
      opens next is = record {
        state = is ∙ (ap (λ (s : StateView). with_next_job p s m (needs_nothing dem s m)) r.state ∙ ap (with_rows p dem past)
            (set-table (count p) (mixed p dem past m) (mixed p dem past (m + 1)) m _ lt here there));
        any_is = sym (or-true (any_upto p past m)) ∙ sym (more p dem past periods m true released_there).0;
      }
        where
          after : Row → Row
          after q = next_job_row (period p m) (nat_eq (dem m (q.job + 1)) 0) q

          here : mixed p dem past (m + 1) m ≡ after (row_at (with_rows p dem past (list_below (count p) (mixed p dem past m))) m)
          here =
              mixed-done p dem past (m + 1) m (omega arith) ∙
              (row-opened p dem periods past m due_there
              ∙ ap after (sym (get-table (count p) (mixed p dem past m) m no_row lt
              ∙ mixed-here p dem past m m (omega arith))))

          there : (k : ℕ) → k < count p → k ≢ m → mixed p dem past (m + 1) k ≡ mixed p dem past m k
          there k low ne = elim (cases_lt k m) [
            | inl l ↦ mixed-done p dem past (m + 1) k (omega (arith, l)) ∙ sym (mixed-done p dem past m k l)
            | inr ge ↦ mixed-here p dem past (m + 1) k (omega (arith, ge, ne)) ∙ sym (mixed-here p dem past m k ge)
          ]

      pub opens-trace : (trace0 : SpanTrace) {trace trace' : SpanTrace} → trace ≡ with_notes trace0 (notes_upto p dem past m)
          → trace' ≡ with_notes trace (opening_notes dem st m) → trace' ≡ with_notes trace0 (notes_upto p dem past (m + 1))
      opens-trace trace0 {trace} {trace'} a b =
          b
          ∙ (ap (λ ns. with_notes trace ns) opening_are
          ∙ (ap (λ q. with_notes q (release_notes p dem (length past) m)) a
          ∙ (with-append trace0 (notes_upto p dem past m) (release_notes p dem (length past) m)
          ∙ ap (λ ns. with_notes trace0 ns) (sym (more p dem past periods m true released_there).1))))

      pub can-release : PlanBounds p → length past < MOST_TICKS → ((prior_row p dem past m).deadline ≡ length past → (prior_row p dem past m).done ≡ true)
          → CanRelease p st m
      can-release adm early done = record {
        task = omega (arith, lt, ap (λ (s : StateView). length s.rows) r.state, length-list_below (count p) (mixed p dem past m));
        below = lt;
        done = ap (λ (q : Row). q.done) row ∙ done due_there;
        due = due;
        deadline_fits = omega (arith, ap (λ (q : Row). q.deadline) row, due_there, adm.low_period m);
        job_fits = omega (
          arith,
          ap (λ (q : Row). q.job + 1) row,
          next_job p dem periods past m due_there,
          latest-small p m (length past) (periods m),
        );
      }

  -- with all rows released, the state is that after the boundary
  all-rows : {any : Bool} {st : StateView} → HasReleased p dem past (count p) any st
      → st ≡ with_rows p dem past (list_below (count p) (row_of p dem past))
  all-rows r = r.state ∙ ap (with_rows p dem past)
      (table-same (count p) (mixed p dem past (count p)) (row_of p dem past)
      (λ i lt. mixed-done p dem past (count p) i lt))

  pub released-marked : {any : Bool} {st : StateView} → any ≡ true → HasReleased p dem past (count p) any st → after_mark st ≡ state_of p dem past
  released-marked some r = ap after_mark (all-rows r) ∙ state-marked p dem periods past (sym r.any_is ∙ some)

  pub released-unmarked : {any : Bool} {st : StateView} → ((i : ℕ) → dem i 0 ≡ 0) → any ≡ false → HasReleased p dem past (count p) any st
      → st ≡ state_of p dem past
  released-unmarked unneeded none r = all-rows r ∙ state-unmarked p dem periods past unneeded (sym r.any_is ∙ none)

-- a release whose job needs nothing
pub opened-done : (p : Plan) (dem : JobDemands) (s : StateView) (i : ℕ) → i < length s.rows → nat_eq (dem i ((row_at s i).job + 1)) 0 ≡ true
    → after_finish (after_release p s i) i ≡ with_next_job p s i (needs_nothing dem s i)
opened-done p dem s i lt e =
    let row : Row = released_row (period p i) (row_at s i) in
    let read : row_at (after_release p s i) i ≡ row = get_or-set_same s.rows i row no_row lt in
    ap (λ (r : Row). record s { rows = set (set s.rows i row) i (record r { done = true }) }) read
    ∙ (ap (λ rows. record s { rows = rows }) (set-set s.rows i row (record row { done = true }))
    ∙ ap (λ b. record s { rows = set s.rows i (record row { done = b }) }) (sym e))

-- at a boundary each due row is done
module _ {demand : OwnDemand} {set : Setting} {s : StateView} (b : IsAtBoundary set demand s) where
  abbrev before : List Tick
  before = course demand set.plan.now (demands_of set.plan.now set.demands.now) s.now

  abbrev row_before : ℕ → Row
  row_before = prior_row set.plan.now (demands_of set.plan.now set.demands.now) before

  pub prior-done : (i : ℕ) → i < count set.plan.now → (row_before i).deadline ≡ length before → (row_before i).done ≡ true
  prior-done i lt due =
      let is : row_at s i ≡ row_before i = ap (λ (v : StateView). row_at v i) b.state ∙ get-table (count set.plan.now) row_before i no_row lt in
      sym (ap (λ (r : Row). r.done) is)
      ∙ b.due_done i lt (ap (λ (r : Row). r.deadline) is ∙ (due ∙ sym (ap (λ (v : StateView). v.now) b.state)))

-- the notes of the release of a job that needs nothing
pub opening-done : (dem : JobDemands) (s : StateView) (i : ℕ) → dem i ((row_at s i).job + 1) ≡ 0
    → opening_notes dem s i
    ≡ Release s.now i ((row_at s i).job + 1) ∷ Done (record { tick = s.now; offset = 0 }) i ((row_at s i).job + 1) 0 ∷ []
opening-done dem s i none =
    let job = (row_at s i).job + 1 in
    ap (λ b. Release s.now i job ∷ (if b then Done (record { tick = s.now; offset = 0 }) i job 0 ∷ [] else [])) (eq-eqb (dem i job) 0 none)

-- before a boundary no row's next release is before the tick
pub prior-past : (p : Plan) (dem : JobDemands) (past : List Tick) → ((i : ℕ) → 0 < period p i) → NonePast p (prior_state p dem past)
prior-past p dem past periods i lt =
    omega (arith, ap (λ (q : Row). q.deadline) (get-table (count p) (prior_row p dem past) i no_row lt), prior-due p dem periods past i)
