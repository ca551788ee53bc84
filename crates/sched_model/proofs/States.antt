-- The state of a list of ticks, boundary by boundary and tick by tick, its rows, and the state before the first release.
use Rattle.std.proofs.Common.{◌≡◌, ℕ, ◌<◌, ◌≤◌, List, ap, sym, ◌∙◌, arith, ◌+◌, ◌-◌, [], ◌∷◌, ◌++◌, length, get_or, take, refl, Bool, true, false, nat_eq, nat_le, true≢false}
use Rattle.std.specs.Prelude.{map, slice_set}
use Rattle.std.proofs.Math.ListN.{replicate, get_or-map}
use Rattle.std.proofs.lemmas.List.{get_or_read, length-map, map-set, take_more, take_more_set}
use Rattle.std.proofs.lemmas.Bool.Decides.{nat_tests}
use Rattle.grid_fraction.specs.Numbers.{list_below}
use Rattle.grid_fraction.proofs.Searches.{any_below-false}
use Rattle.sched_model.specs.declared.state.Row.{Row}
use Rattle.sched_model.specs.Plan.{Plan, count, period, offset, worst}
use Rattle.sched_model.specs.States.{StateView, no_row, row_at, opening, opening_row, IsStateOf, CanRelease, row_wleft, after_run, CanRun, row_of, state_of, released_row, prior_row, prior_base_at, prior_base, prior_state}
use Rattle.sched_model.specs.Admission.{IsWithinLimits}
use Rattle.grid_fraction.proofs.Tables.{length-list_below, same-table, get-table, map-table, table-same}
use Rattle.sched_model.specs.Jobs.{JobDemands, release, due, latest, releases_at, is_release, last_release}
use Rattle.sched_model.specs.Ticks.{Tick, wleft, share, units_left}
use Rattle.sched_model.proofs.JobLaws.{due-none, release-none, release-suc, due-suc, lt-due, latest-unique, latest-none, latest-stays, latest-next, release-le, exec-early, exec-legal, last_release-le}
use Rattle.sched_model.proofs.Schedules.{at-now, at-before}

pub opening-is_state : (p : Plan) → IsStateOf (opening p)
opening-is_state p = grind (arith, nat_tests, length-list_below, get-table)

-- the state at a tick with these rows, and with a mark of these bases
abbrev state_by : ℕ → List Row → ℕ → List ℕ → StateView
state_by now rows base_at base = record { now = now; rows = rows; base_at = base_at; base = base }

pub opening_by : (p : Plan) (n : ℕ) (rows : List Row) (base : List ℕ) → n ≡ count p
    → rows ≡ list_below n (λ i. opening_row (offset p i) (worst p i)) → base ≡ list_below n (λ i. 0) → state_by 0 rows 0 base ≡ opening p
opening_by p n rows base all r b = grind (arith, nat_tests)

-- the first job of each task without an offset can be released from the opening state
pub opening-can_release : (p : Plan) → IsWithinLimits p → (i : ℕ) → i < count p → offset p i ≡ 0 → CanRelease p (opening p) i
opening-can_release p lim i lt now = grind (arith, nat_tests, get-table, length-list_below)

-- a row that was read from a state is the row of its task
pub row_read : (s v : StateView) (i : ℕ) (row : Row) → v ≡ s → i < length s.rows → row ≡ get_or v.rows i row → row ≡ row_at s i
row_read s v i row is lt read = get_or_read s.rows i row lt (read ∙ ap (λ (u : StateView). get_or u.rows i row) is) no_row

-- the bases of a mark, written one after the other
pub mark_step : (rows : List Row) (base : List ℕ) (i : ℕ) (row : Row) → i < length rows → i < length base → row ≡ get_or rows i row
    → take i base ≡ take i (map row_wleft rows) → take (i + 1) (slice_set base i (row_wleft row)) ≡ take (i + 1) (map row_wleft rows)
mark_step rows base i row hr hb is e =
    let in_map : i < length (map row_wleft rows) = omega (arith, length-map rows row_wleft) in
    let read : get_or (map row_wleft rows) i 0 ≡ row_wleft row =
    get_or-map row_wleft rows i no_row ∙ ap row_wleft (sym (get_or_read rows i row hr is no_row)) in
    take_more_set base i (row_wleft row) hb
    ∙ ap (λ (xs : List ℕ). xs ++ (row_wleft row ∷ [])) e
    ∙ ap (λ (x : ℕ). take i (map row_wleft rows) ++ (x ∷ [])) (sym read)
    ∙ sym (take_more (map row_wleft rows) i 0 in_map)

-- before the first release no job needs anything
pub left-opening : (p : Plan) → replicate (count p) 0 ≡ map row_wleft (opening p).rows
left-opening p = sym (map-table (count p) (λ i. opening_row (offset p i) (worst p i)) row_wleft ∙ same-table (count p) 0)

module _ (s : StateView) (units_left : List ℕ) (is : units_left ≡ map row_wleft s.rows) (i : ℕ) where
  -- a row of a task is written, and what its job may still need
  pub left-set : (row : Row) (w : ℕ) → w ≡ row_wleft row → slice_set units_left i w ≡ map row_wleft (slice_set s.rows i row)
  left-set row w same = grind (arith, nat_tests, map-set)

  -- `State::run` takes its units from what the job may still need
  pub left-run : (units w : ℕ) → CanRun s i units → w ≡ get_or units_left i w
      → slice_set units_left i (w - units) ≡ map row_wleft (after_run s i units).rows
  left-run units w can read = grind (arith, length-map s.rows row_wleft, get_or_read, get_or-map row_wleft s.rows i no_row, left-set)

-- a row by its parts
abbrev pub row_by : ℕ → ℕ → ℕ → Bool → ℕ → Row
row_by a b c d e = record { deadline = a; job = b; used = c; done = d; worst = e }

-- a row after its release, complete if its job has no demand
abbrev pub opened_row : Plan → JobDemands → ℕ → Row → Row
opened_row p dem i row = record (released_row (period p i) row) { done = nat_eq (dem i (row.job + 1)) 0 }

-- a row of the state after a list of ticks, and of the state before the releases then
pub row_at-state_of : (p : Plan) (dem : JobDemands) (past : List Tick) (i : ℕ) → i < count p
    → row_at (state_of p dem past) i ≡ row_of p dem past i
row_at-state_of p dem past i lt = get-table (count p) (row_of p dem past) i no_row lt

pub row_at-prior_state : (p : Plan) (dem : JobDemands) (past : List Tick) (i : ℕ) → i < count p
    → row_at (prior_state p dem past) i ≡ prior_row p dem past i
row_at-prior_state p dem past i lt = get-table (count p) (prior_row p dem past) i no_row lt

module _ (p : Plan) (dem : JobDemands) (periods : (i : ℕ) → 0 < period p i) where
  -- the deadline of a row is the deadline of its job
  prior_due-is : (past : List Tick) (i : ℕ) → (prior_row p dem past i).deadline ≡ due p i (prior_row p dem past i).job
  prior_due-is past i = grind (arith, due-none)

  -- no row is due before the present tick
  pub prior-due : (past : List Tick) (i : ℕ) → length past ≤ (prior_row p dem past i).deadline
  prior-due past i = grind (arith, lt-due)

  -- if a row is due, the latest job is the one after the row's job
  pub next_job : (past : List Tick) (i : ℕ) → (prior_row p dem past i).deadline ≡ length past → latest p i (length past) ≡ (prior_row p dem past i).job + 1
  next_job [] i e = grind (arith, latest-unique, release-suc p i 0, due-none p i, due-suc p i 0)
  next_job (x ∷ past) i e =
      let now : length (x ∷ past) ≡ length past + 1 = omega arith in
      ap (latest p i) now ∙ latest-next p i (length past) (periods i) (sym now ∙ sym e)

  release_next : (past : List Tick) (i : ℕ) → release p i ((prior_row p dem past i).job + 1) ≡ (prior_row p dem past i).deadline
  release_next past i = release-suc p i (prior_row p dem past i).job ∙ sym (prior_due-is past i)

  due_next : (past : List Tick) (i : ℕ) → due p i ((prior_row p dem past i).job + 1) ≡ (prior_row p dem past i).deadline + period p i
  due_next past i = due-suc p i (prior_row p dem past i).job ∙ ap (λ d. d + period p i) (sym (prior_due-is past i))

  -- if a row isn't due, the latest job is that of the tick before
  pub same_job : (x : Tick) (past : List Tick) (i : ℕ) → nat_eq (prior_row p dem (x ∷ past) i).deadline (length (x ∷ past)) ≡ false
      → latest p i (length (x ∷ past)) ≡ latest p i (length past)
  same_job x past i e =
      let now : length (x ∷ past) ≡ length past + 1 = omega arith in
      let before : length past + 1 < due p i (latest p i (length past)) = grind (arith, nat_tests, lt-due p i (length past) (periods i)) in
      ap (latest p i) now ∙ latest-stays p i (length past) (periods i) before

  -- a row is due exactly if the plan has a release
  pub due_released : (past : List Tick) (i : ℕ) (b : Bool) → nat_eq (prior_row p dem past i).deadline (length past) ≡ b → releases_at p i (length past) ≡ b
  due_released past i true e = grind (arith, next_job, release_next past i)
  due_released [] i false e = grind (arith, latest-none, release-none p i)
  due_released (x ∷ past) i false e = grind (arith, nat_tests, due-none, lt-due, release-le, release-none, same_job x past i e)

  -- after the releases a row that is due has its next job
  pub row-opened : (past : List Tick) (i : ℕ) → (prior_row p dem past i).deadline ≡ length past
      → row_of p dem past i ≡ opened_row p dem i (prior_row p dem past i)
  row-opened past i e = grind (arith, nat_tests, next_job, due_next, exec-early, release_next)

  -- after the releases a row that isn't due is as before
  pub row-kept : (past : List Tick) (i : ℕ) → dem i 0 ≡ 0 → nat_eq (prior_row p dem past i).deadline (length past) ≡ false
      → row_of p dem past i ≡ prior_row p dem past i
  row-kept [] i none e = grind (arith, latest-none, due-none p i)
  row-kept (x ∷ past) i none e = grind (arith, nat_tests, same_job x past i e)

  -- at a release the mark is the present tick
  pub base_at-marked : (t : ℕ) → is_release p t ≡ true → last_release p t ≡ t
  base_at-marked t e = grind arith

  -- at a release: with all releases done and the mark set, the state is that of the past
  pub state-marked : (past : List Tick) → is_release p (length past) ≡ true
      → state_by (length past) (list_below (count p) (row_of p dem past)) (length past)
      (map row_wleft (list_below (count p) (row_of p dem past))) ≡ state_of p dem past
  state-marked past e = grind (arith, nat_tests, base_at-marked, at-now, map-table)

  pub state-unmarked : (past : List Tick) → ((i : ℕ) → dem i 0 ≡ 0) → is_release p (length past) ≡ false
      → state_by (length past) (list_below (count p) (row_of p dem past)) (prior_base_at p past)
      (list_below (count p) (prior_base p dem past)) ≡ state_of p dem past
  state-unmarked [] none e =
      ap (λ base. state_by 0 (list_below (count p) (row_of p dem [])) 0 base)
      (table-same (count p) (λ i. 0) (wleft p dem []) (λ i lt. sym (nothing i (not_due i lt (nat_eq (offset p i) 0) refl))))
    where
      not_due : (i : ℕ) → i < count p → (b : Bool) → nat_eq (offset p i) 0 ≡ b → 0 < offset p i
      not_due i lt true q = absurd (true≢false (sym (due_released [] i true q) ∙ any_below-false (count p) (λ i. releases_at p i 0) e i lt))
      not_due i lt false q = grind (arith, nat_tests)

      nothing : (i : ℕ) → 0 < offset p i → wleft p dem [] i ≡ 0
      nothing i late = grind (arith, nat_tests, latest-none)
  state-unmarked (x ∷ past) none e = grind (arith, at-before, last_release-le)

  -- at a tick without a release the state before the boundary is that of the past
  pub state-still : (past : List Tick) → ((i : ℕ) → dem i 0 ≡ 0) → is_release p (length past) ≡ false → prior_state p dem past ≡ state_of p dem past
  state-still past none e =
      ap (λ rows. state_by (length past) rows (prior_base_at p past) (list_below (count p) (prior_base p dem past)))
      (table-same (count p) (prior_row p dem past) (row_of p dem past)
      (λ i lt. sym (row-kept past i (none i) (not_due i lt (nat_eq (prior_row p dem past i).deadline (length past)) refl))))
      ∙ state-unmarked past none e
    where
      not_due : (i : ℕ) → i < count p → (b : Bool) → nat_eq (prior_row p dem past i).deadline (length past) ≡ b
          → nat_eq (prior_row p dem past i).deadline (length past) ≡ false
      not_due i lt true q = absurd (true≢false (sym (due_released past i true q) ∙ any_below-false (count p) (λ i. releases_at p i (length past)) e i lt))
      not_due i lt false q = q

  -- after a tick a row has the tick's units added, and is complete if they complete its job
  pub row-ran : (x : Tick) (past : List Tick) (i : ℕ) → dem i 0 ≡ 0 → share x i ≤ units_left p dem past i
      → prior_row p dem (x ∷ past) i ≡ row_by (row_of p dem past i).deadline (row_of p dem past i).job ((row_of p dem past i).used
      + share x i) (nat_le (dem i (latest p i (length past))) ((row_of p dem past i).used + share x i)) (row_of p dem past i).worst
  row-ran x past i none fits = grind (arith, nat_tests, exec-legal)

  pub state-ran : (x : Tick) (past : List Tick)
      → prior_state p dem (x ∷ past) ≡ state_by (length past + 1) (list_below (count p) (prior_row p dem (x ∷ past)))
      (state_of p dem past).base_at (state_of p dem past).base
  state-ran x past = grind (arith, nat_tests)
