-- A state that belongs to a demand list still does after a boundary and after a tick, row by row.
use Rattle.std.proofs.lemmas.Bool.Decides.{nat_tests}
use Rattle.std.proofs.Common.{◌≡◌, ℕ, zero, suc, ◌+◌, ◌-◌, ◌<◌, ◌≤◌, Bool, true, false, if◌then◌else◌, List, [], ◌∷◌, length, get_or, refl, ◌∙◌, ap, arith, add-zero, ◌≢◌, sym, subst}
use Rattle.std.specs.List.{list_any}
use Rattle.std.proofs.lemmas.Bool.{or_parts, eqb-true, eqb-false}
use Rattle.std.proofs.lemmas.List.{get_or_default, length-map, get_or-map}
use Rattle.std.proofs.lemmas.List.Folds.{Any-from_list_any}
use Rattle.std.proofs.Math.Nat.{le_trans}
use Rattle.std.specs.Prelude.{◌==◌, ◌||◌, map, slice_index}
use Rattle.sched_model.specs.declared.state.Row.{Row}
use Rattle.sched_model.specs.States.{no_row, row_wleft, StateView, row_at, opening, opening_row, earliest_in, key_in}
use Rattle.task_model.specs.declared.limits.TheConstants.{LONGEST_PERIOD, LATEST_OFFSET}
use Rattle.grid_fraction.specs.Numbers.{greatest_below}
use Rattle.grid_fraction.proofs.Least.{least-above}
use Rattle.sched_model.specs.Plan.{Plan, count, period, offset, worst}
use Rattle.sched_model.specs.Jobs.{latest_since, due as due_at, IsWithin, JobDemands}
use Rattle.sched_model.specs.Admission.{IsWithinLimits}
use Rattle.sched_model.proofs.LevelSums.{share-most, greatest-above, greatest-least, greatest-same}
use Rattle.sched_model.proofs.JobLaws.{due-none, due-suc, release-due, latest_since-pos, latest_since-suc}
use Rattle.grid_fraction.proofs.Tables.{length-list_below, get-table}
use Rattle.sched_model.proofs.Limits.{some_task, some_period, low_period}
use Rattle.governor.specs.Steps.{each_row, is_due, boundary_row, opened_row, after_boundary, share_in, left_in, left_of, release_of, last_marked, IsLegalIn, after_tick, tick_row, IsBeforeAll, IsAtDecision, Belongs}

pub length-each_row : (f : ℕ → Row → Row) (i : ℕ) (rows : List Row) → length (each_row f i rows) ≡ length rows
length-each_row f i [] = refl
length-each_row f i (row ∷ rows) = ap suc (length-each_row f (suc i) rows)

get-each_row_from : (f : ℕ → Row → Row) (i : ℕ) (rows : List Row) (j : ℕ) → j < length rows
    → get_or (each_row f i rows) j no_row ≡ f (j + i) (get_or rows j no_row)
get-each_row_from f i [] j h = absurd (omega arith)
get-each_row_from f i (row ∷ rows) zero h = let e : i ≡ 0 + i = omega arith in ap (λ (k : ℕ). f k row) e
get-each_row_from f i (row ∷ rows) (suc j) h =
    let e : j + suc i ≡ suc j + i = omega arith in
    get-each_row_from f (suc i) rows j (omega arith) ∙ ap (λ (k : ℕ). f k (get_or rows j no_row)) e

pub get-each_row : (f : ℕ → Row → Row) (rows : List Row) (j : ℕ) → j < length rows
    → get_or (each_row f 0 rows) j no_row ≡ f j (get_or rows j no_row)
get-each_row f rows j h = get-each_row_from f 0 rows j h ∙ ap (λ (k : ℕ). f k (get_or rows j no_row)) (add-zero j)

-- a complete job may need no more units
pub done_none : (row : Row) → row.done ≡ true → row_wleft row ≡ 0
done_none row e = rw e refl

pub wleft-most : (row : Row) → row_wleft row ≤ row.worst
wleft-most row = grind (arith, nat_tests)

-- if no row passes the test, the row at each place fails it
pub none_due_at : (p : Row → Bool) (rows : List Row) (j : ℕ) → list_any p rows ≡ false → j < length rows → p (get_or rows j no_row) ≡ false
none_due_at p [] j none h = absurd (omega arith)
none_due_at p (row ∷ rows) zero none h = (or_parts (p row) (list_any p rows) none).0
none_due_at p (row ∷ rows) (suc j) none h = none_due_at p rows j (or_parts (p row) (list_any p rows) none).1 (omega arith)

-- if some row passes the test, it is at some place
pub some_due_at : (p : Row → Bool) (rows : List Row) → list_any p rows ≡ true
    → (j : ℕ) × (j < length rows) × (p (get_or rows j no_row) ≡ true)
some_due_at p rows some =
    let found = Any-from_list_any p rows some in
    (found.0, found.2, ap p (get_or_default rows found.0 no_row found.1 found.2 ∙ found.3) ∙ found.4)

-- what holds of each row of a state that belongs to a demand list
pub record RowOk (plan : Plan) (dem : JobDemands) (now i : ℕ) (row : Row) : Type 0 where
  pub worst : row.worst ≡ worst plan i
  pub used : row.used ≤ row.worst
  pub due : now ≤ row.deadline
  pub deadline : row.deadline ≡ due_at plan i row.job
  pub released : release_of plan i row ≤ now
  pub open_job : row.done ≡ false → row.used < dem i row.job
  pub closed_job : row.done ≡ true → 0 < row.job → row.used ≡ dem i row.job

pub row_ok : (plan : Plan) (dem : JobDemands) (s : StateView) → Belongs plan dem s → (i : ℕ) → i < count plan
    → RowOk plan dem s.now i (row_at s i)
row_ok plan dem s bel i h = grind (arith, nat_tests)

belongs_of_rows : (plan : Plan) (dem : JobDemands) (s : StateView) → length s.rows ≡ count plan
    → length s.base ≡ count plan → s.base_at ≡ last_marked plan s
    → ((i : ℕ) → i < count plan → row_wleft (row_at s i) ≤ slice_index s.base i) → IsWithin plan dem
    → ((i : ℕ) → i < count plan → RowOk plan dem s.now i (row_at s i)) → Belongs plan dem s
belongs_of_rows plan dem s rows base marked bases demand each = grind (arith, nat_tests)

-- job 0 has no demand, so its row is complete
pub unborn_done : (plan : Plan) (dem : JobDemands) (s : StateView) → Belongs plan dem s → (i : ℕ) → i < count plan
    → (row_at s i).job ≡ 0 → (row_at s i).done ≡ true
unborn_done plan dem s bel i h none = grind (arith, nat_tests)

-- the number of a task is the place of a row
pub in_rows : (plan : Plan) (dem : JobDemands) (s : StateView) → Belongs plan dem s → (i : ℕ) → i < count plan → i < length s.rows
in_rows plan dem s bel i h = omega (arith, bel.of.rows)

pub opening_at : (plan : Plan) (i : ℕ) → i < count plan → row_at (opening plan) i ≡ opening_row (offset plan i) (worst plan i)
opening_at plan i h = get-table (count plan) (λ k. opening_row (offset plan k) (worst plan k)) i no_row h

opening_row_ok : (plan : Plan) (dem : JobDemands) (i : ℕ) → RowOk plan dem 0 i (opening_row (offset plan i) (worst plan i))
opening_row_ok plan dem i = grind (arith, nat_tests, due-none)

pub belongs_opening : (plan : Plan) (dem : JobDemands) → IsWithin plan dem → Belongs plan dem (opening plan)
belongs_opening plan dem fits =
    grind (arith, nat_tests, belongs_of_rows plan dem, greatest-least, length-list_below, opening_at plan, opening_row_ok plan dem)

-- the job that is released if a row is due has the row's deadline as its release
pub opened_release : (plan : Plan) (dem : JobDemands) (i : ℕ) (row : Row) → row.deadline ≡ due_at plan i row.job
    → release_of plan i (opened_row plan dem i row) ≡ row.deadline
opened_release plan dem i row e = latest_since-suc plan i row.job ∙ sym e

-- after its release a row that is due has what each row of a state that belongs has
opened_row_ok : (plan : Plan) (dem : JobDemands) (now i : ℕ) (row : Row) → row.deadline ≡ now
    → RowOk plan dem now i row → RowOk plan dem now i (opened_row plan dem i row)
opened_row_ok plan dem now i row at_now ok = omega (arith, due-suc, eqb-false, eqb-true, opened_release)

-- a fact of the opened row, if the row is due, and of the row itself, if it isn't,
-- is a fact of the row after the boundary
pub boundary_row-by : (plan : Plan) (dem : JobDemands) (now i : ℕ) (row : Row) (P : Row → Type 0)
    → (row.deadline ≡ now → P (opened_row plan dem i row)) → (row.deadline ≢ now → P row) → P (boundary_row plan dem now i row)
boundary_row-by plan dem now i row P opened still = grind (arith, nat_tests)

pub boundary_at : (plan : Plan) (dem : JobDemands) (s : StateView) → Belongs plan dem s → (i : ℕ) → i < count plan
    → row_at (after_boundary plan dem s) i ≡ boundary_row plan dem s.now i (row_at s i)
boundary_at plan dem s bel i h = get-each_row (boundary_row plan dem s.now) s.rows i (in_rows plan dem s bel i h)

-- a fact of the opened row, if a row is due, and of the row itself, if it isn't,
-- is a fact of the row in the state after the boundary
pub boundary-by : (plan : Plan) (dem : JobDemands) (s : StateView) → Belongs plan dem s → (i : ℕ) → i < count plan → (P : Row → Type 0)
    → ((row_at s i).deadline ≡ s.now → P (opened_row plan dem i (row_at s i))) → ((row_at s i).deadline ≢ s.now → P (row_at s i))
    → P (row_at (after_boundary plan dem s) i)
boundary-by plan dem s bel i h P opened still = grind (arith, nat_tests, boundary_at, boundary_row-by)

pub boundary_long : (plan : Plan) (dem : JobDemands) (s : StateView) → length (after_boundary plan dem s).rows ≡ length s.rows
boundary_long plan dem s = length-each_row (boundary_row plan dem s.now) 0 s.rows

pub tick_at : (plan : Plan) (dem : JobDemands) (shares : List ℕ) (s : StateView) → Belongs plan dem s → (i : ℕ) → i < count plan
    → row_at (after_tick dem shares s) i ≡ tick_row dem shares i (row_at s i)
tick_at plan dem shares s bel i h = get-each_row (tick_row dem shares) s.rows i (in_rows plan dem s bel i h)

pub tick_long : (dem : JobDemands) (shares : List ℕ) (s : StateView) → length (after_tick dem shares s).rows ≡ length s.rows
tick_long dem shares s = length-each_row (tick_row dem shares) 0 s.rows

boundary_rows_ok : (plan : Plan) (dem : JobDemands) (s : StateView) → Belongs plan dem s → (i : ℕ) → i < count plan
    → RowOk plan dem s.now i (row_at (after_boundary plan dem s) i)
boundary_rows_ok plan dem s bel i h =
    let ok = row_ok plan dem s bel i h in
    boundary-by plan dem s bel i h (RowOk plan dem s.now i) (λ at_now. opened_row_ok plan dem s.now i (row_at s i) at_now ok) (λ later. ok)

length_if : (b : Bool) (xs ys : List ℕ) (n : ℕ) → length xs ≡ n → length ys ≡ n → length (if b then xs else ys) ≡ n
length_if true xs ys n p q = p
length_if false xs ys n p q = q

-- after a boundary the base of each row covers what its job may still need
base_covers : (plan : Plan) (dem : JobDemands) (s : StateView) → Belongs plan dem s → (i : ℕ) → i < count plan
    → (b : Bool) → list_any (is_due s.now) s.rows ≡ b
    → row_wleft (row_at (after_boundary plan dem s) i) ≤ slice_index (if b then map row_wleft (after_boundary plan dem s).rows else s.base) i
base_covers plan dem s bel i h b some = grind (arith, nat_tests, boundary_long, get_or-map, none_due_at, in_rows, boundary_at)

-- after a boundary the mark is the last release
marked_at : (plan : Plan) (dem : JobDemands) (s : StateView) → Belongs plan dem s → (b : Bool)
    → list_any (is_due s.now) s.rows ≡ b
    → (if b then s.now else s.base_at) ≡ last_marked plan (after_boundary plan dem s)
marked_at plan dem s bel true some =
    let t = after_boundary plan dem s in
    let release : ℕ → ℕ = λ i. release_of plan i (row_at t i) in
    let most : greatest_below (count plan) release ≤ s.now =
    greatest-least (count plan) release s.now (λ i h. (boundary_rows_ok plan dem s bel i h).released) in
    let found = some_due_at (is_due s.now) s.rows some in
    let i = found.0 in
    let h : i < count plan = omega (arith, found.1, bel.of.rows) in
    let at_now : (row_at s i).deadline ≡ s.now = eqb-true (row_at s i).deadline s.now found.2 in
    let P : Bool → Type 0 = λ (b : Bool). release_of plan i (if b then opened_row plan dem i (row_at s i) else row_at s i) ≡ s.now in
    let last : release i ≡ s.now =
    rw (boundary_at plan dem s bel i h) (subst P (sym found.2) (opened_release plan dem i (row_at s i) (bel.deadline i h) ∙ at_now)) in
    let least : release i ≤ greatest_below (count plan) release = greatest-above (count plan) release i h in
    omega arith
marked_at plan dem s bel false none = grind (arith, nat_tests, boundary_at, greatest-same, in_rows, none_due_at)

pub belongs_boundary : (plan : Plan) (dem : JobDemands) (s : StateView) → Belongs plan dem s → Belongs plan dem (after_boundary plan dem s)
belongs_boundary plan dem s bel = grind (arith, nat_tests, boundary_long, belongs_of_rows, length_if, length-map, marked_at, base_covers, boundary_rows_ok)

-- the deadline of a job but job 0 is at most a period after its release
pub due_soon : (plan : Plan) (i job : ℕ) → 0 < job → due_at plan i job ≤ latest_since plan i job + period plan i
due_soon plan i job some = omega (arith, latest_since-pos plan i job some, release-due plan i job some)

-- the deadline of a job, also of job 0, is at most the longest period after the tick since which it is the latest
due_low : (plan : Plan) → IsWithinLimits plan → (i job : ℕ) → i < count plan → due_at plan i job ≤ latest_since plan i job + LONGEST_PERIOD
due_low plan lim i zero h = let first : offset plan i ≤ LATEST_OFFSET = (lim.tasks.each i h).low_offset in omega (arith, due-none plan i, first)
due_low plan lim i (suc k) h = omega (arith, due_soon plan i (suc k) (omega arith), low_period plan lim i h)

pub decision_boundary : (plan : Plan) (dem : JobDemands) (s : StateView) → IsWithinLimits plan → Belongs plan dem s
    → IsAtDecision plan (after_boundary plan dem s)
decision_boundary plan dem s lim bel =
    let t = after_boundary plan dem s in
    let bel' = belongs_boundary plan dem s bel in
    let release : ℕ → ℕ = λ i. release_of plan i (row_at t i) in
    let most : greatest_below (count plan) release ≤ s.now = greatest-least (count plan) release s.now (λ i h. bel'.released i h) in
    record {
      before = λ i h.
          boundary-by plan dem s bel i h (λ row. s.now < row.deadline)
          (λ at_now. omega (arith, at_now, some_period plan lim i h)) (λ later. omega (arith, later, bel.due i h));
      soon = λ i h.
          let d = bel'.deadline i h in
          let r = bel'.released i h in
          let near = due_low plan lim i (row_at t i).job h in
          omega arith;
      marked = (let e = bel'.base_at in omega arith);
      since = λ i h. (let e = bel'.base_at in let g : release i ≤ greatest_below (count plan) release = greatest-above (count plan) release i h in omega arith);
      base = bel'.base;
    }

falls_if : (b : Bool) (worst used sh : ℕ) → (if b then 0 else worst - (used + sh)) ≤ worst - used
falls_if true worst used sh = omega arith
falls_if false worst used sh = omega arith

wleft_falls : (done : Bool) (worst used sh need : ℕ)
    → (if (done || (used + sh == need)) then 0 else worst - (used + sh)) ≤ (if done then 0 else worst - used)
wleft_falls true worst used sh need = omega arith
wleft_falls false worst used sh need = falls_if (used + sh == need) worst used sh

row_after_tick : (plan : Plan) (dem : JobDemands) (shares : List ℕ) (now i : ℕ) (row : Row)
    → ((k : ℕ) → dem i k ≤ worst plan i) → now < row.deadline → share_in shares i ≤ left_of dem i row
    → RowOk plan dem now i row → RowOk plan dem (now + 1) i (tick_row dem shares i row)
row_after_tick plan dem shares now i row fits before most ok = grind (arith, nat_tests)

-- in a legal tick no task gets more than it needs
pub legal_most : (plan : Plan) (dem : JobDemands) (f : ℕ) (s : StateView) (shares : List ℕ)
    → IsLegalIn plan dem f s shares → (i : ℕ) → i < count plan → share_in shares i ≤ left_in dem s i
legal_most plan dem f s shares legal i h =
    share-most (count plan) (key_in plan.scheduler plan s) f (left_in dem s) (share_in shares) legal.out i h

pub belongs_tick : (plan : Plan) (dem : JobDemands) (f : ℕ) (s : StateView) (shares : List ℕ) → Belongs plan dem s
    → IsBeforeAll plan s → IsLegalIn plan dem f s shares → Belongs plan dem (after_tick dem shares s)
belongs_tick plan dem f s shares bel before legal =
    let t = after_tick dem shares s in
    let same : s.base_at ≡ last_marked plan t =
    bel.base_at
    ∙ greatest-same (count plan) (λ i. release_of plan i (row_at s i)) (λ i. release_of plan i (row_at t i))
    (λ i h. rw (tick_at plan dem shares s bel i h) refl) in
    belongs_of_rows plan dem t (tick_long dem shares s ∙ bel.of.rows) bel.of.base same
    (λ i h. rw (tick_at plan dem shares s bel i h) (let r = wleft_falls (row_at s i).done (row_at s i).worst (row_at s i).used
    (share_in shares i) (dem i (row_at s i).job) in let b = bel.base i h in le_trans r b))
    bel.demand
    (λ i h. rw (tick_at plan dem shares s bel i h) (row_after_tick plan dem shares s.now i (row_at s i) (λ k. bel.demand.most i k h)
    (before i h) (legal_most plan dem f s shares legal i h) (row_ok plan dem s bel i h)))

-- if the present tick is before every deadline, it is before the earliest one
pub earliest-later : (plan : Plan) → IsWithinLimits plan → (s : StateView) → IsBeforeAll plan s → s.now < earliest_in plan s
earliest-later plan lim s before = least-above (count plan) (λ i. (row_at s i).deadline) (suc s.now) (some_task plan lim) before

-- in a state that belongs no deadline is before the present tick
pub earliest-from : (plan : Plan) → IsWithinLimits plan → (dem : JobDemands) (s : StateView) → Belongs plan dem s → s.now ≤ earliest_in plan s
earliest-from plan lim dem s bel = least-above (count plan) (λ i. (row_at s i).deadline) s.now (some_task plan lim) bel.due
