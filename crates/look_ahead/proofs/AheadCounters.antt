-- What each call makes of the kept counters.
use Rattle.std.proofs.Common.{◌≡◌, ◌≢◌, ℕ, ◌+◌, ◌-◌, ◌<◌, List, length, get_or, drop, true, refl, sym, ◌∙◌, ap, arith, get_or-set_same, get_or-set_other}
use Rattle.std.specs.Prelude.{map, slice_set}
use Rattle.std.proofs.Math.ListN.{replicate, get_or-map}
use Rattle.std.proofs.Math.Seq.{map-set_same}
use Rattle.std.proofs.lemmas.Bool.Decides.{nat_tests}
use Rattle.grid_fraction.specs.Numbers.{list_below}
use Rattle.sched_model.specs.declared.state.Row.{Row}
use Rattle.sched_model.specs.Plan.{Plan, count, period, offset, rate}
use Rattle.sched_model.specs.Priority.{in_order}
use Rattle.sched_model.specs.States.{StateView, no_row, row_at, row_wleft, released_row, opening, after_release, after_run, after_finish, CanRelease, CanRun}
use Rattle.sched_model.proofs.Orders.{in_order-same}
use Rattle.sched_model.proofs.States.{left-opening, left-set, left-run}
use Rattle.grid_fraction.proofs.Tables.{get-table, length-list_below}
use Rattle.governor.specs.ServedSchedulers.{ServesEdf}
use Rattle.governor.proofs.StatesOfDemands.{opening_at}
use Rattle.look_ahead_laws.specs.Ahead.{deadline_at, edf_order}
use Rattle.look_ahead.specs.Counters.{Keeps, stands_before_due}
use Rattle.look_ahead.proofs.MovedTask.{moved_back, moved_back-in_order}

abbrev due_of : Row → ℕ
due_of row = row.deadline

module _ (plan : Plan) (s : StateView) (left order rates : List ℕ) (keeps : Keeps left order rates plan s) (i : ℕ) where
  -- there is a rate for each task
  pub rates_long : length rates ≡ count plan
  rates_long = ap (λ (xs : List ℕ). length xs) keeps.rates_are ∙ length-list_below (count plan) (rate plan)

  -- a kept rate that was read is the rate of its task
  pub rate_read : (u : ℕ) → i < count plan → u ≡ get_or rates i u → u ≡ rate plan i
  rate_read u lt read =
      read ∙ (ap (λ (xs : List ℕ). get_or xs i u) keeps.rates_are ∙ get-table (count plan) (rate plan) i u lt)

  -- the state with a new row for task i
  abbrev written : Row → StateView
  written row = record s { rows = slice_set s.rows i row }

  -- a new row with the same deadline changes no deadline
  due-kept : (row : Row) → row.deadline ≡ deadline_at s i → (k : ℕ) → deadline_at (written row) k ≡ deadline_at s k
  due-kept row same k =
      grind (arith, get_or-map due_of (slice_set s.rows i row) k no_row, get_or-map due_of s.rows k no_row, map-set_same due_of s.rows i row no_row same)

  keeps-row : (row : Row) (left' : List ℕ) → row.deadline ≡ deadline_at s i → left' ≡ map row_wleft (written row).rows
      → Keeps left' order rates plan (written row)
  keeps-row row left' same is = grind (arith, nat_tests, in_order-same, due-kept)

  -- after a completion nothing is left of the task's work
  pub keeps-finished : Keeps (slice_set left i 0) order rates plan (after_finish s i)
  keeps-finished =
      let row : Row = record (row_at s i) { done = true } in
      keeps-row row (slice_set left i 0) refl (left-set s left keeps.left_is i row 0 refl)

  -- `State::run` takes its units from what is left of the task's work
  pub keeps-ran : (units w : ℕ) → CanRun s i units → w ≡ get_or left i w
      → Keeps (slice_set left i (w - units)) order rates plan (after_run s i units)
  keeps-ran units w can read = grind (arith, keeps-row, left-run s left keeps.left_is i units w can read)

  -- after a release the task's whole worst case is left, and the task has its place in the order
  pub keeps-released : (w : ℕ) (order' : List ℕ) → w ≡ (row_at s i).worst
      → order' ≡ edf_order plan (after_release plan s i)
      → Keeps (slice_set left i w) order' rates plan (after_release plan s i)
  keeps-released w order' worst is = grind (arith, nat_tests, left-set)

-- after a release the released task is due a period later, and no other deadline changes
module _ (plan : Plan) (s : StateView) (i : ℕ) (can : CanRelease plan s i) where
  pub due-released : deadline_at (after_release plan s i) i ≡ deadline_at s i + period plan i
  due-released =
      ap due_of (get_or-set_same s.rows i (released_row (period plan i) (row_at s i)) no_row can.task)

  due-other : (j : ℕ) → j ≢ i → deadline_at (after_release plan s i) j ≡ deadline_at s j
  due-other j ne =
      ap due_of (get_or-set_other s.rows i j (released_row (period plan i) (row_at s i)) no_row ne)

  -- after a release the task is moved back to its place in EDF order
  pub order-released : (due : ℕ) (old : List ℕ) → due ≡ deadline_at s i + period plan i → old ≡ edf_order plan s
      → moved_back (stands_before_due (deadline_at s) i due) i (get_or old 0 0) (drop 1 old)
      ≡ edf_order plan (after_release plan s i)
  order-released due old is e =
      let at : due ≡ deadline_at (after_release plan s i) i = is ∙ sym due-released in
      ap (λ (d : ℕ). moved_back (stands_before_due (deadline_at s) i d) i (get_or old 0 0) (drop 1 old)) at
      ∙ moved_back-in_order (deadline_at s) (deadline_at (after_release plan s i)) i due-other
      (omega (arith, due-released)) (count plan) old can.below e

-- before the first release nothing is left, and the tasks are in the order of their offsets
pub order-opening : (plan : Plan) → in_order (offset plan) (count plan) ≡ edf_order plan (opening plan)
order-opening plan = grind (arith, nat_tests, in_order-same, opening_at)

pub keeps-opening : (plan : Plan) (order rates : List ℕ) → ServesEdf plan.scheduler
    → order ≡ edf_order plan (opening plan) → rates ≡ list_below (count plan) (rate plan)
    → Keeps (replicate (count plan) 0) order rates plan (opening plan)
keeps-opening plan order rates edf is are = grind (arith, left-opening plan)
