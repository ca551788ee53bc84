-- The states of a list of ticks follow by the boundaries and legal ticks of a governor's laws.
use Rattle.std.proofs.Common.{◌≡◌, ℕ, zero, suc, ◌+◌, ◌-◌, ◌<◌, ◌≤◌, min, Bool, ◌||◌, List, [], ◌∷◌, ◌++◌, length, refl, arith, ap, ◌∙◌, sym, nat_eq, nat_le}
use Rattle.std.proofs.Math.Bool.{or-false}
use Rattle.std.proofs.lemmas.List.Folds.{list_any-append}
use Rattle.std.proofs.lemmas.Bool.Decides.{nat_tests}
use Rattle.std.specs.Prelude.{◌==◌}
use Rattle.std.specs.List.{list_any}
use Rattle.dvs_base.specs.declared.kind.Scheduler.{Scheduler}
use Rattle.dvs_base.specs.declared.kind.Scheduler.TheVariants.{Edf, Rm}
use Rattle.sched_model.specs.declared.state.Row.{Row}
use Rattle.grid_fraction.specs.Numbers.{any_below, list_below}
use Rattle.grid_fraction.proofs.Sums.{sum_below-same}
use Rattle.sched_model.specs.Plan.{Plan, count, period}
use Rattle.sched_model.specs.Jobs.{JobDemands, releases_at, is_release}
use Rattle.sched_model.specs.Ticks.{Tick, units_left as left_at, share as share_at}
use Rattle.sched_model.specs.Priority.{SharesOut, sum_up_to, key_of as key_at}
use Rattle.sched_model.specs.States.{prior_row, prior_state, row_of, state_of, key_in}
use Rattle.grid_fraction.proofs.Tables.{length-list_below, table-same}
use Rattle.sched_model.proofs.States.{row_at-state_of, row_by, due_released, row-opened, row-kept, state-marked, state-unmarked, row-ran, state-ran}
use Rattle.governor.specs.Steps.{each_row, is_due, boundary_row, boundary_rows, after_boundary, tick_row, after_tick, left_in, share_in, IsLegalIn}
use Rattle.grid_fraction.proofs.Searches.{any_below-same}

each_row-snoc : (f : ℕ → Row → Row) (k : ℕ) (rows : List Row) (r : Row)
    → each_row f k (rows ++ r ∷ []) ≡ each_row f k rows ++ f (k + length rows) r ∷ []
each_row-snoc f k [] r = let z : k ≡ k + 0 = omega arith in ap (λ n. f n r ∷ []) z
each_row-snoc f k (q ∷ rows) r =
    let z : suc k + length rows ≡ k + length (q ∷ rows) = omega arith in
    ap (λ rs. f k q ∷ rs) (each_row-snoc f (suc k) rows r ∙ ap (λ n. each_row f (suc k) rows ++ f n r ∷ []) z)

-- changing each row of a table gives the table of the changed rows
pub each_row-table : (f : ℕ → Row → Row) (n : ℕ) (g : ℕ → Row) → each_row f 0 (list_below n g) ≡ list_below n (λ i. f i (g i))
each_row-table f zero g = refl
each_row-table f (suc n) g = grind (arith, nat_tests, each_row-snoc, length-list_below, each_row-table f n g)

any-table : (test : Row → Bool) (n : ℕ) (g : ℕ → Row) → list_any test (list_below n g) ≡ any_below n (λ i. test (g i))
any-table test zero g = refl
any-table test (suc n) g = grind (arith, nat_tests, list_any-append, or-false, any-table test n g)

-- equal keys and equal terms give equal sums over a task and those before it
sum_up_to-same : (n : ℕ) (key key' f f' : ℕ → ℕ) → ((j : ℕ) → j < n → key j ≡ key' j) → ((j : ℕ) → j < n → f j ≡ f' j)
    → (i : ℕ) → i < n → sum_up_to n key f i ≡ sum_up_to n key' f' i
sum_up_to-same n key key' f f' ks fs i lt = grind (arith, nat_tests, sum_below-same)

module _ (p : Plan) (dem : JobDemands) (periods : (i : ℕ) → 0 < period p i) (none : (i : ℕ) → dem i 0 ≡ 0) where
  -- after a boundary the rows are those of the state after the releases
  boundary-row : (past : List Tick) (i : ℕ) → boundary_row p dem (length past) i (prior_row p dem past i) ≡ row_of p dem past i
  boundary-row past i = grind (arith, nat_tests, row-opened, row-kept)

  boundary-rows : (past : List Tick) → boundary_rows p dem (prior_state p dem past) ≡ list_below (count p) (row_of p dem past)
  boundary-rows past = grind (arith, nat_tests, each_row-table, table-same, boundary-row)

  some-due : (past : List Tick) → list_any (is_due (length past)) (list_below (count p) (prior_row p dem past)) ≡ is_release p (length past)
  some-due past =
      any-table (is_due (length past)) (count p) (prior_row p dem past)
      ∙ any_below-same (count p) (λ i. is_due (length past) (prior_row p dem past i)) (λ i. releases_at p i (length past))
      (λ i lt. sym (due_released p dem periods past i (nat_eq (prior_row p dem past i).deadline (length past)) refl))

  pub boundary-is : (past : List Tick) → after_boundary p dem (prior_state p dem past) ≡ state_of p dem past
  boundary-is past = grind (arith, nat_tests, boundary-rows, some-due, state-marked, state-unmarked)

  -- after a tick the units had reach the demand exactly if they did before, or if they equal it now
  done-is : (d u sh : ℕ) → sh ≤ d - u → nat_le d (u + sh) ≡ (nat_le d u || (u + sh == d))
  done-is d u sh fits = grind (arith, nat_tests)

  tick-row : (x : Tick) (past : List Tick) (i : ℕ) → share_at x i ≤ left_at p dem past i
      → prior_row p dem (x ∷ past) i ≡ tick_row dem x.shares i (row_of p dem past i)
  tick-row x past i fits = grind (arith, nat_tests, row-ran, row_by, done-is)

  pub tick-is : (x : Tick) (past : List Tick) → ((i : ℕ) → i < count p → share_at x i ≤ left_at p dem past i)
      → after_tick dem x.shares (state_of p dem past) ≡ prior_state p dem (x ∷ past)
  tick-is x past fits =
      sym (state-ran p dem periods x past
      ∙ ap (λ rows. record { now = length past + 1; rows = rows; base_at = (state_of p dem past).base_at; base = (state_of p dem past).base })
      (table-same (count p) (prior_row p dem (x ∷ past)) (λ i. tick_row dem x.shares i (row_of p dem past i)) (λ i lt. tick-row x past i (fits i lt))
      ∙ sym (each_row-table (tick_row dem x.shares) (count p) (row_of p dem past))))

  -- a legal tick of the schedule is legal in the state
  key-is : (past : List Tick) (s : Scheduler) (i : ℕ) → i < count p → key_at s p (length past) i ≡ key_in s p (state_of p dem past) i
  key-is past Edf i lt = sym (ap (λ (r : Row). r.deadline) (row_at-state_of p dem past i lt))
  key-is past Rm i lt = refl

  left-is : (past : List Tick) (i : ℕ) → i < count p → left_at p dem past i ≡ left_in dem (state_of p dem past) i
  left-is past i lt = grind (arith, nat_tests, row_at-state_of)

  pub legal-is : (x : Tick) (past : List Tick) (f : ℕ) → length x.shares ≡ count p
      → SharesOut (count p) (key_at p.scheduler p (length past)) f (left_at p dem past) (share_at x)
      → IsLegalIn p dem f (state_of p dem past) x.shares
  legal-is x past f long out = record {
    one_each = long;
    out = λ i lt.
        sym (sum_up_to-same (count p) (key_at p.scheduler p (length past)) (key_in p.scheduler p (state_of p dem past)) (share_at x)
        (share_in x.shares) (key-is past p.scheduler) (λ j l. refl) i lt)
        ∙ (out i lt
        ∙ ap (λ n. min f n) (sum_up_to-same (count p) (key_at p.scheduler p (length past)) (key_in p.scheduler p (state_of p dem past))
        (left_at p dem past) (left_in dem (state_of p dem past)) (key-is past p.scheduler) (left-is past) i lt));
  }
