-- The states of a run are states of its plan.
use Rattle.std.proofs.Common.{◌≡◌, ℕ, ◌<◌, ◌≤◌, List, [], ◌∷◌, length, refl, arith, ap, ◌∙◌}
use Rattle.sched_model.specs.declared.state.Row.{Row}
use Rattle.grid_fraction.specs.Numbers.{list_below}
use Rattle.sched_model.specs.Plan.{Plan, count, worst}
use Rattle.sched_model.specs.Jobs.{JobDemands, latest}
use Rattle.sched_model.specs.Ticks.{Tick, exec}
use Rattle.sched_model.specs.States.{no_row, prior_row, prior_state, row_of, state_of, prior_base, IsOfPlan}
use Rattle.sched_model.proofs.Schedules.{length-list_below}
use Rattle.grid_fraction.proofs.Tables.{get-table}

module _ (p : Plan) where
  pub of-table : (now base_at : ℕ) (row : ℕ → Row) (base : ℕ → ℕ) → ((i : ℕ) → i < count p → (row i).worst ≡ worst p i)
      → ((i : ℕ) → i < count p → (row i).used ≤ worst p i)
      → IsOfPlan p (record { now = now; rows = list_below (count p) row; base_at = base_at; base = list_below (count p) base })
  of-table now base_at row base w u = record {
    rows = length-list_below (count p) row;
    base = length-list_below (count p) base;
    worst = λ i lt. ap (λ (r : Row). r.worst) (get-table (count p) row i no_row lt) ∙ w i lt;
    used = λ i lt. omega (
      arith,
      ap (λ (r : Row). r.used) (get-table (count p) row i no_row lt),
      ap (λ (r : Row). r.worst) (get-table (count p) row i no_row lt),
      w i lt,
      u i lt,
    );
  }

  pub of-state : (dem : JobDemands) (past : List Tick) → ((i k : ℕ) → i < count p → exec p past i k ≤ worst p i) → IsOfPlan p (state_of p dem past)
  of-state dem past low =
      of-table (length past) (state_of p dem past).base_at (row_of p dem past) _ (λ i lt. refl) (λ i lt. low i (latest p i (length past)) lt)

  pub of-prior : (dem : JobDemands) (past : List Tick) → ((i k : ℕ) → i < count p → exec p past i k ≤ worst p i) → IsOfPlan p (prior_state p dem past)
  of-prior dem past low =
      of-table (length past) (prior_state p dem past).base_at (prior_row p dem past) (prior_base p dem past) (λ i lt. worst-is past i)
      (λ i lt. used-in past i lt low)
    where
      worst-is : (past : List Tick) (i : ℕ) → (prior_row p dem past i).worst ≡ worst p i
      worst-is [] i = refl
      worst-is (x ∷ past) i = refl

      used-in : (past : List Tick) (i : ℕ) → i < count p → ((i k : ℕ) → i < count p → exec p past i k ≤ worst p i) → (prior_row p dem past i).used ≤ worst p i
      used-in [] i lt low = omega arith
      used-in (x ∷ past) i lt low = low i (latest p i (length past)) lt
