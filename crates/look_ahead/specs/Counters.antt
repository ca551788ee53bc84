-- The counters of look-ahead.
use Rattle.std.specs.Prelude.{◌≡◌, ℕ, ◌||◌, ◌&&◌, nat_eq, nat_lt, Bool, List, map}
use Rattle.grid_fraction.specs.Numbers.{list_below}
use Rattle.sched_model.specs.Plan.{Plan, count, rate}
use Rattle.sched_model.specs.States.{StateView, row_wleft}
use Rattle.governor.specs.ServedSchedulers.{ServesEdf}
use Rattle.look_ahead_laws.specs.Ahead.{edf_order}

-- the counters are right for a state: the plan is under EDF, `left` is what each job may still need at most, `order`
-- is the tasks in EDF order, and `rates` is the rate of each task
pub record Keeps (left order rates : List ℕ) (plan : Plan) (s : StateView) : Type 0 where
  pub served : ServesEdf plan.scheduler
  pub left_is : left ≡ map row_wleft s.rows
  pub order_is : order ≡ edf_order plan s
  pub rates_are : rates ≡ list_below (count plan) (rate plan)

-- whether task j, with the deadlines `due`, comes before task i if that is due at tick d
abbrev pub stands_before_due : (ℕ → ℕ) → ℕ → ℕ → ℕ → Bool
stands_before_due due i d j = nat_lt (due j) d || (nat_eq (due j) d && nat_lt j i)
