-- The processor demand of tasks with deadlines up to their periods (Baruah, Rosier and Howell 1990).
use Rattle.std.specs.Prelude.{◌≡◌, ℕ, suc, ◌+◌, ◌-◌, ◌*◌, ◌/◌, ◌<◌, ◌≤◌, Bool, ◌&&◌, ◌||◌, not, nat_eq, nat_le, if◌then◌else◌}
use Rattle.grid_fraction.specs.declared.Frac.{Frac}
use Rattle.grid_fraction.specs.Numbers.{sum_below, any_below, all_below, first_from}
use Rattle.sched_model.specs.Plan.{Plan, count, period, worst, hyper}
use Rattle.edf_demand_laws.specs.Constrained.{absolute}

-- the number of jobs of a task with this period and relative deadline that have absolute deadlines up to d
abbrev pub jobs_due : ℕ → ℕ → ℕ → ℕ
jobs_due every within d = if nat_le within d then (d - within) / every + 1 else 0

-- the work of the jobs of task i whose absolute deadlines are at most d, each at its worst case
abbrev pub work_due : Plan → (ℕ → ℕ) → ℕ → ℕ → ℕ
work_due p relative d i = jobs_due (period p i) (relative i) d * worst p i

-- h(d), the work of the jobs of all tasks whose absolute deadlines are at most d, each at its worst case
abbrev pub processor_demand : Plan → (ℕ → ℕ) → ℕ → ℕ
processor_demand p relative d = sum_below (count p) (work_due p relative d)

-- some job's absolute deadline is d
pub record IsDeadline (p : Plan) (relative : ℕ → ℕ) (d : ℕ) : Type 0 where
  pub task : ℕ
  pub job : ℕ
  pub below : task < count p
  pub some : 1 ≤ job
  pub is : absolute p relative task job ≡ d

-- the constrained demand is h(d)/d, not reduced, at the absolute deadline d up to the hyperperiod where it is
-- greatest; of equal ones at the earliest
pub record IsConstrainedDemand (p : Plan) (relative : ℕ → ℕ) (demand : Frac) : Type 0 where
  pub num : demand.num ≡ processor_demand p relative demand.den
  pub deadline : IsDeadline p relative demand.den
  pub within : demand.den ≤ hyper p
  pub greatest : (d : ℕ) → IsDeadline p relative d → d ≤ hyper p
      → processor_demand p relative d * demand.den ≤ demand.num * d
  pub least : (d : ℕ) → IsDeadline p relative d → d < demand.den
      → processor_demand p relative d * demand.den < demand.num * d

-- whether some job's absolute deadline is d; it is one of the first d jobs of its task
abbrev pub is_deadline : Plan → (ℕ → ℕ) → ℕ → Bool
is_deadline p relative d =
    any_below (count p) (λ i. any_below d (λ k. nat_eq (absolute p relative i (suc k)) d))

-- whether d is an absolute deadline, and at no absolute deadline up to the hyperperiod the demand per tick is greater
abbrev pub is_busiest : Plan → (ℕ → ℕ) → ℕ → Bool
is_busiest p relative d =
    let h = processor_demand p relative in
    is_deadline p relative d
    && all_below (suc (hyper p)) (λ e. not (is_deadline p relative e) || nat_le (h e * d) (h d * e))

-- the constrained demand: h(d)/d at the first absolute deadline up to the hyperperiod where it is greatest
unfoldable pub constrained_demand : Plan → (ℕ → ℕ) → Frac
constrained_demand p relative =
    let d = first_from (hyper p) 1 (is_busiest p relative) in record { num = processor_demand p relative d; den = d }
