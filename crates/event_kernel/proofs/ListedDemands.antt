-- The demand of a job, as the list has it.
use Rattle.std.proofs.Common.{◌≡◌, ℕ, zero, suc, ◌+◌, ◌*◌, ◌<◌, ◌≤◌, Option, Some, None, refl, arith, ap, sym}
use Rattle.std.specs.Prelude.{unwrap_or, option_map, slice_index}
use Rattle.task_model.specs.DemandRows.{named_units}
use Rattle.demand_list.specs.Demands.{DemandsView, units_of, IsWithinWorsts}
use Rattle.sched_model.specs.Plan.{Plan, count, task, worst}
use Rattle.sched_model.specs.Jobs.{IsWithin}
use Rattle.demand_list.proofs.Rows.{worst-listed, worsts-long}
use Rattle.event_kernel.specs.Runs.{demands_of, IsListOf}

module _ (p : Plan) (d : DemandsView) (list : IsListOf p d) where
  charged : (i k : ℕ) → i < count p
      → unwrap_or (option_map (λ u. u + 2 * p.machine.charge) (named_units d.rows i k)) (worst p i) ≡ units_of d i k + 2 * p.machine.charge
  charged i k lt = go (named_units d.rows i k) (worst-listed p.tasks d list i lt)
    where
      go : (o : Option ℕ) → slice_index d.worsts i ≡ (task p i).worst
          → unwrap_or (option_map (λ u. u + 2 * p.machine.charge) o) (worst p i) ≡ unwrap_or o (slice_index d.worsts i) + 2 * p.machine.charge
      go None e = ap (λ n. n + 2 * p.machine.charge) (sym e)
      go (Some u) e = refl

  pub demand-within : IsWithinWorsts d → IsWithin p (demands_of p d)
  demand-within low = record { most = most; none = λ i. refl }
    where
      most : (i k : ℕ) → i < count p → demands_of p d i k ≤ worst p i
      most i zero lt = omega arith
      most i (suc k) lt =
          omega (arith, charged i (suc k) lt, low i (suc k) (omega (arith, worsts-long p.tasks d list, lt)), worst-listed p.tasks d list i lt)
