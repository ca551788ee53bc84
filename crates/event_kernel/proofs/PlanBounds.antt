-- The limits of a plan, as the kernel uses them: also of places past the end.
use Rattle.std.proofs.Common.{ℕ, ◌<◌, ◌≤◌, List, length, arith, sym, subst, ◌⊎◌, inl, inr}
use Rattle.std.proofs.lemmas.Bool.{cases_lt}
use Rattle.std.proofs.lemmas.List.{get_or_past}
use Rattle.std.specs.List.{slice_index_or}
use Rattle.task_model.specs.declared.task.Task.{Task}
use Rattle.task_model.specs.Tasks.{no_task}
use Rattle.task_model.specs.declared.limits.TheConstants.{LONGEST_PERIOD, LATEST_OFFSET}
use Rattle.freq_table.specs.declared.limits.TheConstants.{TOP_SPEED}
use Rattle.freq_table.specs.declared.machine.Point.{Point}
use Rattle.sched_model.specs.Plan.{Plan, count, period, offset, point}
use Rattle.sched_model.proofs.Limits.{every_period}
use Rattle.sched_model.specs.Admission.{IsWithinLimits}
use Rattle.sched_model.specs.Jobs.{JobDemands}
use Rattle.event_kernel.specs.declared.progress.Setting.{Setting}
use Rattle.event_kernel.specs.Runs.{demands_of}

-- the plan of a setting, and the demand of each of its jobs
abbrev pub parts_of : Setting → record { p : Plan; dem : JobDemands }
parts_of set = record { p = set.plan.now; dem = demands_of set.plan.now set.demands.now }

pub record PlanBounds (p : Plan) : Type 0 where
  pub some_period : (i : ℕ) → 0 < period p i
  pub some_task : 0 < count p
  pub low_period : (i : ℕ) → period p i ≤ LONGEST_PERIOD
  pub low_offset : (i : ℕ) → offset p i ≤ LATEST_OFFSET
  pub some_point : 0 < length p.machine.points
  pub some_speed : (e : ℕ) → e < length p.machine.points → 0 < (point p e).speed
  pub low_speed : (e : ℕ) → (point p e).speed ≤ TOP_SPEED

-- what holds of each element, and of the default, holds at each place
at-each : {A : Type 0} (P : A → Type 0) (xs : List A) (d : A) → ((i : ℕ) → i < length xs → P (slice_index_or xs i d)) → P d
    → (i : ℕ) → P (slice_index_or xs i d)
at-each P xs d each here i = go (cases_lt i (length xs))
  where
    go : (i < length xs) ⊎ (length xs ≤ i) → P (slice_index_or xs i d)
    go (inl lt) = each i lt
    go (inr ge) = subst P (sym (get_or_past xs i d ge)) here

pub bounds : (p : Plan) → IsWithinLimits p → PlanBounds p
bounds p limits =
    let nothing : Point = record { speed = 0; millivolts = 0 } in
    record {
      some_period = every_period p limits;
      some_task = limits.tasks.some;
      low_period = at-each (λ (t : Task). t.period ≤ LONGEST_PERIOD) p.tasks no_task (λ i lt. (limits.tasks.each i lt).low_period) (omega arith);
      low_offset = at-each (λ (t : Task). t.offset ≤ LATEST_OFFSET) p.tasks no_task (λ i lt. (limits.tasks.each i lt).low_offset) (omega arith);
      some_point = limits.machine.some;
      some_speed = λ e lt. (limits.machine.each e lt).some_speed;
      low_speed = at-each (λ (x : Point). x.speed ≤ TOP_SPEED) p.machine.points nothing (λ e lt. (limits.machine.each e lt).low_speed) (omega arith);
    }
