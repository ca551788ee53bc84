-- Demands in states, by evaluation.
use Rattle.std.proofs.Common.{◌≡◌, ℕ, Bool, true, false, [], ◌∷◌, refl}
use Rattle.dvs_base.specs.declared.kind.Scheduler.TheVariants.{Edf}
use Rattle.grid_fraction.specs.declared.Frac.{Frac}
use Rattle.grid_fraction.specs.Fraction.{least_common_multiple}
use Rattle.freq_table.specs.Tables.{lowest_pick}
use Rattle.sched_model.specs.declared.state.Row.{Row}
use Rattle.sched_model.specs.Priority.{in_order}
use Rattle.sched_model.specs.States.{StateView}
use Rattle.sched_model.proofs.Examples.{heavy_set, paper_example}
use Rattle.look_ahead_laws.specs.Ahead.{ahead_demand}

abbrev fraction : ℕ → ℕ → Frac
fraction num den = record { num = num; den = den }

abbrev job : ℕ → ℕ → Bool → ℕ → Row
job deadline used done worst = record { deadline = deadline; job = 1; used = used; done = done; worst = worst }

-- all jobs just released: the last of the three tasks has room for 7 units and is put off whole, the second has room for 3
abbrev all_released : StateView
all_released = record { now = 0; rows = job 8 0 false 12 ∷ job 10 0 false 12 ∷ job 14 0 false 4 ∷ []; base_at = 0; base = 12 ∷ 12 ∷ 4 ∷ [] }

demand_at_start : ahead_demand (paper_example Edf) all_released ≡ fraction 21 8
unfolding in_order least_common_multiple
demand_at_start = refl

-- of the tasks that fill the processor at the highest speed two are complete: no entry meets the demand
abbrev two_complete : StateView
two_complete = record {
  now = 2;
  rows = job 3 12 true 12 ∷ job 4 12 true 12 ∷ job 12 0 false 60 ∷ [];
  base_at = 0;
  base = 12 ∷ 12 ∷ 60 ∷ [];
}

demand_over_the_highest : ahead_demand heavy_set two_complete ≡ fraction 15 1
unfolding in_order least_common_multiple
demand_over_the_highest = refl

not_met : (lowest_pick heavy_set.machine (fraction 15 1)).met ≡ false
not_met = refl
