-- The array of entries, and its refusals.
use Rattle.std.proofs.Common.{◌≡◌, ◌<◌, ◌≤◌, List, [], ◌∷◌, length, Some, Err, arith}
use Rattle.toml.specs.declared.value.Value.{Value}
use Rattle.toml.specs.View.{items_view}
use Rattle.dvs_base.specs.Checks.{◌>>=◌}
use Rattle.dvs_base.specs.Settings.{count_of}
use Rattle.dvs_base.specs.declared.limits.TheConstants.{MOST_TASKS}
use Rattle.task_model.specs.declared.fault.TaskFault.TheVariants as fault
use Rattle.task_model.specs.TaskFile.{tasks_of_array, tasks_from, within_hyper}
use Rattle.dvs_base.proofs.Counts.{count_of-items_view, choose, choose_not}

pub too_many : (vs : List Value) → MOST_TASKS < length vs → tasks_of_array (Some (items_view vs)) ≡ Err (fault.TooMany (length vs))
too_many [] h = absurd (omega arith)
too_many (v ∷ vs) h = choose MOST_TASKS (count_of (items_view (v ∷ vs))) (length (v ∷ vs)) (λ n. Err (fault.TooMany n)) _ (count_of-items_view (v ∷ vs)) h

pub few : (vs : List Value) → 0 < length vs → length vs ≤ MOST_TASKS
    → tasks_of_array (Some (items_view vs)) ≡ (tasks_from [] (items_view vs) >>= within_hyper)
few [] s h = absurd (omega arith)
few (v ∷ vs) s h = choose_not MOST_TASKS (count_of (items_view (v ∷ vs))) (length (v ∷ vs)) (λ n. Err (fault.TooMany n)) _ (count_of-items_view (v ∷ vs)) h
