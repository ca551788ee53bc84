-- The array of entries, and its refusals.
use Rattle.std.proofs.Common.{◌≡◌, ◌<◌, ◌≤◌, List, [], ◌∷◌, length, Some, Err, arith}
use Rattle.toml.specs.declared.value.Value.{Value}
use Rattle.toml.specs.View.{items_view}
use Rattle.dvs_base.specs.Settings.{count_of}
use Rattle.dvs_base.proofs.Counts.{count_of-items_view, choose, choose_not}
use Rattle.freq_table.specs.declared.limits.TheConstants.{MOST_POINTS}
use Rattle.freq_table.specs.declared.fault.MachineFault.TheVariants as fault
use Rattle.freq_table.specs.MachineFile.{points_of_array, points_from}

pub too_many : (vs : List Value) → MOST_POINTS < length vs → points_of_array (Some (items_view vs)) ≡ Err (fault.TooMany (length vs))
too_many [] h = absurd (omega arith)
too_many (v ∷ vs) h = choose MOST_POINTS (count_of (items_view (v ∷ vs))) (length (v ∷ vs)) (λ n. Err (fault.TooMany n)) _ (count_of-items_view (v ∷ vs)) h

pub few : (vs : List Value) → 0 < length vs → length vs ≤ MOST_POINTS → points_of_array (Some (items_view vs)) ≡ points_from [] (items_view vs)
few [] s h = absurd (omega arith)
few (v ∷ vs) s h = choose_not MOST_POINTS (count_of (items_view (v ∷ vs))) (length (v ∷ vs)) (λ n. Err (fault.TooMany n)) _ (count_of-items_view (v ∷ vs)) h
