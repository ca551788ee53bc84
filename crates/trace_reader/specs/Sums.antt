-- The energies of the tasks, kept while they are below 2^128.
use Rattle.std.specs.Prelude.{ℕ, ◌^◌, nat_lt, Option, Some, None, if◌then◌else◌, ◌+◌, ◌≡◌, ◌<◌, List, slice_index_or}
use Rattle.dvs_base.specs.declared.limits.TheConstants.{MOST_TASKS}
use Rattle.dvs_base.specs.declared.note.Note.{Note}
use Rattle.trace_text.specs.TraceText.{task_energy}

-- the number if it is below 2^128, otherwise None
abbrev pub narrow : ℕ → Option ℕ
narrow n = if nat_lt n (2 ^ 128) then Some n else None

-- the sum with one energy more, or None from 2^128 on
abbrev pub with_energy : Option ℕ → ℕ → Option ℕ
with_energy None energy = None
with_energy (Some sum) energy = narrow (sum + energy)

-- `sums` has the energies of the tasks, summed over the notes; None from 2^128 on
abbrev pub HasSums : List Note → List (Option ℕ) → Type 0
HasSums notes sums = (i : ℕ) → i < MOST_TASKS → slice_index_or sums i None ≡ narrow (task_energy notes i)
