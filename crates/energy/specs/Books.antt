-- What an account keeps: the sums over the notes that it was told.
use Rattle.std.specs.Prelude.{◌≡◌, ℕ, ◌+◌, ◌<◌, ◌^◌, nat_eq, List, [], ◌∷◌, ◌++◌, length, map, sum_by, slice_index, slice_set, if◌then◌else◌}
use Rattle.dvs_base.specs.Widths.{u64_end}
use Rattle.dvs_base.specs.declared.note.Note.{Note}
use Rattle.dvs_base.specs.declared.note.Note.TheVariants.{Release, Speed, Run, Idle, Done, End}
use Rattle.dvs_base.specs.declared.note.Totals.{Totals}
use Rattle.dvs_base.specs.NoteTasks.{energy_of_task}
use Rattle.grid_fraction.specs.Numbers.{list_below}
use Rattle.sched_model.specs.Notes.{run_energy_told, idle_energy_told}
use Rattle.sched_model.specs.Totals.{totals_of}

-- what contracts see of an account: the totals, the energy of each task's segments, and of all segments at each entry
pub record Books : Type 0 where
  pub totals : Totals
  pub by_task : List ℕ
  pub by_point : List ℕ

-- a note, with the entry in force
abbrev pub Told : Type 0
Told = Note × ℕ

-- the energy that a note, told with the entry in force, adds to entry e
abbrev pub energy_at_point : ℕ → Told → ℕ
energy_at_point e told = if nat_eq told.1 e then run_energy_told told.0 + idle_energy_told told.0 else 0

-- an account of `tasks` tasks and `points` entries after these notes: the sums over them
abbrev pub books_of : ℕ → ℕ → List Told → Books
books_of tasks points told = record {
  totals = totals_of (map (λ t. t.0) told);
  by_task = list_below tasks (λ i. sum_by (λ t. energy_of_task i t.0) told);
  by_point = list_below points (λ e. sum_by (energy_at_point e) told);
}

-- an account that had the sums over some notes has the sums over them and this one
abbrev pub KeepsSums : Books → Books → Note → ℕ → Type 0
KeepsSums old new note e = (tasks points : ℕ) (told : List Told)
    → old ≡ books_of tasks points told → new ≡ books_of tasks points (told ++ (note, e) ∷ [])

-- the list with `more` added at place i
abbrev pub with_more_at : List ℕ → ℕ → ℕ → List ℕ
with_more_at xs i more = slice_set xs i (slice_index xs i + more)

-- the account after one more note
abbrev pub account_after : Books → Note → ℕ → Books
account_after b (Release tick i k) e = record b { totals = record b.totals { released = b.totals.released + 1 } }
account_after b (Speed tick speed num den) e = record b { totals = record b.totals { decisions = b.totals.decisions + 1 } }
account_after b (Run from to i k units energy) e = record {
  totals = record b.totals { run = b.totals.run + energy };
  by_task = with_more_at b.by_task i energy;
  by_point = with_more_at b.by_point e energy;
}
account_after b (Idle from to units energy) e = record {
  totals = record b.totals { idle = b.totals.idle + energy };
  by_task = b.by_task;
  by_point = with_more_at b.by_point e energy;
}
account_after b (Done at_end i k used) e = record b { totals = record b.totals { finished = b.totals.finished + 1 } }
account_after b (End ticks run idle) e = b

-- the task that the note names is one of the account's tasks
abbrev pub HasTask : Books → Note → Type 0
HasTask b (Release tick i k) = i < length b.by_task
HasTask b (Speed tick speed num den) = Unit {0}
HasTask b (Run from to i k units energy) = i < length b.by_task
HasTask b (Idle from to units energy) = Unit {0}
HasTask b (Done at_end i k used) = i < length b.by_task
HasTask b (End ticks run idle) = Unit {0}

-- the sums and counts after the note fit in their types
abbrev pub HasRoom : Books → Note → ℕ → Type 0
HasRoom b (Release tick i k) e = b.totals.released + 1 < u64_end
HasRoom b (Speed tick speed num den) e = b.totals.decisions + 1 < u64_end
HasRoom b (Run from to i k units energy) e =
    (b.totals.run + energy < 2 ^ 128) × (slice_index b.by_task i + energy < 2 ^ 128)
    × (slice_index b.by_point e + energy < 2 ^ 128)
HasRoom b (Idle from to units energy) e =
    (b.totals.idle + energy < 2 ^ 128) × (slice_index b.by_point e + energy < 2 ^ 128)
HasRoom b (Done at_end i k used) e = b.totals.finished + 1 < u64_end
HasRoom b (End ticks run idle) e = Unit {0}
