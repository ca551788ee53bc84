-- The tasks of notes, and the energies of their runs.
use Rattle.std.specs.Prelude.{ℕ, nat_eq, if◌then◌else◌, Option, Some, None}
use Rattle.dvs_base.specs.declared.note.Note.{Note}
use Rattle.dvs_base.specs.declared.note.Note.TheVariants.{Release, Speed, Run, Idle, Done, End}

-- the task that a note names, if it names one
abbrev pub note_task : Note → Option ℕ
note_task (Release tick task job) = Some task
note_task (Speed tick speed num den) = None
note_task (Run from to task job units energy) = Some task
note_task (Idle from to units energy) = None
note_task (Done at task job used) = Some task
note_task (End ticks run idle) = None

-- the energy of a note if it is a run of task i
abbrev pub energy_of_task : ℕ → Note → ℕ
energy_of_task i (Run from to task job units energy) = if nat_eq task i then energy else 0
energy_of_task i _ = 0
