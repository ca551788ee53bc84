-- The totals of a run: the sums and counts of its notes.
use Rattle.std.specs.Prelude.{Bool, true, false, List, sum_by, count_by}
use Rattle.dvs_base.specs.declared.note.Note.{Note}
use Rattle.dvs_base.specs.declared.note.Note.TheVariants.{Release, Done, Speed}
use Rattle.dvs_base.specs.declared.note.Totals.{Totals}
use Rattle.sched_model.specs.Notes.{run_energy_told, idle_energy_told}

-- whether a note is a release
abbrev pub is_released : Note → Bool
is_released (Release tick i k) = true
is_released _ = false

-- whether a note is a completion
abbrev pub is_finished : Note → Bool
is_finished (Done at i k used) = true
is_finished _ = false

-- whether a note is a decision
abbrev pub is_decided : Note → Bool
is_decided (Speed tick speed num den) = true
is_decided _ = false

-- the energies of all segments, and the numbers of jobs released, jobs completed and decisions
abbrev pub totals_of : List Note → Totals
totals_of notes = record {
  run = sum_by run_energy_told notes;
  idle = sum_by idle_energy_told notes;
  released = count_by is_released notes;
  finished = count_by is_finished notes;
  decisions = count_by is_decided notes;
}
