-- What notes do to a probe, seen as its rule and its tally, and to a list of probes.
use Rattle.std.specs.Prelude.{ℕ, ◌+◌, ◌-◌, min, Bool, true, false, List, [], ◌∷◌, nat_eq, nat_le}
use Rattle.std.specs.Prelude.{Option, Some, None, if◌then◌else◌}
use Rattle.dvs_base.specs.Widths.{u64_end}
use Rattle.dvs_base.specs.NoteTasks.{note_task}
use Rattle.dvs_base.specs.declared.note.Note.{Note}
use Rattle.dvs_base.specs.declared.note.Note.TheVariants.{Release, Speed, Run, Idle, Done}
use Rattle.probes.specs.declared.rule.What.{What}
use Rattle.probes.specs.declared.rule.What.TheVariants as what
use Rattle.probes.specs.declared.rule.Rule.{Rule}
use Rattle.probes.specs.declared.rule.Stay.{Stay}
use Rattle.probes.specs.declared.rule.Stay.TheVariants as stay

-- what contracts see of a probe: its rule and its tally
pub record ProbeView : Type 0 where
  pub rule : Rule
  pub tally : ℕ

-- what a note weighs by its kind: 1 if it is of the kind that is counted, otherwise 0; under Units a run's segment
-- weighs its units
abbrev pub weight_of_kind : What → Note → ℕ
weight_of_kind what.Releases (Release tick task job) = 1
weight_of_kind what.Speeds (Speed tick speed num den) = 1
weight_of_kind what.Runs (Run from to task job units energy) = 1
weight_of_kind what.Idles (Idle from to units energy) = 1
weight_of_kind what.Dones (Done at task job used) = 1
weight_of_kind what.Units (Run from to task job units energy) = units
weight_of_kind _ _ = 0

-- a rule that names a task is about the notes that name that task, and a rule without one is about every note
abbrev pub is_about : Option ℕ → Option ℕ → Bool
is_about None found = true
is_about (Some wanted) (Some found) = nat_eq wanted found
is_about (Some wanted) None = false

-- what a note weighs under a rule
abbrev pub weight : Rule → Note → ℕ
weight rule note = if is_about rule.task (note_task note) then weight_of_kind rule.what note else 0

-- the highest count, 2^64 - 1
abbrev pub most : ℕ
most = u64_end - 1

-- a count, at most the highest
abbrev pub capped_count : ℕ → ℕ
capped_count n = min n most

-- a probe after one note
abbrev pub probe_after : Note → ProbeView → ProbeView
probe_after note p = record { rule = p.rule; tally = capped_count (p.tally + weight p.rule note) }

-- a probe leaves exactly if its rule has a limit and the tally is at least that
abbrev pub stay_at : Option ℕ → ℕ → Stay
stay_at None tally = stay.Stay
stay_at (Some limit) tally = if nat_le limit tally then stay.Leave else stay.Stay

-- whether a probe stays, by its tally
abbrev pub stay_of : ProbeView → Stay
stay_of p = stay_at p.rule.limit p.tally

-- the other probes, with this one before them if it stays
abbrev pub with_staying : Stay → ProbeView → List ProbeView → List ProbeView
with_staying stay.Stay p ps = p ∷ ps
with_staying stay.Leave p ps = ps

-- a list of probes after one note: each was told it, and those that stay keep their order
abbrev pub told_all : Note → List ProbeView → List ProbeView
told_all note [] = []
told_all note (p ∷ ps) = with_staying (stay_of (probe_after note p)) (probe_after note p) (told_all note ps)

-- a list of probes after these notes, told one by one
abbrev pub told_notes : List Note → List ProbeView → List ProbeView
told_notes [] ps = ps
told_notes (note ∷ notes) ps = told_notes notes (told_all note ps)
