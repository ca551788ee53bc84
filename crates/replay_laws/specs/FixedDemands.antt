-- The demands that notes fix.
use Rattle.std.specs.Prelude.{ℕ, zero, suc, ◌-◌, max, ◌&&◌, nat_eq, if◌then◌else◌, List, [], ◌∷◌, map, Option, Some, None, unwrap_or, option_map}
use Rattle.std.specs.Option.{option_or}
use Rattle.dvs_base.specs.declared.note.Note.{Note}
use Rattle.dvs_base.specs.declared.note.Note.TheVariants.{Done}
use Rattle.task_model.specs.DemandRows.{DemandRow}
use Rattle.freq_table.specs.Tables.{job_charge}
use Rattle.demand_list.specs.Demands.{DemandsView}
use Rattle.sched_model.specs.Plan.{Plan, worst}

-- the rows with that of a completion of job k of task i in front: its units without the charge. Job 0 has no row
abbrev pub end_before : Plan → ℕ → ℕ → ℕ → List DemandRow → List DemandRow
end_before p i zero used rows = rows
end_before p i (suc k) used rows = record { task = i; job = suc k; units = used - job_charge p.machine } ∷ rows

-- the rows after a note: a completion fixes its job's demand in front of the rows of later notes
abbrev pub fixed_before : Plan → Note → List DemandRow → List DemandRow
fixed_before p (Done at_end i k used) rows = end_before p i k used rows
fixed_before p _ rows = rows

-- The rows that notes fix. The first completion of a job counts, since the first row of a job gives its units. A job
-- without a completion among the notes has no row, so it needs its worst case.
abbrev pub fixed_of : Plan → List Note → List DemandRow
fixed_of p [] = []
fixed_of p (note ∷ notes) = fixed_before p note (fixed_of p notes)

-- the demand list that notes fix: the declared worst cases and the rows that the notes fix
abbrev pub fixed_list : Plan → List Note → DemandsView
fixed_list p notes = record { worsts = map (λ t. t.worst) p.tasks; rows = fixed_of p notes }

-- the units of job k of task i, if the note is its completion
abbrev pub end_of : Note → ℕ → ℕ → Option ℕ
end_of (Done at_end j l used) i k = if nat_eq j i && nat_eq l k then Some used else None
end_of _ i k = None

-- the units of job k of task i, of its first completion among the notes
abbrev pub first_end : List Note → ℕ → ℕ → Option ℕ
first_end [] i k = None
first_end (note ∷ notes) i k = option_or (end_of note i k) (first_end notes i k)

-- the demand that notes fix for a job from 1 on: the units of its first completion, or twice the charge if that is
-- more, and its worst case if the notes have no completion of it
abbrev pub fixed_demand : Plan → List Note → ℕ → ℕ → ℕ
fixed_demand p notes i k = unwrap_or (option_map (λ used. max used (job_charge p.machine)) (first_end notes i k)) (worst p i)
