-- A boundary of a governor's schedule: its releases and its decision.
use Rattle.std.specs.Prelude.{ℕ, ◌+◌, Bool, nat_eq, if◌then◌else◌, List, [], ◌∷◌}
use Rattle.grid_fraction.specs.declared.Frac.{Frac}
use Rattle.dvs_base.specs.declared.note.Note.{Note}
use Rattle.dvs_base.specs.declared.note.Note.TheVariants.{Release, Done, Speed}
use Rattle.grid_fraction.specs.Numbers.{any_below}
use Rattle.sched_model.specs.Plan.{Plan, count, point}
use Rattle.sched_model.specs.Jobs.{JobDemands}
use Rattle.sched_model.specs.States.{row_at, StateView}
use Rattle.freq_table.specs.Tables.{lowest_entry}

-- whether the next job of a task needs nothing, and is complete at its release
abbrev pub needs_nothing : JobDemands → StateView → ℕ → Bool
needs_nothing dem s i = nat_eq (dem i ((row_at s i).job + 1)) 0

-- the notes of the release of a task's next job: the release, and the completion if the job needs nothing
abbrev pub opening_notes : JobDemands → StateView → ℕ → List Note
opening_notes dem s i =
    Release s.now i ((row_at s i).job + 1)
    ∷ (if needs_nothing dem s i then Done (record { tick = s.now; offset = 0 }) i ((row_at s i).job + 1) 0 ∷ [] else [])

-- whether some row's deadline is the state's tick
abbrev pub some_due : Plan → StateView → Bool
some_due p s = any_below (count p) (λ i. nat_eq (row_at s i).deadline s.now)

-- the note of a decision at tick t for the demand d
abbrev pub speed_note : Plan → ℕ → Frac → Note
speed_note p t d = Speed t ((point p (lowest_entry p.machine d)).speed) d.num d.den
