-- Notes of a schedule are those of the schedule for the demand list that they fix.
use Rattle.std.specs.Prelude.{◌≡◌, ◌↔◌, ◌<◌, ◌≤◌, ℕ, true, false, List, length}
use Rattle.std.specs.List.{AllByRecursion}
use Rattle.dvs_base.specs.declared.kind.GovernorKind.{GovernorKind}
use Rattle.dvs_base.specs.declared.note.Note.{Note}
use Rattle.dvs_base.specs.declared.note.Note.TheVariants.{Done}
use Rattle.task_model.specs.DemandRows.{DemandRow}
use Rattle.demand_list.specs.Demands.{IsDemands}
use Rattle.sched_model.specs.Plan.{Plan, count, worst}
use Rattle.sched_model.specs.Jobs.{JobDemands, release, demand_of, IsWithin}
use Rattle.sched_model.specs.Ticks.{PublishedDemand, Tick, exec, is_done}
use Rattle.sched_model.specs.Demand.{published}
use Rattle.sched_model.specs.Schedule.{schedule_by}
use Rattle.sched_model.specs.Notes.{notes_of}
use Rattle.governor.specs.Meanings.{OwnDemand}
use Rattle.governor.specs.Schedule.{ask_of}
use Rattle.replay_laws.specs.FixedDemands.{fixed_of, fixed_list, fixed_demand}

-- a way to choose the published demand, from the demands of the jobs and the ticks so far
abbrev pub Asking : Type 0
Asking = JobDemands → PublishedDemand

-- the first `ticks` ticks of the schedule for these demands
abbrev pub ticks_by : Plan → Asking → JobDemands → ℕ → List Tick
ticks_by p ask dem ticks = schedule_by p dem (ask dem) ticks

-- the notes of the first `ticks` ticks of the schedule for these demands
abbrev pub notes_by : Plan → Asking → JobDemands → ℕ → List Note
notes_by p ask dem ticks = notes_of p dem (ask dem) (ticks_by p ask dem ticks)

-- Two demands for the same notes: a job that completes in the ticks needs the same by both, and a released one that
-- doesn't needs more than it has had by the other too. Jobs released later may need anything.
pub record TellSame (p : Plan) (dem other : JobDemands) (ticks : List Tick) : Type 0 where
  pub finished : (i k : ℕ) → i < count p → 1 ≤ k → release p i k < length ticks
      → is_done p dem ticks i k ≡ true → dem i k ≡ other i k
  pub unfinished : (i k : ℕ) → i < count p → 1 ≤ k → release p i k < length ticks
      → is_done p dem ticks i k ≡ false → exec p ticks i k < other i k
  pub none : (i : ℕ) → dem i 0 ≡ 0
  pub other_none : (i : ℕ) → other i 0 ≡ 0

-- the published demand depends on no job's demand before its completion: two such demands give equal ticks and notes
abbrev pub LooksAtNone : Plan → Asking → Type 0
LooksAtNone p ask =
    (dem other : JobDemands) (ticks : ℕ) → TellSame p dem other (ticks_by p ask dem ticks)
    → (ticks_by p ask other ticks ≡ ticks_by p ask dem ticks) × (notes_by p ask other ticks ≡ notes_by p ask dem ticks)

-- the schedules for two lists have the same notes exactly if each job that completes needs the same by both lists,
-- and each other released job needs more by the second list than it has had
abbrev pub HasSameNotes : Plan → Asking → Type 0
HasSameNotes p ask =
    (rows others : List DemandRow) (ticks : ℕ) → IsWithin p (demand_of p rows) → IsWithin p (demand_of p others)
    → (notes_by p ask (demand_of p others) ticks ≡ notes_by p ask (demand_of p rows) ticks)
    ↔ TellSame p (demand_of p rows) (demand_of p others) (ticks_by p ask (demand_of p rows) ticks)

-- the notes are those of the schedule for the demands of a list, which exceed no worst case
pub record AreNotesFor (p : Plan) (ask : Asking) (ticks : ℕ) (notes : List Note) (rows : List DemandRow) : Type 0 where
  pub within : IsWithin p (demand_of p rows)
  pub notes_are : notes ≡ notes_by p ask (demand_of p rows) ticks

-- the units of a completion are at most its task's worst case
abbrev pub IsFit : Plan → Note → Type 0
IsFit p (Done at_end i k used) = used ≤ worst p i
IsFit p _ = Unit {0}

-- the notes are those of the schedule for the list that they fix, and each completion is within its worst case
pub record AreOwn (p : Plan) (ask : Asking) (ticks : ℕ) (notes : List Note) : Type 0 where
  pub fit : AllByRecursion (IsFit p) notes
  pub notes_are : notes ≡ notes_by p ask (demand_of p (fixed_of p notes)) ticks

-- notes are those of the schedule for some list exactly if they are those for the list that they fix, which is then
-- a demand list of the plan
pub record HasOwnList (p : Plan) (ask : Asking) : Type 0 where
  pub of_some : (ticks : ℕ) (notes : List Note) (rows : List DemandRow)
      → AreNotesFor p ask ticks notes rows → AreOwn p ask ticks notes
  pub of_own : (ticks : ℕ) (notes : List Note)
      → AreOwn p ask ticks notes → AreNotesFor p ask ticks notes (fixed_of p notes)
  pub list : (ticks : ℕ) (notes : List Note) → AreOwn p ask ticks notes → IsDemands (fixed_list p notes)

-- the demand list that notes fix has the demands that they fix
abbrev pub HasFixedDemands : Plan → Type 0
HasFixedDemands p =
    (notes : List Note) (i k : ℕ) → 1 ≤ k → demand_of p (fixed_of p notes) i k ≡ fixed_demand p notes i k

-- the law of fixed demands, for any function of the states as published demand, and for each kind of governor
pub record OwnLists (p : Plan) : Type 0 where
  pub fixed : HasFixedDemands p
  pub looks : (demand : OwnDemand) → LooksAtNone p (ask_of demand p)
  pub own : (demand : OwnDemand) → HasOwnList p (ask_of demand p)
  pub same : (demand : OwnDemand) → HasSameNotes p (ask_of demand p)
  pub published_looks : (kind : GovernorKind) → LooksAtNone p (published p kind)
  pub published_own : (kind : GovernorKind) → HasOwnList p (published p kind)
  pub published_same : (kind : GovernorKind) → HasSameNotes p (published p kind)
