-- Two demand lists whose schedules have the same notes, and lists whose schedules don't, by evaluation.
use Rattle.std.proofs.Common.{◌≡◌, ℕ, List, [], ◌∷◌, refl, arith}
use Rattle.dvs_base.specs.declared.kind.Scheduler.TheVariants.{Edf}
use Rattle.dvs_base.specs.declared.kind.GovernorKind.TheVariants.{Plain}
use Rattle.task_model.specs.DemandRows.{DemandRow}
use Rattle.sched_model.specs.Plan.{Plan, plan_of}
use Rattle.sched_model.specs.Jobs.{release, due, latest, demand_of}
use Rattle.sched_model.specs.Demand.{published}
use Rattle.sched_model.specs.Notes.{notes_before_end}
use Rattle.sched_model.specs.Priority.{in_order}
use Rattle.sched_model.specs.Schedule.{schedule_by}
use Rattle.sched_model.proofs.Examples.{row}
use Rattle.replay_laws.specs.OwnList.{Asking, ticks_by, notes_by, TellSame}

-- one task with period 5 and a worst case of 4 units, at speed 1
abbrev one_task : Plan
one_task =
    plan_of (record { name = 97 ∷ []; period = 5; worst = 4; offset = 0 } ∷ [])
    (record { points = record { speed = 1; millivolts = 1000 } ∷ []; idle = 0; charge = 0 }) Edf

abbrev asked : Asking
asked = published one_task Plain

-- the first job needs this many units
abbrev first_needs : ℕ → List DemandRow
first_needs units = row 0 1 units ∷ []

-- the condition on two lists, over two ticks
abbrev Agree : List DemandRow → List DemandRow → Type 0
Agree rows others =
    TellSame one_task (demand_of one_task rows) (demand_of one_task others) (ticks_by one_task asked (demand_of one_task rows) 2)

-- after two ticks the first job isn't done, whether it needs three units or four
still_open :
    notes_by one_task asked (demand_of one_task (first_needs 3)) 2 ≡ notes_by one_task asked (demand_of one_task (first_needs 4)) 2
unfolding published in_order release due latest schedule_by notes_before_end
still_open = refl

-- a job that isn't done after its two units doesn't need two
done_by_then : Agree (first_needs 4) (first_needs 2) → ⊥
unfolding published in_order release due latest schedule_by
done_by_then h = absurd (omega (arith, h.unfinished 0 1 (omega arith) (omega arith) (omega arith) refl))

-- a job that is done after its two units doesn't need three
needs_more : Agree (first_needs 2) (first_needs 3) → ⊥
unfolding published in_order release due latest schedule_by
needs_more h = absurd (omega (arith, h.finished 0 1 (omega arith) (omega arith) (omega arith) refl))
