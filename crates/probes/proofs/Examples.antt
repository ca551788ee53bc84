-- Probes and their limits, by evaluation.
use Rattle.std.proofs.Common.{◌≡◌, ℕ, ◌-◌, [], ◌∷◌, Option, Some, None, refl}
use Rattle.dvs_base.specs.Widths.{u64_end}
use Rattle.dvs_base.specs.declared.note.Note.{Note}
use Rattle.dvs_base.specs.declared.note.Note.TheVariants.{Run, Idle, Done}
use Rattle.dvs_base.specs.declared.note.Pos.{Pos}
use Rattle.probes.specs.declared.rule.What.{What}
use Rattle.probes.specs.declared.rule.What.TheVariants as what
use Rattle.probes.specs.declared.rule.Stay.TheVariants.{Stay, Leave}
use Rattle.probes.specs.Tallies.{ProbeView, stay_of, probe_after, told_all}

abbrev probe : What → Option ℕ → Option ℕ → ℕ → ProbeView
probe counted task limit tally = record { rule = record { what = counted; task = task; limit = limit }; tally = tally }

-- a probe that counts runs of task 1 and leaves at 3
abbrev three_runs : ℕ → ProbeView
three_runs tally = probe what.Runs (Some 1) (Some 3) tally

-- a probe of the units of all tasks, without a limit
abbrev all_units : ℕ → ProbeView
all_units tally = probe what.Units None None tally

abbrev at_tick : ℕ → Pos
at_tick tick = record { tick = tick; offset = 0 }

-- task i runs 5 units
abbrev five_units_of : ℕ → Note
five_units_of i = Run (at_tick 0) (at_tick 1) i 1 5 45000000000

-- 5 units that nobody needs
abbrev idle_units : Note
idle_units = Idle (at_tick 0) (at_tick 1) 5 0

-- a probe stays below its limit, and leaves at it
at_its_limit : (stay_of (three_runs 2) ∷ stay_of (three_runs 3) ∷ []) ≡ (Stay ∷ Leave ∷ [])
at_its_limit = refl

-- the third run is counted, and the probe leaves; a run of another task, or a `done` of task 1, isn't counted
third_run :
    (told_all (five_units_of 1) (three_runs 2 ∷ []) ∷ told_all (five_units_of 0) (three_runs 2 ∷ [])
    ∷ told_all (Done (at_tick 1) 1 1 5) (three_runs 2 ∷ []) ∷ [])
    ≡ ([] ∷ (three_runs 2 ∷ []) ∷ (three_runs 2 ∷ []) ∷ [])
third_run = refl

-- a probe of units counts those of each run, and no idle ones
units :
    (probe_after (five_units_of 2) (all_units 4) ∷ probe_after idle_units (all_units 4) ∷ []) ≡ (all_units 9 ∷ all_units 4 ∷ [])
units = refl

-- an idle segment names no task, so a probe of task 1 doesn't count it
of_no_task : probe_after idle_units (probe what.Idles (Some 1) None 0) ≡ probe what.Idles (Some 1) None 0
of_no_task = refl

-- a tally stops at 2^64 - 1
highest : probe_after (five_units_of 0) (all_units (u64_end - 2)) ≡ all_units (u64_end - 1)
highest = refl

-- a probe with limit 0 leaves at the first note, even one that it doesn't count
limit_of_none : told_all (five_units_of 0) (probe what.Idles None (Some 0) 0 ∷ three_runs 0 ∷ []) ≡ (three_runs 0 ∷ [])
limit_of_none = refl
