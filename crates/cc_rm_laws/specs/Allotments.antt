-- Cycle conservation under RM over a state (Pillai and Shin 2001): the allotments of a mark, and what is left of them.
use Rattle.std.specs.Prelude.{ℕ, ◌-◌, slice_index}
use Rattle.grid_fraction.specs.declared.Frac.{Frac}
use Rattle.sched_model.specs.Plan.{Plan}
use Rattle.sched_model.specs.CycleDemand.{SinceRelease, units_at_mark, allotted_of, allotment_left_of, rm_cycle_of}
use Rattle.sched_model.specs.States.{StateView, row_at, earliest_in}
use Rattle.governor.specs.Steps.{wleft_at}

-- what the job of task i might still need at the mark
abbrev pub base_of : StateView → ℕ → ℕ
base_of s i = slice_index s.base i

-- what the job of task i has had since the mark
abbrev pub had_since_mark : StateView → ℕ → ℕ
had_since_mark s i = base_of s i - wleft_at s i

-- the last mark and the counters that the demand uses, from a state
abbrev pub since_mark : Plan → StateView → SinceRelease
since_mark plan s = record {
  mark = s.base_at;
  first = earliest_in plan s;
  base = base_of s;
  had = had_since_mark s;
  done = λ i. (row_at s i).done;
}

-- the units that the static speed does from the mark to the earliest deadline
abbrev pub allotted_units : Plan → StateView → ℕ
allotted_units plan s = units_at_mark plan (since_mark plan s)

-- the units that task i gets when the allotted units are handed out in RM order, to each task at most its base
abbrev pub allotted_in : Plan → StateView → ℕ → ℕ
allotted_in plan s i = allotted_of plan (since_mark plan s) i

-- what is left of the allotment of task i; 0 if its job is complete
abbrev pub allotment_left_in : Plan → StateView → ℕ → ℕ
allotment_left_in plan s i = allotment_left_of plan (since_mark plan s) i

-- the published demand: the sum of what is left of the allotments, over the time to the earliest deadline
abbrev pub rm_cycle_demand : Plan → StateView → Frac
rm_cycle_demand plan s = rm_cycle_of plan (since_mark plan s) s.now
