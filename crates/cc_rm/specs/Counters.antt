-- The counters of cycle-conserving RM: the formulas of the allotments that they keep.
use Rattle.std.specs.Prelude.{◌≡◌, ℕ, ◌-◌, ◌<◌, ◌≤◌, List, length, slice_index, Option, None, Some, IfSome}
use Rattle.sched_model.specs.Plan.{Plan, count}
use Rattle.sched_model.specs.StaticDemand.{static_speed}
use Rattle.sched_model.specs.States.{StateView, earliest_in}
use Rattle.governor.specs.ServedSchedulers.{ServesRm}
use Rattle.governor.specs.Steps.{wleft_at}
use Rattle.cc_rm_laws.specs.Allotments.{base_of, allotment_left_in, rm_cycle_demand}
use Rattle.cc_rm.specs.declared.counters.Allotments.{Allotments}

-- each element of `rests` is what is left of its task's allotment
abbrev pub AreRests : List ℕ → Plan → StateView → Type 0
AreRests rests plan s = (i : ℕ) → i < count plan → slice_index rests i ≡ allotment_left_in plan s i

-- The counters are right for a mark: the rest of each allotment, the sum of the rests, and the deadline up to which
-- they were allotted. No job may need more than it might at the mark.
pub record AreOf (rests : List ℕ) (all : Allotments) (plan : Plan) (s : StateView) : Type 0 where
  pub rests_are : AreRests rests plan s
  pub left_is : all.left ≡ (rm_cycle_demand plan s).num
  pub first_is : all.first ≡ earliest_in plan s
  pub within : (i : ℕ) → i < count plan → wleft_at s i ≤ base_of s i

-- the counters are right for a state: the plan is under RM, the speed is the static one, there is a rest for each
-- task, and kept allotments are the state's
pub record AreCounters (speed : ℕ) (rests : List ℕ) (kept : Option Allotments) (plan : Plan) (s : StateView) : Type 0 where
  pub served : ServesRm plan.scheduler
  pub speed_is : speed ≡ static_speed plan
  pub one_each : length rests ≡ count plan
  pub allotted : IfSome kept (λ all. AreOf rests all plan s)

-- the allotments after `units` of the units left are used
abbrev pub allotments_after : ℕ → Option Allotments → Option Allotments
allotments_after units None = None
allotments_after units (Some all) = Some (record all { left = all.left - units })
