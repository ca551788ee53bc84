-- The demands of cycle conservation (Pillai and Shin 2001): what completed jobs did not need is taken off.
-- Both are formulas over the tasks. Under EDF they use what each task is charged with. Under RM they use what each
-- job might need at the last release and what it has had since.
use Rattle.std.specs.Prelude.{ℕ, ◌*◌, ◌/◌, List, length, if◌then◌else◌, Bool, ◌-◌}
use Rattle.grid_fraction.specs.declared.Frac.{Frac}
use Rattle.grid_fraction.specs.Numbers.{sum_below}
use Rattle.sched_model.specs.Plan.{Plan, period, hyper, count, worst}
use Rattle.sched_model.specs.Jobs.{latest, JobDemands, last_release, earliest}
use Rattle.sched_model.specs.Ticks.{PublishedDemand, Tick, is_complete, at, exec, wleft}
use Rattle.sched_model.specs.Priority.{allotment}
use Rattle.sched_model.specs.StaticDemand.{static_speed}

-- the work of task i in H ticks, when each of its jobs takes `units` units
abbrev pub rate_for : Plan → ℕ → ℕ → ℕ
rate_for p i units = units * (hyper p / period p i)

-- the demand of `cc` under EDF, where `units i` is Vi: the sum of Vi*(H/Pi), over H
abbrev pub edf_cycle_of : Plan → (ℕ → ℕ) → Frac
edf_cycle_of p units = record { num = sum_below (count p) (λ i. rate_for p i (units i)); den = hyper p }

-- Vi: Ci while the latest job of task i is incomplete, and otherwise that job's demand
abbrev pub cycle_units : Plan → JobDemands → List Tick → ℕ → ℕ
cycle_units p dem past i = if is_complete p dem past i then dem i (latest p i (length past)) else worst p i

-- the demand of `cc` under EDF at the tick after `past`
abbrev pub edf_cycle : Plan → JobDemands → PublishedDemand
edf_cycle p dem past = edf_cycle_of p (cycle_units p dem past)

-- What the demand under RM uses: the last release r, the earliest deadline N after it, and for each task what its job
-- might need at r, what it has had since, and whether it is complete.
pub record SinceRelease : Type 0 where
  pub mark : ℕ
  pub first : ℕ
  pub base : ℕ → ℕ
  pub had : ℕ → ℕ
  pub done : ℕ → Bool

-- the (N-r)*fs units that are allotted at r
abbrev pub units_at_mark : Plan → SinceRelease → ℕ
units_at_mark p v = (v.first - v.mark) * static_speed p

-- the units that task i gets when the (N-r)*fs units are handed out in RM order
abbrev pub allotted_of : Plan → SinceRelease → ℕ → ℕ
allotted_of p v i = allotment (count p) (period p) (units_at_mark p v) v.base i

-- di, what is left of the allotment of task i; 0 if its job is complete
abbrev pub allotment_left_of : Plan → SinceRelease → ℕ → ℕ
allotment_left_of p v i = if v.done i then 0 else allotted_of p v i - v.had i

-- the demand of `cc` under RM at tick t: the sum of the di, over N-t
abbrev pub rm_cycle_of : Plan → SinceRelease → ℕ → Frac
rm_cycle_of p v t = record { num = sum_below (count p) (allotment_left_of p v); den = v.first - t }

-- the units that the latest job of task i has had since the last release
abbrev pub had_since_release : Plan → List Tick → ℕ → ℕ
had_since_release p past i =
    let r = last_release p (length past) in
    let k = latest p i r in
    exec p past i k - exec p (at r past) i k

-- the last release and the counters of the latest jobs at the tick after `past`
abbrev pub since_release : Plan → JobDemands → List Tick → SinceRelease
since_release p dem past = record {
  mark = last_release p (length past);
  first = earliest p (last_release p (length past));
  base = wleft p dem (at (last_release p (length past)) past);
  had = had_since_release p past;
  done = is_complete p dem past;
}

-- the units that task i is allotted at the last release
abbrev pub allotment_at_release : Plan → JobDemands → List Tick → ℕ → ℕ
allotment_at_release p dem past i = allotted_of p (since_release p dem past) i

-- di at the tick after `past`: what is left of the units that task i is allotted at the last release
abbrev pub allotment_left : Plan → JobDemands → List Tick → ℕ → ℕ
allotment_left p dem past i = allotment_left_of p (since_release p dem past) i

-- the demand of `cc` under RM at the tick after `past`
abbrev pub rm_cycle : Plan → JobDemands → PublishedDemand
rm_cycle p dem past = rm_cycle_of p (since_release p dem past) (length past)
