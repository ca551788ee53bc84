-- The demand of look-ahead (Pillai and Shin 2001): only the work that can't be put off past the earliest deadline.
-- It is a formula over the tick, the tasks' deadlines and what their jobs may still need: `due i` is Di, the deadline
-- of the latest job of task i, and `left i` is wleft_i.
use Rattle.std.specs.Prelude.{ℕ, ◌-◌, ◌*◌, ◌/◌, min, nat_eq, if◌then◌else◌, ◌+◌, List, [], ◌∷◌, ◌≡◌, ◌<◌, length}
use Rattle.grid_fraction.specs.declared.Frac.{Frac}
use Rattle.grid_fraction.specs.Numbers.{least_below, ceil_div, sum_where}
use Rattle.sched_model.specs.Plan.{Plan, count, hyper, rate, top_speed}
use Rattle.sched_model.specs.Jobs.{JobDemands, deadline}
use Rattle.sched_model.specs.Ticks.{PublishedDemand, wleft}
use Rattle.sched_model.specs.Priority.{sum_before, in_order, stands_before}

-- A, the earliest deadline
abbrev pub first_due : Plan → (ℕ → ℕ) → ℕ
first_due p due = least_below (count p) due

-- Li, the ticks from the earliest deadline to the deadline of task i
abbrev pub slack : Plan → (ℕ → ℕ) → ℕ → ℕ
slack p due i = due i - first_due p due

-- yi, the units of task i that are put off past the earliest deadline: as many as the highest speed has room for
-- beside the rates ui of the tasks before it and the sum `after` of the rates vj of the tasks after it
abbrev pub put_off : Plan → (ℕ → ℕ) → (ℕ → ℕ) → ℕ → ℕ → ℕ
put_off p due left after i =
    let before = sum_before (count p) due (rate p) i in
    if nat_eq (slack p due i) 0
    then 0
    else min (left i) (((top_speed p * hyper p) - before - after) * slack p due i / hyper p)

-- vi, the rate that task i needs from the earliest deadline on for the units that it put off; ui if Li is 0
abbrev pub spread_rate : Plan → (ℕ → ℕ) → (ℕ → ℕ) → ℕ → ℕ → ℕ
spread_rate p due left after i =
    if nat_eq (slack p due i) 0
    then rate p i
    else ceil_div (put_off p due left after i * hyper p) (slack p due i)

-- the sum of the vi of the tasks of a list, which are the last tasks in EDF order
abbrev pub spread_rates : Plan → (ℕ → ℕ) → (ℕ → ℕ) → List ℕ → ℕ
spread_rates p due left [] = 0
spread_rates p due left (i ∷ later) =
    let after = spread_rates p due left later in spread_rate p due left after i + after

-- the sum of wleft_i - yi over the tasks of a list, which are the last tasks in EDF order:
-- the units that have to run before the earliest deadline
abbrev pub due_first : Plan → (ℕ → ℕ) → (ℕ → ℕ) → List ℕ → ℕ
due_first p due left [] = 0
due_first p due left (i ∷ later) =
    (left i - put_off p due left (spread_rates p due left later) i) + due_first p due left later

-- the demand of `la` at tick t: the sum of wleft_i - yi over all tasks, over the time to the earliest deadline
abbrev pub ahead_of : Plan → (ℕ → ℕ) → (ℕ → ℕ) → ℕ → Frac
ahead_of p due left t = record { num = due_first p due left (in_order due (count p)); den = first_due p due - t }

-- The yi and vi by equations over all tasks at once.

-- the sum of f over the tasks after task i
abbrev pub sum_after : (n : ℕ) → (ℕ → ℕ) → (ℕ → ℕ) → ℕ → ℕ
sum_after n key f i = sum_where n (λ j. stands_before key i j) f

-- what is left of the highest speed, over H, beside the uj of the tasks before task i and the vj of those after it
abbrev pub speed_left : Plan → (ℕ → ℕ) → (ℕ → ℕ) → ℕ → ℕ
speed_left p due v i = top_speed p * hyper p - sum_before (count p) due (rate p) i - sum_after (count p) due v i

-- y are the yi and v the vi. A task with the earliest deadline puts off none and keeps its rate. Another task puts off
-- as many units as the highest speed has room for, and its rate is what they then need.
pub record IsSpread (p : Plan) (due left y v : ℕ → ℕ) : Type 0 where
  pub put : (i : ℕ) → i < count p
      → y i ≡ (if nat_eq (slack p due i) 0 then 0 else min (left i) (speed_left p due v i * slack p due i / hyper p))
  pub needs : (i : ℕ) → i < count p
      → v i ≡ (if nat_eq (slack p due i) 0 then rate p i else ceil_div (y i * hyper p) (slack p due i))

-- the demand of `la` under EDF at the tick after `past`
abbrev pub edf_ahead : Plan → JobDemands → PublishedDemand
edf_ahead p dem past = let t = length past in ahead_of p (λ i. deadline p i t) (wleft p dem past) t
