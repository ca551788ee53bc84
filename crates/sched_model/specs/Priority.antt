-- The order of the tasks at a tick, and the legal share of a tick.
use Rattle.std.specs.Prelude.{ℕ, Bool, ◌||◌, ◌&&◌, nat_eq, nat_lt, List, [], ◌∷◌, if◌then◌else◌, zero, suc, ◌+◌, ◌<◌, ◌≡◌, min, ◌-◌, length, Option, Some, None}
use Rattle.dvs_base.specs.declared.kind.Scheduler.{Scheduler}
use Rattle.dvs_base.specs.declared.kind.Scheduler.TheVariants.{Edf, Rm}
use Rattle.grid_fraction.specs.Numbers.{sum_where, list_below}
use Rattle.sched_model.specs.Plan.{Plan, period, count}
use Rattle.sched_model.specs.Jobs.{JobDemands, deadline}
use Rattle.sched_model.specs.Ticks.{Tick, share, units_left}

-- whether task j comes before task i: by the key, and among equal keys by the number
abbrev pub stands_before : (ℕ → ℕ) → ℕ → ℕ → Bool
stands_before key j i = nat_lt (key j) (key i) || (nat_eq (key j) (key i) && nat_lt j i)

-- the earlier by the key of task i and another; task i if there is no other
abbrev pub earlier_of : (ℕ → ℕ) → Option ℕ → ℕ → ℕ
earlier_of key None i = i
earlier_of key (Some k) i = if stands_before key i k then i else k

-- a list in the order of the key, with i put into its place
abbrev pub insert_by : (ℕ → ℕ) → ℕ → List ℕ → List ℕ
insert_by key i [] = i ∷ []
insert_by key i (j ∷ js) = if stands_before key i j then i ∷ j ∷ js else j ∷ insert_by key i js

-- the numbers below n in the order of the key, and among equal keys by number
unfoldable pub in_order : (ℕ → ℕ) → ℕ → List ℕ
in_order key zero = []
in_order key (suc n) = insert_by key n (in_order key n)

-- if the pairs are a key and its number for each number below n, the list has these numbers in the order of the key
abbrev pub AreInOrder : List (ℕ × ℕ) → List ℕ → Type 0
AreInOrder pairs numbers = (key : ℕ → ℕ) (n : ℕ) → pairs ≡ list_below n (λ i. (key i, i)) → numbers ≡ in_order key n

-- the key by which a scheduler orders the tasks at tick t: the deadline under EDF, the period under RM
abbrev pub key_of : Scheduler → Plan → ℕ → ℕ → ℕ
key_of Edf p t i = deadline p i t
key_of Rm p t i = period p i

-- whether task j is task i or comes before it
abbrev pub is_up_to : (ℕ → ℕ) → ℕ → ℕ → Bool
is_up_to key i j = stands_before key j i || nat_eq j i

-- the sum of f over the tasks that come before task i
abbrev pub sum_before : (n : ℕ) → (ℕ → ℕ) → (ℕ → ℕ) → ℕ → ℕ
sum_before n key f i = sum_where n (λ j. stands_before key j i) f

-- the sum of f over task i and the tasks that come before it
abbrev pub sum_up_to : (n : ℕ) → (ℕ → ℕ) → (ℕ → ℕ) → ℕ → ℕ
sum_up_to n key f i = sum_before n key f i + f i

-- `given` hands out `room` units in the order of the key:
-- each task and those before it get the smaller of `room` and what they need
abbrev pub SharesOut : (n : ℕ) → (ℕ → ℕ) → ℕ → (ℕ → ℕ) → (ℕ → ℕ) → Type 0
SharesOut n key room need given = (i : ℕ) → i < n → sum_up_to n key given i ≡ min room (sum_up_to n key need i)

-- the units of task i when `room` units are handed out in the order of the key:
-- what it and those before it take, less what those before it take
abbrev pub allotment : (n : ℕ) → (ℕ → ℕ) → ℕ → (ℕ → ℕ) → ℕ → ℕ
allotment n key room need i = min room (sum_up_to n key need i) - min room (sum_before n key need i)

-- a tick after `past` is legal at speed f: the f units go to the tasks by priority,
-- to each up to what its latest job needs
abbrev pub IsLegal : Plan → JobDemands → List Tick → ℕ → Tick → Type 0
IsLegal p dem past f x = SharesOut (count p) (key_of p.scheduler p (length past)) f (units_left p dem past) (share x)
