-- Loads: tasks whose jobs count beside other work, in the order in which the search takes them away.
use Rattle.std.specs.Prelude.{ℕ, List, [], ◌∷◌, length, take, insert, sum_by, All, ◌≡◌, ◌+◌, ◌-◌, ◌*◌, ◌/◌, ◌<◌, ◌≤◌}
use Rattle.grid_fraction.specs.Numbers.{ceil_div}
use Rattle.dvs_base.specs.declared.limits.TheConstants.{MOST_TASKS}
use Rattle.sched_model.specs.Plan.{Plan, count, period, worst, rate}
use Rattle.sched_model.specs.Priority.{sum_before}
use Rattle.rm_response_laws.specs.HeldWork.{held_work}
use Rattle.rm_response.specs.declared.inputs.Load.{Load}
use Rattle.rm_response.specs.declared.inputs.Search.{Search}
use Rattle.rm_response.specs.declared.inputs.Supply.{Supply}
use Rattle.rm_response.specs.Supplies.{IsDone, IsFull}

-- the work of the jobs of a load that t ticks can hold
abbrev pub held : ℕ → Load → ℕ
held t x = ceil_div t x.period * x.worst

-- the work that loads can ask for in t ticks
abbrev pub work_of : List Load → ℕ → ℕ
work_of xs t = sum_by (held t) xs

-- the work of loads in a hyperperiod
abbrev pub rates_of : List Load → ℕ
rates_of xs = sum_by (λ x. x.rate) xs

-- a load is task j of a plan
pub record IsLoadOf (p : Plan) (j : ℕ) (x : Load) : Type 0 where
  pub period_is : x.period ≡ period p j
  pub worst_is : x.worst ≡ worst p j
  pub rate_is : x.rate ≡ rate p j

-- in h ticks, a multiple of its period, the jobs of a load ask for its rate
abbrev pub HasRate : ℕ → Load → Type 0
HasRate h x = x.rate * x.period ≡ x.worst * h

-- some number of ticks, from 1 to `most`, is enough for loads: in them a supply does the work that they can ask for
pub record AreServedWithin (s : Supply) (xs : List Load) (most : ℕ) : Type 0 where
  pub ticks : ℕ
  pub some : 1 ≤ ticks
  pub within : ticks ≤ most
  pub done : IsDone s (work_of xs ticks) ticks

-- loads can be taken away in turn: each is served within its period, and with it all loads after it
abbrev pub AreInTurn : Supply → List Load → Type 0
AreInTurn s [] = Unit {0}
AreInTurn s (x ∷ xs) = AreServedWithin s (x ∷ xs) x.period × AreInTurn s xs

-- all loads but the last `tail` can be taken away in turn
abbrev pub AreInTurnTo : ℕ → Supply → List Load → Type 0
AreInTurnTo tail s [] = Unit {0}
AreInTurnTo tail s (x ∷ xs) = (tail < length (x ∷ xs) → AreServedWithin s (x ∷ xs) x.period) × AreInTurnTo tail s xs

-- at most as many loads as a set has tasks, which can be taken away in turn with a supply
pub record AreLoads (s : Supply) (xs : List Load) : Type 0 where
  pub few : length xs ≤ MOST_TASKS
  pub rates : All (HasRate s.hyper) xs
  pub in_turn : AreInTurn s xs

-- at most as many loads as a set has tasks: all but the last can be taken away in turn with the low supply of a search,
-- and all with the whole one
pub record AreSearched (q : Search) (xs : List Load) : Type 0 where
  pub few : length xs ≤ MOST_TASKS
  pub rates : All (HasRate q.low.hyper) xs
  pub turn : AreInTurnTo q.tail q.low xs
  pub whole : AreInTurn q.whole xs

-- the last release of a load before tick t
abbrev pub release_before : ℕ → Load → ℕ
release_before t x = (t - 1) / x.period * x.period

-- the loads are the tasks before task i in RM order
pub record AreBefore (p : Plan) (i : ℕ) (xs : List Load) : Type 0 where
  pub few : length xs ≤ MOST_TASKS
  pub loads : (s : Supply) → IsFull p s → AreLoads s xs
  pub work : (t : ℕ) → work_of xs t ≡ sum_before (count p) (period p) (held_work p t) i

-- a load is put into others, after some whose periods are at least s ticks
pub record IsPutAfter (s : ℕ) (x : Load) (old new : List Load) : Type 0 where
  pub place : ℕ
  pub within : place ≤ length old
  pub long : All (λ y. s ≤ y.period) (take place old)
  pub is : new ≡ insert old place x

-- y is the load x, or x and one of the old loads of the same period as one, and the new loads are the others
pub record IsJoined (x : Load) (old : List Load) (y : Load) (new : List Load) : Type 0 where
  pub same_period : y.period ≡ x.period
  pub fewer : length new ≤ length old
  pub work : (t : ℕ) → held t y + work_of new t ≡ held t x + work_of old t
  pub rates : (h : ℕ) → HasRate h x → All (HasRate h) old → HasRate h y × All (HasRate h) new
  pub in_turn : (s : Supply) → AreInTurn s old → AreInTurn s new

-- a load x is put into others, after some whose periods are at least s ticks, as one with the load of the same period
pub record IsAdded (s : ℕ) (x : Load) (old new : List Load) : Type 0 where
  pub both : Load
  pub others : List Load
  pub joined : IsJoined x old both others
  pub put : IsPutAfter s both others new
