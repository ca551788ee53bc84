-- The state after a boundary and after a tick, for given demands of the jobs.
use Rattle.std.specs.Prelude.{ℕ, suc, List, [], ◌∷◌, ◌==◌, Bool, ◌+◌, if◌then◌else◌, map, ◌-◌, slice_index, ◌≡◌, length, ◌||◌, ◌<◌, ◌≤◌, true, false}
use Rattle.std.specs.List.{list_any}
use Rattle.task_model.specs.declared.limits.TheConstants.{LONGEST_PERIOD}
use Rattle.freq_table.specs.Tables.{speed_at}
use Rattle.sched_model.specs.declared.state.Row.{Row}
use Rattle.sched_model.specs.Priority.{SharesOut}
use Rattle.sched_model.specs.Plan.{Plan, period, count}
use Rattle.sched_model.specs.Jobs.{JobDemands, latest_since, due as due_at, IsWithin}
use Rattle.grid_fraction.specs.Numbers.{greatest_below}
use Rattle.sched_model.specs.States.{released_row, StateView, row_wleft, row_at, key_in, IsOfPlan}

-- the rows, each changed by a function of its place and itself; the first place is i
abbrev pub each_row : (ℕ → Row → Row) → ℕ → List Row → List Row
each_row f i [] = []
each_row f i (row ∷ rows) = f i row ∷ each_row f (suc i) rows

-- whether a row's job is due now
abbrev pub is_due : ℕ → Row → Bool
is_due now row = row.deadline == now

-- a row after its release, complete if its job has no demand
abbrev pub opened_row : Plan → JobDemands → ℕ → Row → Row
opened_row plan dem i row = record (released_row (period plan i) row) { done = (dem i (row.job + 1) == 0) }

-- a row after a boundary: after its release if it is due, and otherwise unchanged
abbrev pub boundary_row : Plan → JobDemands → ℕ → ℕ → Row → Row
boundary_row plan dem now i row = if is_due now row then opened_row plan dem i row else row

-- all rows of a state after a boundary
abbrev pub boundary_rows : Plan → JobDemands → StateView → List Row
boundary_rows plan dem s = each_row (boundary_row plan dem s.now) 0 s.rows

-- the state after the releases of a boundary, and after its mark if some task is released
abbrev pub after_boundary : Plan → JobDemands → StateView → StateView
after_boundary plan dem s = record {
  now = s.now;
  rows = boundary_rows plan dem s;
  base_at = (if list_any (is_due s.now) s.rows then s.now else s.base_at);
  base = (if list_any (is_due s.now) s.rows then map row_wleft (boundary_rows plan dem s) else s.base);
}

-- the release of the row's job of task i; 0 for job 0
abbrev pub release_of : Plan → ℕ → Row → ℕ
release_of plan i row = latest_since plan i row.job

-- the last release of the rows' jobs; 0 if there is none
abbrev pub last_marked : Plan → StateView → ℕ
last_marked plan s = greatest_below (count plan) (λ i. release_of plan i (row_at s i))

-- the units that the row's job of task i still needs; 0 if it is complete
abbrev pub left_of : JobDemands → ℕ → Row → ℕ
left_of dem i row = if row.done then 0 else dem i row.job - row.used

-- the units that the job of task i still needs in a state; 0 if it is complete
abbrev pub left_in : JobDemands → StateView → ℕ → ℕ
left_in dem s i = left_of dem i (row_at s i)

-- the units that the job of task i may still need at most; 0 if it is complete
abbrev pub wleft_at : StateView → ℕ → ℕ
wleft_at s i = row_wleft (row_at s i)

-- the units of task i in a list of shares
abbrev pub share_in : List ℕ → ℕ → ℕ
share_in shares i = slice_index shares i

-- the f units of a tick are shared out by priority, to each task up to what its job needs
pub record IsLegalIn (plan : Plan) (dem : JobDemands) (f : ℕ) (s : StateView) (shares : List ℕ) : Type 0 where
  pub one_each : length shares ≡ count plan
  pub out : SharesOut (count plan) (key_in plan.scheduler plan s) f (left_in dem s) (share_in shares)

-- a row after its units of a tick; it is complete if its job has had its demand
abbrev pub tick_row : JobDemands → List ℕ → ℕ → Row → Row
tick_row dem shares i row =
    let used = row.used + share_in shares i in
    record row { used = used; done = (row.done || (used == dem i row.job)) }

-- the state after a tick with these shares
abbrev pub after_tick : JobDemands → List ℕ → StateView → StateView
after_tick dem shares s = record s { now = s.now + 1; rows = each_row (tick_row dem shares) 0 s.rows }

-- the present tick is before every deadline
abbrev pub IsBeforeAll : Plan → StateView → Type 0
IsBeforeAll plan s = (i : ℕ) → i < count plan → s.now < (row_at s i).deadline

-- a tick with these shares may follow with the entry k in force: it is legal at the entry's speed, and the present
-- tick is before every deadline
pub record MayFollow (plan : Plan) (dem : JobDemands) (s : StateView) (k : ℕ) (shares : List ℕ) : Type 0 where
  pub before : IsBeforeAll plan s
  pub entry : k < length plan.machine.points
  pub legal : IsLegalIn plan dem (speed_at plan.machine k) s shares

-- the state is at a decision: before every deadline, each of which is within the longest period,
-- and with a mark no earlier than any release, whose bases cover what each job may still need
pub record IsAtDecision (plan : Plan) (s : StateView) : Type 0 where
  pub before : IsBeforeAll plan s
  pub soon : (i : ℕ) → i < count plan → (row_at s i).deadline ≤ s.now + LONGEST_PERIOD
  pub marked : s.base_at ≤ s.now
  pub since : (i : ℕ) → i < count plan → release_of plan i (row_at s i) ≤ s.base_at
  pub base : (i : ℕ) → i < count plan → row_wleft (row_at s i) ≤ slice_index s.base i

-- the state is one of a run of the plan with these demands: its rows have the plan's deadlines and releases,
-- its mark is the last release, and a job is complete exactly if it has had its demand
pub record Belongs (plan : Plan) (dem : JobDemands) (s : StateView) : Type 0 where
  pub of : IsOfPlan plan s
  pub demand : IsWithin plan dem
  pub due : (i : ℕ) → i < count plan → s.now ≤ (row_at s i).deadline
  pub deadline : (i : ℕ) → i < count plan → (row_at s i).deadline ≡ due_at plan i (row_at s i).job
  pub released : (i : ℕ) → i < count plan → release_of plan i (row_at s i) ≤ s.now
  pub base_at : s.base_at ≡ last_marked plan s
  pub base : (i : ℕ) → i < count plan → row_wleft (row_at s i) ≤ slice_index s.base i
  pub open_job : (i : ℕ) → i < count plan → (row_at s i).done ≡ false → (row_at s i).used < dem i (row_at s i).job
  pub closed_job : (i : ℕ) → i < count plan → (row_at s i).done ≡ true → 0 < (row_at s i).job
      → (row_at s i).used ≡ dem i (row_at s i).job
