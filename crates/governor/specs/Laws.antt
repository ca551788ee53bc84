-- The laws of a governor, over plain data.
use Rattle.std.specs.Prelude.{◌<◌, ◌≤◌, ℕ, ◌≡◌, true, List}
use Rattle.dvs_base.specs.Widths.{u64_end}
use Rattle.dvs_base.specs.declared.kind.Scheduler.{Scheduler}
use Rattle.dvs_base.specs.declared.kind.GovernorKind.{GovernorKind}
use Rattle.dvs_base.specs.PlanWords.{IsPair}
use Rattle.grid_fraction.specs.declared.Frac.{Frac}
use Rattle.freq_table.specs.Tables.{lowest_entry, lowest_pick}
use Rattle.sched_model.specs.Plan.{Plan, count}
use Rattle.sched_model.specs.Jobs.{JobDemands}
use Rattle.sched_model.specs.Demand.{IsAlwaysMet}
use Rattle.sched_model.specs.Admission.{IsAdmitted}
use Rattle.sched_model.specs.States.{StateView, IsOfPlan, row_at, opening}
use Rattle.governor.specs.Meanings.{Serving, OwnDemand, Condition, EntryCondition}
use Rattle.governor.specs.Steps.{Belongs, IsAtDecision, after_tick, MayFollow, after_boundary}

-- an admitted plan whose scheduler is served
pub record IsServed (serves : Serving) (plan : Plan) : Type 0 where
  pub admitted : IsAdmitted plan
  pub served : serves plan.scheduler

-- an admitted plan whose scheduler is served, with a state that belongs to a demand list
pub record InRun (serves : Serving) (plan : Plan) (dem : JobDemands) (s : StateView) : Type 0 where
  pub admitted : IsAdmitted plan
  pub served : serves plan.scheduler
  pub belongs : Belongs plan dem s

-- a fact holds of each plan that is served
abbrev pub OfEachPlan : Serving → (Plan → Type 0) → Type 0
OfEachPlan serves Holds = (plan : Plan) → IsServed serves plan → Holds plan

-- a fact holds of each state at a decision of each plan that is served
abbrev pub AtEachDecision : Serving → (Plan → StateView → Type 0) → Type 0
AtEachDecision serves Holds =
    (plan : Plan) (s : StateView) → IsServed serves plan → IsOfPlan plan s → IsAtDecision plan s → Holds plan s

-- a fact holds of each state in the runs of each plan that is served
abbrev pub InEachRun : Serving → (Plan → JobDemands → StateView → Type 0) → Type 0
InEachRun serves Holds = (plan : Plan) (dem : JobDemands) (s : StateView) → InRun serves plan dem s → Holds plan dem s

-- the denominator of a demand is 1 to 2^64
abbrev pub HasLowDen : Frac → Type 0
HasLowDen d = (0 < d.den) × (d.den ≤ u64_end)

-- the entry that a governor with this demand chooses: the lowest whose speed meets it, otherwise the highest
abbrev pub chosen_entry : OwnDemand → Plan → StateView → ℕ
chosen_entry demand plan s = lowest_entry plan.machine (demand plan s)

-- the speed of some entry meets the demand in this state
abbrev pub CanMeet : OwnDemand → Plan → StateView → Type 0
CanMeet demand plan s = (lowest_pick plan.machine (demand plan s)).met ≡ true

-- a fact holds of the state after each tick that may follow with the entry k in force
abbrev pub AfterEachTick : Plan → JobDemands → StateView → ℕ → (StateView → ℕ → Type 0) → Type 0
AfterEachTick plan dem s k Holds =
    (shares : List ℕ) → MayFollow plan dem s k shares → Holds (after_tick dem shares s) k

-- each job that is due now is complete
abbrev pub DueAreDone : Plan → StateView → Type 0
DueAreDone plan s = (i : ℕ) → i < count plan → (row_at s i).deadline ≡ s.now → (row_at s i).done ≡ true

-- the laws that a type of governors keeps for its kind, demand and conditions
pub record GovernorLaws (kind : GovernorKind) (serves : Serving) (demand : OwnDemand) (calm : Condition) (safe : EntryCondition) : Type 0 where
  -- each scheduler that is served makes a pair with the kind
  pub pairs : (scheduler : Scheduler) → serves scheduler → IsPair scheduler kind
  -- at a decision the demand has a low denominator
  pub low_den : AtEachDecision serves (λ plan s. HasLowDen (demand plan s))
  -- the opening state is calm
  pub opens : OfEachPlan serves (λ plan. calm plan (opening plan))
  -- the releases of a boundary, with the completions of jobs of demand 0 and the mark, keep a calm state calm
  pub releases : InEachRun serves (λ plan dem s. calm plan s → calm plan (after_boundary plan dem s))
  -- a calm state at a decision is safe with the entry that is chosen
  pub chooses : InEachRun serves (λ plan dem s. IsAtDecision plan s → calm plan s → safe plan s (chosen_entry demand plan s))
  -- in a calm state at a decision some entry meets the demand, for a kind whose demand is always met
  pub meets : InEachRun serves (λ plan dem s. IsAtDecision plan s → calm plan s → IsAlwaysMet kind → CanMeet demand plan s)
  -- a tick that may follow keeps a safe state safe
  pub ticks : InEachRun serves (λ plan dem s. (k : ℕ) → safe plan s k → AfterEachTick plan dem s k (safe plan))
  -- a safe state is calm
  pub stays_calm : InEachRun serves (λ plan dem s. (k : ℕ) → safe plan s k → calm plan s)
  -- in a calm state each job that is due now is complete
  pub completes : InEachRun serves (λ plan dem s. calm plan s → DueAreDone plan s)
