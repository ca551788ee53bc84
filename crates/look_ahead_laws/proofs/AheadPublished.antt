-- On each schedule the published demand of look-ahead is the governor's own.
use Rattle.std.proofs.Common.{◌≡◌, ℕ, ◌+◌, ◌-◌, ◌<◌, List, [], ◌∷◌, length, refl, sym, ◌∙◌, ap, ap₂, subst}
use Rattle.dvs_base.specs.declared.kind.Scheduler.{Scheduler}
use Rattle.dvs_base.specs.declared.kind.GovernorKind.TheVariants.{Ahead}
use Rattle.grid_fraction.proofs.Least.{least-same}
use Rattle.sched_model.specs.declared.state.Row.{Row}
use Rattle.sched_model.specs.Plan.{Plan, count, rate}
use Rattle.sched_model.specs.Jobs.{JobDemands, deadline}
use Rattle.sched_model.specs.Ticks.{Tick, wleft}
use Rattle.sched_model.specs.Priority.{in_order}
use Rattle.sched_model.specs.AheadDemand.{first_due, slack, put_off, spread_rate, spread_rates, due_first, ahead_of, edf_ahead}
use Rattle.sched_model.specs.Demand.{demand_by, published}
use Rattle.sched_model.specs.States.{row_wleft, state_of}
use Rattle.sched_model.proofs.Orders.{AreBelow, in_order-below, in_order-same, sum_before-same}
use Rattle.sched_model.proofs.States.{row_at-state_of}
use Rattle.governor.specs.Steps.{wleft_at}
use Rattle.governor.specs.Schedule.{Publishes, PublishingLaws}
use Rattle.governor.specs.ServedSchedulers.{ServesEdf}
use Rattle.governor.proofs.Course.{publishing_laws}
use Rattle.look_ahead_laws.specs.Ahead.{deadline_at, ahead_demand}

module _ (p : Plan) (due due' left left' : ℕ → ℕ) (same : (i : ℕ) → i < count p → due i ≡ due' i)
    (same_left : (i : ℕ) → i < count p → left i ≡ left' i) where
  first_same : first_due p due ≡ first_due p due'
  first_same = least-same (count p) due due' same

  slack_same : (i : ℕ) → i < count p → slack p due i ≡ slack p due' i
  slack_same i lt = ap₂ (λ a b. a - b) (same i lt) first_same

  put_same : (after after' i : ℕ) → i < count p → after ≡ after'
      → put_off p due left after i ≡ put_off p due' left' after' i
  put_same after after' i lt e =
      rw (slack_same i lt, same_left i lt, sum_before-same due due' (rate p) (count p) i same lt, e) refl

  rate_same : (after after' i : ℕ) → i < count p → after ≡ after'
      → spread_rate p due left after i ≡ spread_rate p due' left' after' i
  rate_same after after' i lt e = rw (put_same after after' i lt e, slack_same i lt) refl

  rates_same : (is : List ℕ) → AreBelow (count p) is → spread_rates p due left is ≡ spread_rates p due' left' is
  rates_same [] b = refl
  rates_same (i ∷ is) b =
      let rest = rates_same is b.1 in
      ap₂ (λ a c. a + c) (rate_same (spread_rates p due left is) (spread_rates p due' left' is) i b.0 rest) rest

  due_first-same : (is : List ℕ) → AreBelow (count p) is → due_first p due left is ≡ due_first p due' left' is
  due_first-same [] b = refl
  due_first-same (i ∷ is) b =
      ap₂ (λ a c. a + c)
      (ap₂ (λ a c. a - c) (same_left i b.0) (put_same (spread_rates p due left is) (spread_rates p due' left' is) i b.0 (rates_same is b.1)))
      (due_first-same is b.1)

  -- the demand is a function of only the tasks' deadlines and needs
  ahead_of-same : (t : ℕ) → ahead_of p due left t ≡ ahead_of p due' left' t
  ahead_of-same t =
      ap₂ (λ (n d : ℕ). record { num = n; den = d })
      (due_first-same (in_order due (count p)) (in_order-below due (count p)) ∙ ap (due_first p due' left') (in_order-same due due' (count p) same))
      (ap (λ a. a - t) first_same)

module _ (p : Plan) (dem : JobDemands) (past : List Tick) where
  -- after any list of ticks the definition's demand is the demand of the state
  ahead-is : edf_ahead p dem past ≡ ahead_demand p (state_of p dem past)
  ahead-is =
      ahead_of-same p (λ i. deadline p i (length past)) (deadline_at (state_of p dem past)) (wleft p dem past) (wleft_at (state_of p dem past))
      (λ i lt. sym (ap (λ (r : Row). r.deadline) (row_at-state_of p dem past i lt)))
      (λ i lt. sym (ap row_wleft (row_at-state_of p dem past i lt)))
      (length past)

-- after any list of ticks, for all demands of the jobs, the published demand is the demand of the state
pub published-ahead : (p : Plan) → ServesEdf p.scheduler → (dem : JobDemands) (past : List Tick)
    → published p Ahead dem past ≡ ahead_demand p (state_of p dem past)
unfolding published
published-ahead p serves dem past =
    subst (λ (sch : Scheduler). demand_by sch Ahead p dem past ≡ ahead_demand p (state_of p dem past)) (sym serves) (ahead-is p dem past)

pub ahead-publishes : (p : Plan) → ServesEdf p.scheduler → Publishes ahead_demand Ahead p
ahead-publishes p serves dem within ask past is = published-ahead p serves dem past

pub ahead_publishing : PublishingLaws Ahead ServesEdf ahead_demand
ahead_publishing = publishing_laws ahead_demand Ahead ServesEdf (λ p adm serves. ahead-publishes p serves)
