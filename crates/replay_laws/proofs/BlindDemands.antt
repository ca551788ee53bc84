-- No published demand depends on the demands of jobs that aren't finished.
use Rattle.std.proofs.Common.{◌≡◌, ◌+◌, ◌-◌, ◌*◌, ◌/◌, ◌<◌, ℕ, suc, min, Bool, true, false, List, [], ◌∷◌, length, refl, if◌then◌else◌, ap, ap₂, ◌∙◌, nat_eq, sym}
use Rattle.dvs_base.specs.declared.kind.Scheduler.{Scheduler}
use Rattle.dvs_base.specs.declared.kind.Scheduler.TheVariants.{Edf, Rm}
use Rattle.dvs_base.specs.declared.kind.GovernorKind.{GovernorKind}
use Rattle.dvs_base.specs.declared.kind.GovernorKind.TheVariants.{Cycle, Ahead}
use Rattle.grid_fraction.specs.Numbers.{ceil_div}
use Rattle.grid_fraction.proofs.Sums.{sum_below-same}
use Rattle.sched_model.specs.Plan.{Plan, count, period, worst, hyper, rate, top_speed}
use Rattle.sched_model.specs.Jobs.{JobDemands, latest, deadline, earliest, last_release}
use Rattle.sched_model.specs.Ticks.{Tick, at, is_complete, wleft}
use Rattle.sched_model.specs.Priority.{sum_before, in_order}
use Rattle.sched_model.specs.StaticDemand.{static_speed}
use Rattle.sched_model.specs.CycleDemand.{cycle_units, edf_cycle, allotment_at_release, had_since_release, allotment_left, rm_cycle}
use Rattle.sched_model.specs.AheadDemand.{first_due, slack, put_off, spread_rate, spread_rates, due_first, edf_ahead}
use Rattle.sched_model.specs.Demand.{demand_by, published}
use Rattle.sched_model.specs.Admission.{IsWithinLimits}
use Rattle.sched_model.proofs.Orders.{AreBelow, in_order-below}
use Rattle.sched_model.proofs.Allotments.{allotment-same}
use Rattle.sched_model.proofs.Limits.{latest-early}
use Rattle.replay_laws.proofs.SameNotes.{Alike, IsBlind, same-complete, same-wleft, alike-marked}

-- what look-ahead puts off depends only on the tasks' needs
module _ (p : Plan) (due left other : ℕ → ℕ) (same : (i : ℕ) → i < count p → left i ≡ other i) where
  put_off-reads : (after i : ℕ) → i < count p → put_off p due left after i ≡ put_off p due other after i
  put_off-reads after i lt =
      ap (λ (n : ℕ). if nat_eq (slack p due i) 0 then 0
      else min n (((top_speed p * hyper p) - sum_before (count p) due (rate p) i - after) * slack p due i / hyper
      p)) (same i lt)

  spread_rates-reads : (is : List ℕ) → AreBelow (count p) is → spread_rates p due left is ≡ spread_rates p due other is
  spread_rates-reads [] b = refl
  spread_rates-reads (i ∷ is) b =
      ap (λ n. spread_rate p due left n i + n) (spread_rates-reads is b.1)
      ∙ ap (λ (n : ℕ). (if nat_eq (slack p due i) 0 then rate p i else ceil_div (n * hyper p) (slack p due i))
      + spread_rates p due other is) (put_off-reads (spread_rates p due other is) i b.0)

  due_first-reads : (is : List ℕ) → AreBelow (count p) is → due_first p due left is ≡ due_first p due other is
  due_first-reads [] b = refl
  due_first-reads (i ∷ is) b =
      ap₂ (λ a c. a + c)
      (ap₂ (λ a c. a - c) (same i b.0) (ap (λ n. put_off p due left n i) (spread_rates-reads is b.1) ∙ put_off-reads (spread_rates p due other is) i b.0))
      (due_first-reads is b.1)

module _ (p : Plan) (lim : IsWithinLimits p) (dem other : JobDemands) (past : List Tick) (h : Alike p dem other past (suc (length past))) where
  -- the charged units of a task are the same by both demands
  charged-same : (i : ℕ) → i < count p → cycle_units p dem past i ≡ cycle_units p other past i
  charged-same i lt = go (is_complete p dem past i) refl (same-complete p lim dem other past h i lt)
    where
      go : (b : Bool) → is_complete p dem past i ≡ b → is_complete p dem past i ≡ is_complete p other past i
          → cycle_units p dem past i ≡ cycle_units p other past i
      go true e same =
          ap₂ (λ (b : Bool) (n : ℕ). if b then n else worst p i) same (((h i (latest p i (length past)) lt (latest-early p lim i (length past) lt)).0) e)
      go false e same =
          let off : is_complete p other past i ≡ false = sym same ∙ e in
          rw (e, off) refl

  edf_cycle-same : edf_cycle p dem past ≡ edf_cycle p other past
  edf_cycle-same =
      ap (λ (n : ℕ). record { num = n; den = hyper p })
      (sum_below-same (count p) (λ i. cycle_units p dem past i * (hyper p / period p i)) (λ i. cycle_units p other past i * (hyper p / period p i))
      (λ i lt. ap (λ n. n * (hyper p / period p i)) (charged-same i lt)))

  -- the units allotted at the last release are the same by both demands
  allotted-same : (i : ℕ) → i < count p → allotment_at_release p dem past i ≡ allotment_at_release p other past i
  allotted-same i lt =
      let r = last_release p (length past) in
      allotment-same (count p) (period p) ((earliest p r - r) * static_speed p) (wleft p dem (at r past)) (wleft p other (at r past))
      (same-wleft p lim dem other (at r past) (alike-marked p lim dem other past h)) i lt

  rm_cycle-same : rm_cycle p dem past ≡ rm_cycle p other past
  rm_cycle-same =
      ap (λ (n : ℕ). record { num = n; den = earliest p (last_release p (length past)) - length past })
      (sum_below-same (count p) (allotment_left p dem past) (allotment_left p other past)
      (λ i lt.
      ap₂ (λ (b : Bool) (n : ℕ). if b then 0 else n - had_since_release p past i) (same-complete p lim dem other past h i lt) (allotted-same i lt)))

  edf_ahead-same : edf_ahead p dem past ≡ edf_ahead p other past
  edf_ahead-same =
      let due : ℕ → ℕ = λ i. deadline p i (length past) in
      ap (λ (n : ℕ). record { num = n; den = first_due p due - length past })
      (due_first-reads p due (wleft p dem past) (wleft p other past) (same-wleft p lim dem other past h)
      (in_order due (count p)) (in_order-below due (count p)))

  demand_by-same : (s : Scheduler) (kind : GovernorKind) → demand_by s kind p dem past ≡ demand_by s kind p other past
  demand_by-same Edf Cycle = edf_cycle-same
  demand_by-same Rm Cycle = rm_cycle-same
  demand_by-same Edf Ahead = edf_ahead-same
  demand_by-same _ _ = refl

pub blind-published : (p : Plan) → IsWithinLimits p → (kind : GovernorKind) → IsBlind p (published p kind)
unfolding published
blind-published p lim kind dem other past h = demand_by-same p lim dem other past h p.scheduler kind
