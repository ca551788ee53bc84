-- On each schedule the published demand of cycle-conserving RM is the governor's own.
use Rattle.std.proofs.Common.{◌≡◌, ℕ, zero, suc, ◌+◌, ◌-◌, ◌*◌, ◌<◌, ◌≤◌, Bool, true, false, List, length, refl, sym, ◌∙◌, ap, arith, nat_eq, length-drop}
use Rattle.std.proofs.lemmas.Bool.Decides.{nat_tests}
use Rattle.dvs_base.specs.declared.kind.Scheduler.{Scheduler}
use Rattle.dvs_base.specs.declared.kind.Scheduler.TheVariants.{Rm}
use Rattle.dvs_base.specs.declared.kind.GovernorKind.TheVariants.{Cycle}
use Rattle.grid_fraction.specs.Numbers.{last_up_to}
use Rattle.grid_fraction.proofs.Sums.{sum_below-same}
use Rattle.grid_fraction.proofs.Least.{least-same}
use Rattle.grid_fraction.proofs.Searches.{any_below-false}
use Rattle.sched_model.specs.Plan.{Plan, count, period, worst}
use Rattle.sched_model.specs.Jobs.{release, due, latest, releases_at, is_release, last_release, earliest as earliest_at, IsWithin, JobDemands}
use Rattle.sched_model.specs.Ticks.{Tick, at, is_complete, wleft}
use Rattle.sched_model.specs.CycleDemand.{allotment_at_release, had_since_release, allotment_left, rm_cycle}
use Rattle.sched_model.specs.Priority.{allotment}
use Rattle.sched_model.specs.StaticDemand.{static_speed}
use Rattle.sched_model.specs.Demand.{demand_by, published}
use Rattle.sched_model.specs.Admission.{IsAdmitted}
use Rattle.sched_model.specs.States.{StateView, state_of, earliest_in}
use Rattle.sched_model.proofs.Limits.{some_period}
use Rattle.sched_model.proofs.JobLaws.{lt-due, latest-stays, latest-next, release-suc, last_release-le}
use Rattle.grid_fraction.proofs.Tables.{get-table}
use Rattle.sched_model.proofs.States.{row_at-state_of}
use Rattle.sched_model.proofs.Allotments.{allotment-same}
use Rattle.governor.specs.Schedule.{Publishes, PublishingLaws}
use Rattle.governor.specs.ServedSchedulers.{ServesRm}
use Rattle.governor.proofs.Course.{publishing_laws}
use Rattle.cc_rm_laws.specs.Allotments.{base_of, allotted_in, had_since_mark, allotment_left_in, rm_cycle_demand}

-- what a job had after the mark is the fall of what it may need
since_mark : (worst need now first : ℕ) → first ≤ now → now < need
    → need ≤ worst → (worst - first) - (worst - now) ≡ now - first
since_mark worst need now first a b c = omega arith

module _ (p : Plan) (adm : IsAdmitted p) where
  -- if no job of task i is released, the latest job is that of the tick before
  job-stays : (t i : ℕ) → i < count p → releases_at p i (suc t) ≡ false → latest p i (suc t) ≡ latest p i t
  job-stays t i h none = go (nat_eq (suc t) (due p i (latest p i t))) refl
    where
      some : 0 < period p i
      some = some_period p adm.limits i h

      next : suc t ≡ t + 1
      next = omega arith

      go : (b : Bool) → nat_eq (suc t) (due p i (latest p i t)) ≡ b → latest p i (suc t) ≡ latest p i t
      go true e =
          let is_due : suc t ≡ due p i (latest p i t) = grind (arith, nat_tests) in
          let job : latest p i (suc t) ≡ latest p i t + 1 =
          ap (latest p i) next ∙ latest-next p i t some (omega (arith, is_due)) in
          let there : release p i (latest p i (suc t)) ≡ suc t =
          ap (release p i) job ∙ (release-suc p i (latest p i t) ∙ sym is_due) in
          absurd (grind (arith, nat_tests, none, there))
      go false e =
          let other : (suc t ≡ due p i (latest p i t)) → ⊥ = grind (arith, nat_tests) in
          ap (latest p i) next ∙ latest-stays p i t some (omega (arith, lt-due p i t some, other))

  -- since the last release each task's latest job is the same
  since-release : (t : ℕ) → (i : ℕ) → i < count p → latest p i (last_release p t) ≡ latest p i t
  since-release zero i h = refl
  since-release (suc t) i h = go (is_release p (suc t)) refl (since-release t i h)
    where
      go : (b : Bool) → is_release p (suc t) ≡ b → latest p i (last_release p t) ≡ latest p i t
          → latest p i (last_release p (suc t)) ≡ latest p i (suc t)
      go true e ih = rw (e, last_up_to) refl
      go false e ih = rw (e, last_up_to) (ih
          ∙ sym (job-stays t i h (any_below-false (count p) (λ j. releases_at p j (suc t)) e i h)))

  module _ (dem : JobDemands) (within : IsWithin p dem) (past : List Tick) where
    abbrev now : ℕ
    now = length past

    abbrev mark : ℕ
    mark = last_release p now

    abbrev here : StateView
    here = state_of p dem past

    base-is : (i : ℕ) → i < count p → base_of here i ≡ wleft p dem (at mark past) i
    base-is i h = get-table (count p) (wleft p dem (at mark past)) i 0 h

    mark-long : length (at mark past) ≡ mark
    mark-long = omega (arith, last_release-le p now, length-drop (now - mark) past)

    -- the earliest deadline at the mark is the earliest one in the state
    first-is : earliest_at p mark ≡ earliest_in p here
    first-is = grind (arith, least-same, since-release, row_at-state_of)

    allotted-is : (i : ℕ) → i < count p → allotment_at_release p dem past i ≡ allotted_in p here i
    allotted-is i h =
        ap (λ (n : ℕ). allotment (count p) (period p) ((n - mark) * static_speed p) (wleft p dem (at mark past)) i)
        first-is
        ∙ sym (allotment-same (count p) (period p) ((earliest_in p here - mark) * static_speed p)
        (base_of here) (wleft p dem (at mark past)) base-is i h)

    -- what an open job has had since the last release is what it has had since the mark
    had-is : (i : ℕ) → i < count p → is_complete p dem past i ≡ false
        → had_since_release p past i ≡ had_since_mark here i
    had-is i h open_job = grind (arith, since-release, mark-long, base-is, row_at-state_of)

    left-is : (i : ℕ) → i < count p → allotment_left p dem past i ≡ allotment_left_in p here i
    left-is i h = grind (arith, row_at-state_of, allotted-is, had-is)

    cycle-is : rm_cycle p dem past ≡ rm_cycle_demand p here
    cycle-is = grind (arith, sum_below-same (count p) (allotment_left p dem past) (allotment_left_in p here) left-is, first-is)

pub published-cycle : (p : Plan) → IsAdmitted p → p.scheduler ≡ Rm → Publishes rm_cycle_demand Cycle p
unfolding published
published-cycle p adm rm dem within ask past is =
    ap (λ (sch : Scheduler). demand_by sch Cycle p dem past) rm ∙ cycle-is p adm dem within past

pub cycle_publishing : PublishingLaws Cycle ServesRm rm_cycle_demand
cycle_publishing = publishing_laws rm_cycle_demand Cycle ServesRm published-cycle
