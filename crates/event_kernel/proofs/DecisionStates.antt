-- The state of a schedule's ticks is a state of the plan at a decision: what `choose` may ask for.
use Rattle.std.proofs.Common.{◌≡◌, ℕ, ◌+◌, ◌-◌, ◌<◌, ◌≤◌, List, length, length-drop, arith, ap, ◌∙◌, sym, subst, if◌then◌else◌, nat_le}
use Rattle.std.proofs.lemmas.Bool.Decides.{nat_tests}
use Rattle.task_model.specs.declared.limits.TheConstants.{LONGEST_PERIOD}
use Rattle.sched_model.specs.declared.state.Row.{Row}
use Rattle.event_kernel.proofs.PlanBounds.{PlanBounds}
use Rattle.sched_model.specs.Plan.{Plan, count, worst}
use Rattle.sched_model.specs.Jobs.{JobDemands, latest, due, last_release}
use Rattle.sched_model.specs.Ticks.{Tick, at, exec, wleft}
use Rattle.sched_model.proofs.JobLaws.{lt-due, due-within, last_release-le, latest_since-le, latest-marked}
use Rattle.sched_model.specs.States.{no_row, row_at, row_wleft, row_of, state_of}
use Rattle.grid_fraction.proofs.Tables.{get-table}
use Rattle.sched_model.proofs.Schedules.{exec-drop}
use Rattle.governor.specs.Steps.{IsAtDecision, release_of}

-- a job that has had more units may still need fewer of its worst case
less-left : (worst needs had more : ℕ) → had ≤ more
    → (if nat_le needs more then 0 else worst - more) ≤ (if nat_le needs had then 0 else worst - had)
less-left worst needs had more le = grind (arith, nat_tests, le)

module _ (p : Plan) (adm : PlanBounds p) where
  pub before-due : (i t : ℕ) → (t < due p i (latest p i t)) × (due p i (latest p i t) ≤ t + LONGEST_PERIOD)
  before-due i t =
      (lt-due p i t (adm.some_period i), due-within p i t LONGEST_PERIOD (adm.some_period i) (adm.low_offset i) (adm.low_period i))

  -- each base is at least what the job may still need
  pub base-high : (dem : JobDemands) (past : List Tick) (i : ℕ) → i < count p → wleft p dem past i ≤ wleft p dem (at (last_release p (length past)) past) i
  base-high dem past i lt =
      subst (λ k. wleft p dem past i ≤ (if nat_le (dem i k) (exec p earlier i k) then 0 else worst p i - exec p earlier i k)) (sym job)
      (less-left (worst p i) (dem i (latest p i (length past))) (exec p earlier i (latest p i (length past))) _
      (exec-drop p i (latest p i (length past)) (length past - last_release p (length past)) past))
    where
      earlier : List Tick
      earlier = at (last_release p (length past)) past

      long : length earlier ≡ last_release p (length past)
      long = omega (arith, length-drop (length past - last_release p (length past)) past, last_release-le p (length past))

      job : latest p i (length earlier) ≡ latest p i (length past)
      job = ap (latest p i) long ∙ latest-marked p i (length past) (adm.some_period i) lt

  pub at-decision : (dem : JobDemands) (past : List Tick) → IsAtDecision p (state_of p dem past)
  at-decision dem past = record {
    before = λ i lt. omega (arith, ap (λ (r : Row). r.deadline) (row-is i lt), (before-due i (length past)).0);
    soon = λ i lt. omega (arith, ap (λ (r : Row). r.deadline) (row-is i lt), (before-due i (length past)).1);
    marked = last_release-le p (length past);
    since = λ i lt. subst (λ (r : Row). release_of p i r ≤ last_release p (length past)) (sym (row-is i lt))
        (latest_since-le p i (length past) (adm.some_period i) lt);
    base = λ i lt. omega (
      arith,
      ap row_wleft (row-is i lt),
      base-high dem past i lt,
      get-table (count p) (wleft p dem (at (last_release p (length past)) past)) i 0 lt,
    );
  }
    where
      row-is : (i : ℕ) → i < count p → row_at (state_of p dem past) i ≡ row_of p dem past i
      row-is i lt = get-table (count p) (row_of p dem past) i no_row lt
