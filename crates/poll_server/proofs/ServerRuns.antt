-- The run of a list of what a server's jobs take is the run of all that they take, and they take no more than their worst
-- cases.
use Rattle.std.proofs.Common.{◌≡◌, ◌≤◌, ◌*◌, ◌+◌, ℕ, zero, suc, Bool, true, false, nat_eq, arith, refl, if◌then◌else◌, ◌<◌, inl, inr, List, length, ap, ◌∙◌, subst}
use Rattle.std.proofs.lemmas.Bool.Decides.{nat_tests}
use Rattle.std.specs.Prelude.{Some}
use Rattle.std.proofs.lemmas.Bool.{cases_lt, cases_eq}
use Rattle.sched_model.specs.Plan.{worst, Plan, count, period}
use Rattle.sched_model.specs.Jobs.{IsWithin, JobDemands, release, demand_of}
use Rattle.task_model.specs.DemandRows.{DemandRow, named_units}
use Rattle.sched_model.specs.Ticks.{Tick}
use Rattle.governor.specs.Meanings.{OwnDemand}
use Rattle.governor.specs.Schedule.{ask_of}
use Rattle.replay_laws.specs.OwnList.{ticks_by, notes_by, TellSame, LooksAtNone}
use Rattle.poll_server.specs.ServerJobs.{ServerView, budget, taken_units, polled_demand, job_release}
use Rattle.poll_server.specs.Bound.{jobs_before}
use Rattle.poll_server.specs.Polled.{polled_notes}
use Rattle.poll_server.specs.Walks.{AreTaken}
use Rattle.poll_server.proofs.Takings.{before-released}

module _ (s : ServerView) where
  most : (i k : ℕ) → polled_demand s i k ≤ worst s.plan i
  most i zero = omega arith
  most i (suc k) = elim (cases_eq i s.task) [
    | inl e ↦ (let same : i ≡ s.task = e in let low : taken_units s (suc k) ≤ budget s = omega arith in grind (arith, nat_tests))
    | inr ne ↦ (let other : i ≡ s.task → ⊥ = ne in grind (arith, nat_tests))
  ]

  pub polled-within : IsWithin s.plan (polled_demand s)
  polled-within = record { most = λ i k lt. most i k; none = λ i. refl }

-- a list of what the server's first jobs take has the demands of all jobs that are released within the ticks
pub same-demand : (s : ServerView) → 0 < period s.plan s.task → (ticks : ℕ) (rows : List DemandRow)
    → AreTaken s (jobs_before s ticks) rows → (i k : ℕ) → i < count s.plan → 1 ≤ k → release s.plan i k < ticks
    → demand_of s.plan rows i k ≡ polled_demand s i k
same-demand s some ticks rows are i zero lt first began = absurd (omega arith)
same-demand s some ticks rows are i (suc k) lt first began = go (nat_eq i s.task) refl
  where
    go : (b : Bool) → nat_eq i s.task ≡ b
        → demand_of s.plan rows i (suc k) ≡ (if b then taken_units s (suc k) + 2 * s.plan.machine.charge else worst s.plan i)
    go true e =
        let same : i ≡ s.task = grind (arith, nat_tests) in
        let own : release s.plan s.task (suc k) < ticks = subst (λ (j : ℕ). release s.plan j (suc k) < ticks) same began in
        let within : suc k ≤ jobs_before s ticks = elim (cases_lt (jobs_before s ticks) (suc k)) [
          | inl over ↦ let late : ticks ≤ job_release s (suc k) = before-released s ticks (suc k) some over in absurd (omega (arith, late, own))
          | inr most ↦ most
        ] in
        let row : named_units rows i (suc k) ≡ Some (taken_units s (suc k)) =
        ap (λ (j : ℕ). named_units rows j (suc k)) same ∙ are.taken_by (suc k) first within in
        rw row refl
    go false e =
        let other : i ≡ s.task → ⊥ = grind (arith, nat_tests) in
        rw (are.no_other i (suc k) lt other) refl

-- two demands that agree on the jobs released within the ticks
tell-same : (p : Plan) (dem other : JobDemands) (ticks : List Tick) → ((i : ℕ) → dem i 0 ≡ 0) → ((i : ℕ) → other i 0 ≡ 0)
    → ((i k : ℕ) → i < count p → 1 ≤ k → release p i k < length ticks → dem i k ≡ other i k)
    → TellSame p dem other ticks
tell-same p dem other ticks none other_none same = record {
  finished = λ i k lt some began e. same i k lt some began;
  unfinished = λ i k lt some began e. let one : dem i k ≡ other i k = same i k lt some began in grind (arith, nat_tests);
  none = none;
  other_none = other_none;
}

-- the run with a list of what the server's first jobs take has the same notes as the run of all that they take
pub same-notes : (demand : OwnDemand) (s : ServerView) → 0 < period s.plan s.task → LooksAtNone s.plan (ask_of demand s.plan)
    → (ticks : ℕ) (rows : List DemandRow) → AreTaken s (jobs_before s ticks) rows
    → length (ticks_by s.plan (ask_of demand s.plan) (demand_of s.plan rows) ticks) ≡ ticks
    → polled_notes demand s ticks ≡ notes_by s.plan (ask_of demand s.plan) (demand_of s.plan rows) ticks
same-notes demand s some looks ticks rows are long =
    let dem = demand_of s.plan rows in
    (looks dem (polled_demand s) ticks (
    tell-same s.plan dem (polled_demand s) (ticks_by s.plan (ask_of demand s.plan) dem ticks) (λ i. refl) (λ i. refl)
    (λ i k lt first began. same-demand s some ticks rows are i k lt first (omega (arith, began, long))))).1
