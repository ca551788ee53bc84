-- The headline, from how an answer ends and what its run met.
use Rattle.std.proofs.Common.{◌≡◌, inl, inr, ℕ, ◌≤◌, Bool, true, false, List, Option, Some, Result, Ok, Err, refl, sym, ◌∙◌, ap, subst, nat_lt, if◌then◌else◌}
use Rattle.dvs_base.specs.Outside.{Files, SinkView, Rose, Takes}
use Rattle.dvs_base.specs.Checks.{and_then}
use Rattle.task_model.specs.declared.task.Task.{Task}
use Rattle.freq_table.specs.Tables.{Table}
use Rattle.demand_list.specs.Demands.{DemandsView}
use Rattle.sched_model.specs.Plan.{Plan, plan_of}
use Rattle.sched_model.specs.Jobs.{released_jobs}
use Rattle.sched_model.specs.Admission.{PassesTest}
use Rattle.dvs_base.specs.declared.limits.TheConstants.{MOST_JOBS}
use Rattle.words.specs.Commands.{RunView, CommandView, run, response}
use Rattle.command_files.specs.Meanings.{tasks_at, machine_at, demands_at}
use Rattle.command_files.specs.Admissions.{admission}
use Rattle.rtdvs_top.specs.Run.{within_jobs, answer_of_prepared}
use Rattle.rtdvs_top.specs.PlannedRuns.{prepared_of, IsReadyRun}
use Rattle.rtdvs_top.specs.Promises.{answer_of_command, run_plan, MeansRun, IsDoneRun, IsDeniedBy, ProvesRun, ProvesTests, RunsOrIsDenied, Answers, IsDoneOrDenied}
use Rattle.rtdvs_top.specs.Asked.{Asked, asked_with, with_files}
use Rattle.rtdvs_top.specs.Prepared.{EndsAs, ProvesDone}
use Rattle.statuses.specs.declared.status.Status.{Status}
use Rattle.statuses.specs.declared.status.Status.TheVariants as status
use Rattle.rtdvs_top.proofs.EachPair.{has-met}
use Rattle.rtdvs_top.proofs.Responses.{responds-or-is-denied}
use Rattle.rtdvs_top.proofs.StepAnswers.{undisturbed}
use Rattle.rtdvs_top.proofs.AdmittedPlans.{admits-by-test}
use Rattle.rtdvs_top.proofs.DeniedPlans.{status_of, given-once, within-few, given-both, passes-admission, Decides, decides, denied-plan}
use Rattle.event_kernel.specs.Runs.{run_for}

-- what holds of the plan of a run holds of the tasks and the machine that its files mean, and its demands are read
run-means : (P : Plan → Type 0) (r : RunView) (files : Files) → (p : Plan) × (run_plan r files ≡ Ok p) × P p
    → (tasks : List Task) × (machine : Table) × (demands : DemandsView) × MeansRun r files tasks machine demands
    × P (plan_of tasks machine r.scheduler)
run-means P r files (p, e, h) =
    let t = given-both (tasks_at r.tasks files) _ p e in
    let m = given-both (machine_at r.machine files) _ p t.2 in
    let d = given-both (demands_at t.0 r.demands files) _ p m.2 in
    (t.0, m.0, d.0, record { tasks_are = t.1; machine_is = m.1; demands_are = d.1 }, subst P (given-once d.2 refl) h)

-- the text of an answer within the limit on jobs
within-text : (jobs : ℕ) (whole bytes : List ℕ) → within_jobs jobs whole ≡ Ok bytes → bytes ≡ whole
within-text jobs whole bytes e = go (nat_lt MOST_JOBS jobs) e
  where
    go : (b : Bool) → (if b then Err (status.Limit jobs) else Ok whole) ≡ Ok bytes → bytes ≡ whole
    go true e = absurd (cc)
    go false e = cc

-- a run whose files mean these tasks, this machine and these demands
module _ (r : RunView) (files : Files) (tasks : List Task) (machine : Table) (demands : DemandsView) (means : MeansRun r files tasks machine demands) where
  abbrev plan : Plan
  plan = plan_of tasks machine r.scheduler

  abbrev with_demands : Result Plan Status → Result (Plan × DemandsView) Status
  with_demands admitted = and_then admitted (λ p. Ok (p, demands))

  abbrev after : Result Plan Status → Result (List ℕ) Status
  after admitted = and_then (with_demands admitted) (answer_of_prepared r)

  answer-is : answer_of_command (run r) files ≡ after (admission plan)
  answer-is = rw (means.tasks_are, means.machine_is, means.demands_are) refl

  prepared-is : admission plan ≡ Ok plan → prepared_of r tasks files ≡ Ok (plan, demands)
  prepared-is admitted = rw (means.machine_is, means.demands_are, admitted) refl

  -- what holds of the plan and the demands that were prepared holds of these
  own : (P : Plan × DemandsView → Type 0) (ts : List Task) (x : Plan × DemandsView) → tasks_at r.tasks files ≡ Ok ts
      → prepared_of r ts files ≡ Ok x → admission plan ≡ Ok plan → P x → P (plan, demands)
  own P ts x t e admitted h =
      let same : prepared_of r tasks files ≡ Ok x = rw (given-once means.tasks_are t) e in
      subst P (given-once same (prepared-is admitted)) h

  -- a run that is done has met all that an admitted plan meets
  done-run : (old new : SinkView) → EndsAs old new (Some files) (answer_of_command (run r)) status.Done → PassesTest plan.scheduler plan
      → ProvesDone (Some files) (run r) status.Done
      → (prepared_of r tasks files ≡ Ok (plan, demands)) × IsDoneRun r.version r.governor (run_for plan demands r.ticks) old new
  done-run old new ends passes met =
      let admitted : admission plan ≡ Ok plan = passes-admission plan.scheduler plan passes in
      let text = within-text _ _ ends.0 (sym (answer-is ∙ ap after admitted) ∙ ends.1) in
      let Ready : Plan × DemandsView → Type 0 = λ x. IsReadyRun r.governor (run_for x.0 x.1 r.ticks) in (
        prepared-is admitted,
        record {
          text = subst (Takes old new) text ends.2.bytes;
          run = has-met r.version plan demands r.ticks r.governor (own Ready met.0 (met.2, met.3) met.1 met.4 admitted met.5);
        },
      )

  -- a run that releases no more jobs than the limit, and whose status is its answer's, is done, or its plan is denied
  pub runs-or-is-denied : released_jobs plan r.ticks ≤ MOST_JOBS → (old new : SinkView) (s : Status)
      → ProvesRun (with_files files (run r)) old new s → s ≡ status_of (answer_of_command (run r) files)
      → RunsOrIsDenied r.version r.governor (run_for plan demands r.ticks) old new s
  runs-or-is-denied few old new s of is = go (decides plan)
    where
      go : Decides plan plan.scheduler (admission plan) → RunsOrIsDenied r.version r.governor (run_for plan demands r.ticks) old new s
      go (inl ok) =
          let done : s ≡ status.Done = is ∙ ap status_of (answer-is ∙ (ap after ok.0 ∙ within-few _ _ few)) in
          let x = subst (ProvesRun (with_files files (run r)) old new) done of in
          let Ran : Plan × DemandsView → Type 0 = λ y. IsDoneRun r.version r.governor (run_for y.0 y.1 r.ticks) old new in
          inl (done, own Ran x.0 (plan_of x.0 x.1 r.scheduler, x.2) x.3.tasks_are x.4 ok.0 x.5)
      go (inr denial) =
          inr (denial.0, is ∙ ap status_of (answer-is ∙ ap after denial.1), denied-plan plan denial.0 denial.1)

-- the run over these files, from how its answer ends and what it met
pub proves-run : (files : Option Files) (c : CommandView) (s : Status) (old new : SinkView)
    → EndsAs old new files (answer_of_command c) s → ProvesDone files c s → ProvesRun (asked_with files c) old new s
proves-run (Some files) (run r) status.Done old new ends met =
    let m = run-means (λ p. PassesTest p.scheduler p) r files (admits-by-test (Some files) (run r) old new status.Done ends met) in
    let done = done-run r files m.0 m.1 m.2 m.3 old new ends m.4 met in
    (m.0, m.1, m.2, m.3, done.0, done.1)
proves-run (Some files) (run r) (status.NotAdmitted why) old new ends met =
    run-means (λ p. IsDeniedBy p why) r files (admits-by-test (Some files) (run r) old new (status.NotAdmitted why) ends met)
proves-run files c s old new ends met = tt

-- the headline, from what holds of each run and from whose answer the status is
pub done-or-denied : (a : Asked) (loads_rose : Type 0) (old new : SinkView) (s : Status)
    → ProvesRun a old new s → ProvesTests a s
    → Answers a loads_rose (Rose old.faults new.faults) s → IsDoneOrDenied a loads_rose old new s
done-or-denied (with_files files (response r)) loads_rose old new s of tests answers =
    λ tasks machine means still whole_out memory. responds-or-is-denied r files tasks machine means s tests
    (undisturbed _ _ _ s answers still whole_out memory)
done-or-denied (with_files files (run r)) loads_rose old new s of tests answers =
    λ tasks machine demands means few still whole_out memory. runs-or-is-denied r files tasks machine demands means few old new s of
    (undisturbed _ _ _ s answers still whole_out memory)
done-or-denied a loads_rose old new s of tests answers = tt
