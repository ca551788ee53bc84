-- What the exact test under RM answers, and that it is of the tasks and the machine that its files mean.
use Rattle.std.proofs.Common.{◌≡◌, inl, inr, ℕ, List, Option, Some, None, Result, Ok, refl, ◌∙◌, subst}
use Rattle.dvs_base.specs.Outside.{Files}
use Rattle.dvs_base.specs.Checks.{and_then}
use Rattle.dvs_base.specs.declared.kind.Scheduler.TheVariants.{Rm}
use Rattle.task_model.specs.declared.task.Task.{Task}
use Rattle.freq_table.specs.Tables.{Table}
use Rattle.sched_model.specs.Plan.{Plan, plan_of, count, period, offset}
use Rattle.task_model.specs.Tasks.{first_offset}
use Rattle.rm_response_laws.specs.Responses.{response as response_of}
use Rattle.rm_response.specs.Denials.{first_late, exact_answer_from}
use Rattle.words.specs.Commands.{ResponseView, response}
use Rattle.rtdvs_top.specs.Promises.{answer_of_command}
use Rattle.rtdvs_top.specs.Response.{response_status, responses_on, responses_text, Responds, FailsToRespond, MeansPlan, ProvesResponses, RespondsOrIsDenied}
use Rattle.statuses.specs.declared.status.Denied.{Denied}
use Rattle.statuses.specs.declared.status.Status.{Status}
use Rattle.statuses.specs.declared.status.Status.TheVariants as status
use Rattle.statuses.specs.Refused.{or_status}
use Rattle.rtdvs_top.proofs.DeniedPlans.{status_of, given-once}

-- a test whose files mean these tasks and this machine, and whose status is its answer's
module _ (r : ResponseView) (files : Files) (tasks : List Task) (machine : Table) (means : MeansPlan r files tasks machine) where
  abbrev plan : Plan
  plan = plan_of tasks machine Rm

  abbrev after : Result (List ℕ) Status → Status
  after step = status_of (and_then step (λ ticks. Ok (responses_text tasks ticks)))

  answer-is : status_of (answer_of_command (response r) files) ≡ after (responses_on tasks machine)
  answer-is = rw (means.tasks_are, means.machine_is) refl

  -- what holds of any tasks and machine that the files mean holds of these
  own : (P : Plan → Type 0) → (ts : List Task) × (m : Table) × MeansPlan r files ts m × P (plan_of ts m Rm) → P plan
  own P x =
      subst (λ (m : Table). P (plan_of tasks m Rm)) (given-once x.2.machine_is means.machine_is)
      (subst (λ (ts : List Task). P (plan_of ts x.1 Rm)) (given-once x.2.tasks_are means.tasks_are) x.3)

  denied : (s : Status) (why : Denied) → ProvesResponses files r s → s ≡ status.NotAdmitted why → RespondsOrIsDenied plan s
  denied s why of e = inr (why, e, own (λ p. FailsToRespond p why) (subst (ProvesResponses files r) e of))

  -- it is done, or it denies the tasks and gives the cause
  pub responds-or-is-denied : (s : Status) → ProvesResponses files r s → s ≡ status_of (answer_of_command (response r) files)
      → RespondsOrIsDenied plan s
  responds-or-is-denied s of is =
      go (first_offset (offset plan) (count plan)) (first_late (period plan) (response_of plan) (count plan)) (is ∙ answer-is)
    where
      go : (first late : Option ℕ) → s ≡ after (or_status response_status (exact_answer_from plan first late)) → RespondsOrIsDenied plan s
      go (Some i) late e = denied s _ of e
      go None (Some i) e = denied s _ of e
      go None None e = inl (e, own Responds (subst (ProvesResponses files r) e of))
