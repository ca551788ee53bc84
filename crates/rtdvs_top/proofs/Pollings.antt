-- A `poll` run under a governor's own demand is that under the published one, and what follows for its answer.
use Rattle.std.proofs.Common.{◌≡◌, ◌≤◌, ◌<◌, ℕ, List, Option, Some, Result, Ok, Err, ap, ◌∙◌, sym, subst, refl, arith}
use Rattle.std.specs.Prelude.{IfOk, OnOk}
use Rattle.std.specs.Result.{IsErrOf}
use Rattle.dvs_base.specs.Outside.{Files}
use Rattle.dvs_base.specs.declared.kind.GovernorKind.{GovernorKind}
use Rattle.dvs_base.specs.declared.limits.TheConstants.{MOST_JOBS}
use Rattle.dvs_base.specs.declared.note.Note.{Note}
use Rattle.sched_model.specs.Jobs.{released_jobs}
use Rattle.governor.specs.Meanings.{OwnDemand}
use Rattle.governor.specs.Schedule.{Publishes}
use Rattle.poll_server.specs.ServerJobs.{ServerView, polled_demand}
use Rattle.poll_server.specs.Outcomes.{ServedView}
use Rattle.poll_server.specs.Bound.{HaveJobs, KeepsBound}
use Rattle.poll_server.specs.Polled.{IsPolled, polled_notes}
use Rattle.poll_server.specs.EachOutcome.{served_by, served_of}
use Rattle.poll_server.specs.declared.fault.PollFault.{PollFault}
use Rattle.poll_server.specs.declared.fault.PollFault.TheVariants as poll_fault
use Rattle.poll_server.proofs.ServerRuns.{polled-within}
use Rattle.words.specs.Commands.{CommandView, poll}
use Rattle.rtdvs_top.specs.Asked.{asked_with}
use Rattle.rtdvs_top.specs.Poll.{polling_notes, polling_served, polled_text, poll_status}
use Rattle.rtdvs_top.specs.Promises.{ProvesPoll}
use Rattle.statuses.specs.declared.status.Status.{Status}
use Rattle.statuses.specs.declared.status.Status.TheVariants as status
use Rattle.statuses.specs.Refused.{or_status}
use Rattle.rtdvs_top.proofs.Comparisons.{same-run}
use Rattle.rtdvs_top.proofs.DeniedPlans.{within-few, within-many}
use Rattle.rtdvs_top.specs.Prepared.{IsServed, ProvesDone}

module _ (demand : OwnDemand) (kind : GovernorKind) (s : ServerView) (publishes : Publishes demand kind s.plan) (ticks : ℕ) where
  same-notes : polled_notes demand s ticks ≡ polling_notes kind s ticks
  same-notes = same-run demand kind s.plan publishes (polled_demand s) (polled-within s) ticks

  -- what `poll` returns, with its refusal as a status
  pub served-as-status : (r : Result ServedView PollFault) → HaveJobs s → IfOk r (λ x. x ≡ served_of demand s ticks)
      → IfOk r (IsPolled s (polled_notes demand s ticks)) → IfOk r (KeepsBound s ticks)
      → OnOk r (released_jobs s.plan ticks ≤ MOST_JOBS)
      → ((n : ℕ) → IsErrOf r (poll_fault.TooManyJobs n) → (n ≡ released_jobs s.plan ticks) × (MOST_JOBS < n))
      → IsServed kind ticks s (or_status poll_status r)
  served-as-status (Ok x) jobs served polled bound few many =
      let own : x ≡ polling_served kind s ticks = served ∙ ap (λ (notes : List Note). served_by s notes) same-notes in
      let answer = within-few (released_jobs s.plan ticks) (polled_text s (polling_served kind s ticks)) few in
      record {
        step = record { gives = answer ∙ ap (λ (y : ServedView). Ok (polled_text s y)) (sym own); refused = tt; loads = tt; shown = tt };
        served = own;
        kept = record {
          outcomes = subst (λ (notes : List Note). IsPolled s notes (polling_served kind s ticks)) same-notes
              (subst (λ (y : ServedView). IsPolled s (polled_notes demand s ticks) y) own polled);
          in_order = jobs;
          bound = subst (λ (y : ServedView). KeepsBound s ticks y) own bound;
        };
      }
  served-as-status (Err (poll_fault.TooManyJobs n)) jobs served polled bound few many =
      let m = many n refl in
      let over : MOST_JOBS < released_jobs s.plan ticks = omega (arith, m.0, m.1) in
      let answer = within-many (released_jobs s.plan ticks) (polled_text s (polling_served kind s ticks)) over in
      record {
        step = record { gives = tt; refused = answer ∙ ap (λ (k : ℕ). Err (status.Limit k)) (sym m.0); loads = tt; shown = m.1 };
        served = tt;
        kept = tt;
      }
  served-as-status (Err poll_fault.NoMemory) jobs served polled bound few many =
      record { step = record { gives = tt; refused = tt; loads = tt; shown = tt }; served = tt; kept = tt }

-- what a `poll` run that is done has kept, from what it met
pub proves-poll : (files : Option Files) (c : CommandView) (s : Status) → ProvesDone files c s → ProvesPoll (asked_with files c) s
proves-poll (Some files) (poll q) status.Done met = (met.0, met.2, met.1, met.3, met.4)
proves-poll files c s met = tt
