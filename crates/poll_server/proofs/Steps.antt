-- The steps of the walks over a server's jobs and requests.
use Rattle.std.proofs.Common.{◌≡◌, ℕ, ◌+◌, ◌-◌, ◌*◌, ◌^◌, ◌<◌, ◌≤◌, min, List, [], refl, arith, ap, ◌∙◌, sym}
use Rattle.std.proofs.Math.Nat.{mul-le-mul_right}
use Rattle.task_model.specs.DemandRows.{DemandRow, named_units}
use Rattle.request_list.specs.Requests.{AreRequests}
use Rattle.sched_model.specs.Plan.{count, period}
use Rattle.sched_model.specs.Jobs.{release}
use Rattle.sched_model.specs.Admission.{IsAdmitted}
use Rattle.sched_model.proofs.Limits.{every_period}
use Rattle.poll_server.specs.declared.taking.Waiting.{Waiting}
use Rattle.poll_server.specs.declared.outcomes.Reached.{Reached}
use Rattle.poll_server.specs.ServerJobs.{ServerView, budget, job_release, request_count, arrival, units, arrived_units, taken_up_to, taken_units, asked_below}
use Rattle.poll_server.specs.Walks.{HasPassed, StandsAfter, AreTaken, HasReached}
use Rattle.poll_server.proofs.Takings.{taken-none, taken-more, asked_below-low, arrived-counted}

-- the server has some budget and some period
pub some-budget : (s : ServerView) → IsAdmitted s.plan → s.task < count s.plan → 0 < budget s
some-budget s adm lt = (adm.limits.tasks.each s.task lt).some_worst

pub some-period : (s : ServerView) → IsAdmitted s.plan → 0 < period s.plan s.task
some-period s adm = every_period s.plan adm.limits s.task

-- the units of the requests up to and including request m are below 2^128
pub asked_below-fits : (s : ServerView) → AreRequests s.requests → (m : ℕ) → m < request_count s → asked_below s m + units s m < 2 ^ 128
asked_below-fits s h m lt = omega (arith, asked_below-low s h m (omega arith), (h.each m lt).low, h.few)

-- if the next request arrives after tick t, the units of the requests passed are those that arrived by t
pub passed-arrived : (s : ServerView) → AreRequests s.requests → (t : ℕ) (w : Waiting) → HasPassed s t w
    → (w.next < request_count s → t < arrival s w.next) → w.arrived ≡ arrived_units s t
passed-arrived s h t w passed late =
    passed.counted ∙ sym (arrived-counted s h t w.next passed.within passed.early late)

-- the release of a job is not before that of the job before it
release-up : (s : ServerView) (k : ℕ) → job_release s (k + 1) ≤ job_release s (k + 1 + 1)
unfolding release
release-up s k =
    let more : (k + 1 - 1) * period s.plan s.task ≤ (k + 1 + 1 - 1) * period s.plan s.task =
    mul-le-mul_right (period s.plan s.task) (omega arith) in
    omega (arith, more)

-- a job takes the smaller of what waits and the budget
pub takes-is : (s : ServerView) (k a before room u : ℕ) → a ≡ arrived_units s (job_release s (k + 1)) → before ≡ taken_up_to s k
    → room ≡ budget s → u ≡ min (a - before) room → u ≡ taken_units s (k + 1)
takes-is s k a before room u all had most is =
    let back : k + 1 - 1 ≡ k = omega arith in
    omega (arith, all, had, most, is, ap (taken_up_to s) back)

-- after the next job the walk counts what that job takes
pub stands-next : (s : ServerView) (k t u : ℕ) (w : Waiting) → HasPassed s t w → t ≡ job_release s (k + 1)
    → w.taken ≡ taken_up_to s k → u ≡ taken_units s (k + 1)
    → StandsAfter s (k + 1) (record { next = w.next; arrived = w.arrived; taken = w.taken + u })
stands-next s k t u w passed at_release before takes = record {
  passed = record {
    within = passed.within;
    counted = passed.counted;
    early = λ m lt. omega (arith, passed.early m lt, at_release, release-up s k);
  };
  counted = omega (arith, before, takes, taken-more s k);
}

pub stands-first : (s : ServerView) → StandsAfter s 0 (record { next = 0; arrived = 0; taken = 0 })
stands-first s = record {
  passed = record { within = omega arith; counted = refl; early = λ m lt. absurd (omega arith) };
  counted = sym (taken-none s);
}

pub taken-first : (s : ServerView) (rows : List DemandRow) → rows ≡ [] → AreTaken s 0 rows
taken-first s rows none = record {
  taken_by = λ k first most. absurd (omega arith);
  no_later = λ k later. ap (λ (l : List DemandRow). named_units l s.task k) none;
  no_other = λ i k lt other. ap (λ (l : List DemandRow). named_units l i k) none;
}

-- the walk over the requests goes one job further
pub reached-next : (s : ServerView) (n m : ℕ) (r : Reached) (w : Waiting) → HasReached s n m r → r.job < n
    → r.waiting.taken < r.asked → StandsAfter s (r.job + 1) w
    → HasReached s n m (record { job = r.job + 1; waiting = w; asked = r.asked })
reached-next s n m r w h lt less stands = record {
  within = omega arith;
  stands = stands;
  asked_for = h.asked_for;
  first = λ j below. grind (arith, h.first j, h.stands.counted, h.asked_for, less, below);
}

pub reached-first : (s : ServerView) (n : ℕ)
    → HasReached s n 0 (record { job = 0; waiting = record { next = 0; arrived = 0; taken = 0 }; asked = 0 })
reached-first s n = record {
  within = omega arith;
  stands = stands-first s;
  asked_for = refl;
  first = λ j below. absurd (omega arith);
}
