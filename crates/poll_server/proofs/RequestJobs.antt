-- Which job a request belongs to, and its outcome from the job that the walk over the requests is at.
use Rattle.std.proofs.Common.{◌≡◌, ℕ, zero, suc, ◌<◌, ◌≤◌, Bool, true, false, nat_le, refl, arith, ◌+◌, ◌-◌, List, ap, ◌∙◌, sym, subst, add-one}
use Rattle.std.proofs.Math.Logic.{⊎_elim}
use Rattle.std.proofs.lemmas.Bool.{cases_lt}
use Rattle.std.proofs.lemmas.Bool.Decides.{nat_tests}
use Rattle.std.specs.Prelude.{Option}
use Rattle.grid_fraction.specs.Numbers.{ceil_div}
use Rattle.grid_fraction.proofs.Searches.{first_from-found, first_from-before, first_from-most}
use Rattle.grid_fraction.proofs.Sums.{sum_below-up}
use Rattle.governor.proofs.RmLevels.{ceil_covers}
use Rattle.request_list.specs.Requests.{AreRequests}
use Rattle.sched_model.specs.Plan.{period}
use Rattle.dvs_base.specs.declared.note.Note.{Note}
use Rattle.dvs_base.specs.declared.note.Pos.{Pos}
use Rattle.poll_server.specs.ServerJobs.{ServerView, budget, request_count, arrival, units, asked_with, taken_up_to, asked_below}
use Rattle.poll_server.specs.Outcomes.{BelongsTo, done_at}
use Rattle.poll_server.specs.Bound.{jobs_before, request_backlog, latest_job, HaveJobs}
use Rattle.poll_server.specs.EachOutcome.{job_of, outcome_by, outcome_of}
use Rattle.poll_server.proofs.Takings.{taken-none, arrived-all, before-released, released-before, reach, taken-up}
use Rattle.poll_server.specs.declared.served.Outcome.TheVariants.{Pending}
use Rattle.poll_server.specs.declared.outcomes.Reached.{Reached}
use Rattle.poll_server.specs.Walks.{AreEnds, HasReached, end_at}

-- more requests ask for no fewer units
pub asked-up : (s : ServerView) (m n : ℕ) → m ≤ n → asked_with s m ≤ asked_with s n
asked-up s m n le = sum_below-up (suc m) (suc n) (units s) (omega arith)

-- a later request never belongs to an earlier job
pub in-order : (s : ServerView) (m n j k : ℕ) → m ≤ n → BelongsTo s m j → BelongsTo s n k → j ≤ k
in-order s m n j k le first later =
    ⊎_elim (λ lt. absurd (omega (arith, first.first k lt, later.reached, asked-up s m n le))) (λ ge. ge) (cases_lt k j)

-- a request belongs to at most one job
pub one-job : (s : ServerView) (m j k : ℕ) → BelongsTo s m j → BelongsTo s m k → j ≡ k
one-job s m j k a b = omega (arith, in-order s m m j k (omega arith) a b, in-order s m m k j (omega arith) b a)

-- a server with a period and a budget, whose requests are in order and need some units
module _ (s : ServerView) (h : AreRequests s.requests) (some : 0 < period s.plan s.task) (room : 0 < budget s)
    (m : ℕ) (lt : m < request_count s) where
  pub asked-some : 0 < asked_with s m
  asked-some = omega (arith, (h.each m lt).some)

  -- the jobs up to the latest one of request m take the units up to and including it
  pub reached-latest : asked_with s m ≤ taken_up_to s (latest_job s m)
  reached-latest =
      let b = jobs_before s (arrival s m) in
      let d = ceil_div (request_backlog s m) (budget s) in
      let all : (k : ℕ) → b < k → asked_with s m ≤ _ = λ k after. arrived-all s h m _ lt (before-released s (arrival s m) k some after) in
      omega (arith, reach s m b all d (latest_job s m) refl, ceil_covers (request_backlog s m) (budget s) room)

  abbrev test : ℕ → Bool
  test k = nat_le (asked_with s m) (taken_up_to s k)

  latest-some : 1 ≤ latest_job s m
  latest-some = grind (arith, reached-latest, taken-none s, asked-some)

  latest-passes : test (latest_job s m) ≡ true
  latest-passes = let le = reached-latest in grind (arith, nat_tests)

  pub job-some : 1 ≤ job_of s m
  job-some = (first_from-found (latest_job s m) 1 (latest_job s m) test latest-some (omega arith) latest-passes).1

  pub job-most : job_of s m ≤ latest_job s m
  job-most = first_from-most (latest_job s m) 1 (latest_job s m) test latest-some latest-passes

  pub belongs : BelongsTo s m (job_of s m)
  belongs = record {
    reached = (let e : test (job_of s m) ≡ true = (first_from-found (latest_job s m) 1 (latest_job s m) test latest-some (omega arith) latest-passes).0 in
        grind (arith, nat_tests));
    first = before;
  }
    where
      before : (j : ℕ) → j < job_of s m → taken_up_to s j < asked_with s m
      before zero below = omega (arith, taken-none s, asked-some)
      before (suc j) below =
          let e : test (suc j) ≡ false = first_from-before (latest_job s m) 1 (suc j) test (omega arith) below in
          grind (arith, nat_tests)

-- each request belongs to a job, and a later request never to an earlier job
pub have-jobs : (s : ServerView) → AreRequests s.requests → 0 < period s.plan s.task → 0 < budget s → HaveJobs s
have-jobs s h some room = record {
  before = λ t k first le. released-before s t k some first le;
  after = λ t k lt. before-released s t k some lt;
  each = λ m lt. (job_of s m, belongs s h some room m lt, job-some s h some room m lt, job-most s h some room m lt);
  in_order = λ m n j k le lt first later. in-order s m n j k le first later;
}

-- a server with a period and a budget, and one of its requests
module _ (s : ServerView) (h : AreRequests s.requests) (some : 0 < period s.plan s.task) (room : 0 < budget s)
    (n m : ℕ) (lt : m < request_count s) (r : Reached) (reached : HasReached s n (m + 1) r) where
  asked_below-is : r.asked ≡ asked_with s m
  asked_below-is = reached.asked_for ∙ ap (asked_below s) (add-one m)

  -- if the jobs so far take what was asked for, the request belongs to the last of them
  pub job-is : r.asked ≤ r.waiting.taken → job_of s m ≡ r.job
  job-is enough =
      let here : BelongsTo s m r.job = record {
        reached = omega (arith, enough, asked_below-is, reached.stands.counted);
        first = λ j below. subst (λ (u : ℕ). taken_up_to s j < u) (ap (asked_below s) (add-one m)) (reached.first j below);
      } in
      one-job s m (job_of s m) r.job (belongs s h some room m lt) here

  -- if the jobs so far take what was asked for, the walk is at some job
  pub reached-some : r.asked ≤ r.waiting.taken → 1 ≤ r.job
  reached-some enough = grind (arith, reached.stands.counted, taken-none s, enough, asked_below-is, asked-some s h some room m lt)

  -- the ends of the first n jobs by these notes
  module _ (notes : List Note) (ends : List (Option Pos)) (are : AreEnds s notes n ends) where
    pub outcome-reached : r.asked ≤ r.waiting.taken → outcome_of s notes m ≡ outcome_by r.job (end_at ends (r.job - 1))
    outcome-reached enough =
        let first : 1 ≤ r.job = reached-some enough in
        let back : r.job - 1 + 1 ≡ r.job = omega arith in
        let told : end_at ends (r.job - 1) ≡ done_at notes s.task r.job =
        are.told (r.job - 1) (omega (arith, reached.within, first)) ∙ ap (done_at notes s.task) back in
        ap (λ (k : ℕ). outcome_by k (done_at notes s.task k)) (job-is enough)
        ∙ ap (outcome_by r.job) (sym told)

    -- if all n jobs take less than was asked for, the request is pending
    pub outcome-pending : r.waiting.taken < r.asked → r.job ≡ n → outcome_of s notes m ≡ Pending
    outcome-pending less last =
        let own = belongs s h some room m lt in
        let all : r.waiting.taken ≡ taken_up_to s n = reached.stands.counted ∙ ap (taken_up_to s) last in
        let later : n < job_of s m = ⊎_elim (λ lt. lt)
        (λ le. absurd (omega (arith, taken-up s (job_of s m) n le, all, less, asked_below-is, own.reached))) (cases_lt n (job_of s m)) in
        ap (outcome_by (job_of s m)) (are.no_later (job_of s m) later)
