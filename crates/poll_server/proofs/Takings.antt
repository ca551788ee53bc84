-- What a server's jobs take, job by job.
use Rattle.std.proofs.Common.{◌≡◌, ℕ, zero, suc, ◌<◌, ◌≤◌, refl, arith, eq-or-lt_of_le, ◌+◌, ◌-◌, ◌*◌, min, true, false, nat_le, if◌then◌else◌, ap, ◌∙◌, sym, add-one}
use Rattle.std.proofs.Math.Logic.{⊎_elim}
use Rattle.std.proofs.Math.Nat.{mul-le-mul_right, div-mul-le_self}
use Rattle.std.proofs.lemmas.Bool.Decides.{nat_tests}
use Rattle.grid_fraction.specs.Numbers.{sum_below}
use Rattle.grid_fraction.proofs.Sums.{sum_below-same, sum_below-up, sum_below-limit}
use Rattle.governor.proofs.RmLevels.{ceil_covers}
use Rattle.request_list.specs.declared.limits.TheConstants.{MOST_REQUEST_UNITS}
use Rattle.request_list.specs.Requests.{AreRequests}
use Rattle.sched_model.specs.Plan.{period, offset}
use Rattle.sched_model.specs.Jobs.{release}
use Rattle.poll_server.specs.ServerJobs.{ServerView, budget, job_release, request_count, arrival, units, arrived_units, taken_up_to, taken_units, asked_below, asked_with}
use Rattle.poll_server.specs.Bound.{jobs_before}

-- a sum whose terms from n on are 0 is the sum of its first n terms
pub sum_below-cut : (c n : ℕ) (f g : ℕ → ℕ) → n ≤ c → ((k : ℕ) → k < n → f k ≡ g k)
    → ((k : ℕ) → n ≤ k → k < c → f k ≡ 0) → sum_below c f ≡ sum_below n g
sum_below-cut zero n f g le same none =
    let e : n ≡ 0 = omega arith in rw e refl
sum_below-cut (suc c) n f g le same none =
    ⊎_elim (λ e. rw e (sum_below-same (suc c) f g (λ k lt. same k (omega (arith, e)))))
    (λ l. omega (
      arith,
      sum_below-cut c n f g (omega (arith, l)) same (λ k low high. none k low (omega arith)),
      none c (omega (arith, l)) (omega arith),
    )) (eq-or-lt_of_le le)

pub taken-none : (s : ServerView) → taken_up_to s 0 ≡ 0
unfolding taken_up_to
taken-none s = refl

pub taken-suc : (s : ServerView) (k : ℕ)
    → taken_up_to s (suc k) ≡ taken_up_to s k + min (budget s) (arrived_units s (job_release s (suc k)) - taken_up_to s k)
unfolding taken_up_to
taken-suc s k = refl

-- with one job more, the units taken grow by what that job takes
pub taken-more : (s : ServerView) (k : ℕ) → taken_up_to s (k + 1) ≡ taken_up_to s k + taken_units s (k + 1)
taken-more s k =
    let one : k + 1 ≡ suc k = add-one k in
    let back : k + 1 - 1 ≡ k = omega arith in
    ap (taken_up_to s) one
    ∙ (taken-suc s k ∙ sym (
    ap (λ (j : ℕ). taken_up_to s k + min (budget s) (arrived_units s (job_release s (k + 1)) - taken_up_to s j)) back
    ∙ ap (λ (j : ℕ). taken_up_to s k + min (budget s) (arrived_units s (job_release s j) - taken_up_to s k)) one))

-- more jobs take no fewer units
pub taken-up : (s : ServerView) (j k : ℕ) → j ≤ k → taken_up_to s j ≤ taken_up_to s k
taken-up s j zero le = let e : j ≡ 0 = omega arith in rw e (omega arith)
taken-up s j (suc k) le =
    ⊎_elim (λ e. rw e (omega arith)) (λ l. omega (arith, taken-up s j k (omega (arith, l)), taken-suc s k)) (eq-or-lt_of_le le)

-- k jobs take at most k times the budget
pub taken-low : (s : ServerView) (k : ℕ) → taken_up_to s k ≤ k * budget s
taken-low s zero = omega (arith, taken-none s)
taken-low s (suc k) = omega (arith, taken-low s k, taken-suc s k)

-- the units of the first n requests are at most n times the limit on a request's units
pub asked_below-low : (s : ServerView) → AreRequests s.requests → (n : ℕ) → n ≤ request_count s → asked_below s n ≤ n * MOST_REQUEST_UNITS
asked_below-low s h n le = sum_below-limit n MOST_REQUEST_UNITS (units s) (λ k lt. (h.each k (omega arith)).low)

-- a later request arrives no earlier
pub arrival-up : (s : ServerView) → AreRequests s.requests → (m n : ℕ) → m ≤ n → n < request_count s → arrival s m ≤ arrival s n
arrival-up s h m n le lt = ⊎_elim (λ e. rw e (omega arith)) (λ l. h.in_order m n l lt) (eq-or-lt_of_le le)

-- the units of request m that have arrived by tick t: all or none
abbrev counts : ServerView → ℕ → ℕ → ℕ
counts s t m = if nat_le (arrival s m) t then units s m else 0

counts-early : (s : ServerView) (t m : ℕ) → arrival s m ≤ t → counts s t m ≡ units s m
counts-early s t m le = let e : nat_le (arrival s m) t ≡ true = grind (arith, nat_tests) in rw e refl

counts-late : (s : ServerView) (t m : ℕ) → t < arrival s m → counts s t m ≡ 0
counts-late s t m lt = let e : nat_le (arrival s m) t ≡ false = grind (arith, nat_tests) in rw e refl

-- if the requests before n arrived by tick t and the others didn't, the units arrived are those of the first n
pub arrived-counted : (s : ServerView) → AreRequests s.requests → (t n : ℕ) → n ≤ request_count s
    → ((m : ℕ) → m < n → arrival s m ≤ t) → (n < request_count s → t < arrival s n) → arrived_units s t ≡ asked_below s n
arrived-counted s h t n le early late =
    sum_below-cut (request_count s) n (counts s t) (units s) le (λ m lt. counts-early s t m (early m lt))
    (λ m low high. counts-late s t m (
    let first : t < arrival s n = late (omega arith) in
    omega (arith, first, arrival-up s h n m low high)))

-- if a request has arrived, all units up to and including it have arrived
pub arrived-all : (s : ServerView) → AreRequests s.requests → (m t : ℕ) → m < request_count s → arrival s m ≤ t
    → asked_with s m ≤ arrived_units s t
arrived-all s h m t lt le =
    let same : sum_below (suc m) (counts s t) ≡ asked_with s m =
    sum_below-same (suc m) (counts s t) (units s) (λ k low. counts-early s t k (
    let before : arrival s k ≤ arrival s m = arrival-up s h k m (omega arith) lt in omega (arith, before))) in
    omega (arith, same, sum_below-up (suc m) (request_count s) (counts s t) (omega arith))

-- a job after those released before tick t is released at t or later
pub before-released : (s : ServerView) (t k : ℕ) → 0 < period s.plan s.task → jobs_before s t < k → t ≤ job_release s k
unfolding release
before-released s t k some lt =
    let covers : t - offset s.plan s.task ≤ jobs_before s t * period s.plan s.task =
    ceil_covers (t - offset s.plan s.task) (period s.plan s.task) some in
    let more : jobs_before s t * period s.plan s.task ≤ (k - 1) * period s.plan s.task =
    mul-le-mul_right (period s.plan s.task) (omega arith) in
    omega (arith, covers, more)

-- the jobs released before tick t are released before it
pub released-before : (s : ServerView) (t k : ℕ) → 0 < period s.plan s.task → 1 ≤ k → k ≤ jobs_before s t → job_release s k < t
unfolding release
released-before s t k some first le =
    let p = period s.plan s.task in
    let span = t - offset s.plan s.task in
    let low = div-mul-le_self (span + (p - 1)) p in
    let most : k * p ≤ jobs_before s t * p = mul-le-mul_right p le in
    let one : k * p ≡ (k - 1) * p + p = take-one k p first in
    omega (arith, low, most, one)
  where
    take-one : (j q : ℕ) → 1 ≤ j → j * q ≡ (j - 1) * q + q
    take-one zero q lt = absurd (omega arith)
    take-one (suc j) q lt = let e : suc j - 1 ≡ j = omega arith in rw e (omega arith)

-- If all units up to and including a request have arrived by the release of each job after the first b, d jobs more
-- take d times the budget, or reach the request.
pub reach : (s : ServerView) (m b : ℕ) → ((k : ℕ) → b < k → asked_with s m ≤ arrived_units s (job_release s k)) → (d k : ℕ)
    → k ≡ b + d → min (asked_with s m) (taken_up_to s b + d * budget s) ≤ taken_up_to s k
reach s m b all zero k is = let e : k ≡ b = omega arith in rw e (omega arith)
reach s m b all (suc d) zero is = absurd (omega arith)
reach s m b all (suc d) (suc k) is =
    let ih : min (asked_with s m) (taken_up_to s b + d * budget s) ≤ taken_up_to s k = reach s m b all d k (omega arith) in
    let more : suc d * budget s ≡ d * budget s + budget s = omega arith in
    omega (arith, ih, more, taken-suc s k, all (suc k) (omega arith))
