-- When a request is served at the latest.
use Rattle.std.specs.Prelude.{ℕ, ◌+◌, ◌-◌, ◌<◌, ◌≤◌}
use Rattle.grid_fraction.specs.Numbers.{ceil_div}
use Rattle.sched_model.specs.Plan.{period, offset}
use Rattle.sched_model.specs.Jobs.{due}
use Rattle.note_laws.specs.InTime.{IsBy}
use Rattle.poll_server.specs.declared.served.Outcome.{Outcome}
use Rattle.poll_server.specs.declared.served.Outcome.TheVariants.{Served, Pending}
use Rattle.poll_server.specs.ServerJobs.{ServerView, budget, job_release, request_count, arrival, asked_with, taken_up_to}
use Rattle.poll_server.specs.Outcomes.{BelongsTo, ServedView, outcome_at}

-- how many jobs of the server are released before tick t: one for each period that begins between its offset and there
abbrev pub jobs_before : ServerView → ℕ → ℕ
jobs_before s t = ceil_div (t - offset s.plan s.task) (period s.plan s.task)

-- the backlog of request m: the units up to and including it, less those that the jobs released before its arrival take
abbrev pub request_backlog : ServerView → ℕ → ℕ
request_backlog s m = asked_with s m - taken_up_to s (jobs_before s (arrival s m))

-- with a backlog of B units and a budget of Q, the ceil(B/Q)-th job released at or after the arrival
abbrev pub latest_job : ServerView → ℕ → ℕ
latest_job s m = jobs_before s (arrival s m) + ceil_div (request_backlog s m) (budget s)

-- the tick at which the latest job of request m is due
abbrev pub latest_end : ServerView → ℕ → ℕ
latest_end s m = due s.plan s.task (latest_job s m)

-- the request is served, at a position not after tick t
abbrev pub IsServedBy : ℕ → Outcome → Type 0
IsServedBy t (Served job at_end) = IsBy t at_end
IsServedBy t Pending = ⊥

-- each request whose latest end is at most `ticks` is served by then
abbrev pub KeepsBound : ServerView → ℕ → ServedView → Type 0
KeepsBound s ticks r =
    (m : ℕ) → m < request_count s → latest_end s m ≤ ticks → IsServedBy (latest_end s m) (outcome_at r.outcomes m)

-- The jobs before a tick are those that are released before it. Each request belongs to a job, no later one than its
-- latest, and a later request never to an earlier job.
pub record HaveJobs (s : ServerView) : Type 0 where
  pub before : (t k : ℕ) → 1 ≤ k → k ≤ jobs_before s t → job_release s k < t
  pub after : (t k : ℕ) → jobs_before s t < k → t ≤ job_release s k
  pub each : (m : ℕ) → m < request_count s → (k : ℕ) × BelongsTo s m k × (1 ≤ k) × (k ≤ latest_job s m)
  pub in_order : (m n j k : ℕ) → m ≤ n → n < request_count s → BelongsTo s m j → BelongsTo s n k → j ≤ k
