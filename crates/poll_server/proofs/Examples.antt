-- The definitions at work: the tasks s (period 5, worst case 4) and a (period 10, worst case 10). The task s serves
-- three requests: 3 units at tick 0, 6 at tick 1 and 1 at tick 12.
use Rattle.std.proofs.Common.{◌≡◌, ◌≤◌, inl, inr, ℕ, List, [], ◌∷◌, refl, arith, subst}
use Rattle.dvs_base.specs.declared.kind.Scheduler.TheVariants.{Edf}
use Rattle.freq_table.specs.Tables.{Table}
use Rattle.request_list.specs.declared.requests.Request.{Request}
use Rattle.sched_model.specs.Plan.{Plan, plan_of}
use Rattle.sched_model.specs.Jobs.{release, due}
use Rattle.task_model.specs.declared.task.Task.{Task}
use Rattle.poll_server.specs.ServerJobs.{ServerView, server_of, taken_up_to, taken_units, polled_demand}
use Rattle.poll_server.specs.declared.served.Outcome.{Outcome}
use Rattle.poll_server.specs.declared.served.Outcome.TheVariants.{Served, Pending}
use Rattle.poll_server.specs.Outcomes.{BelongsTo, ServedView, outcome_at}
use Rattle.poll_server.specs.Bound.{jobs_before, request_backlog, latest_job, latest_end, IsServedBy, KeepsBound, HaveJobs}
use Rattle.poll_server.specs.EachOutcome.{job_of}

abbrev task_with : ℕ → ℕ → Task
task_with period worst = record { name = 115 ∷ []; period = period; worst = worst; offset = 0 }

abbrev machine : Table
machine = record { points = record { speed = 4; millivolts = 5000 } ∷ []; idle = 0; charge = 1 }

abbrev plan : Plan
plan = plan_of (task_with 5 4 ∷ task_with 10 10 ∷ []) machine Edf

abbrev request : ℕ → ℕ → Request
request arrival units = record { arrival = arrival; units = units }

abbrev server : ServerView
server = server_of plan 0 (request 0 3 ∷ request 1 6 ∷ request 12 1 ∷ [])

-- a request that arrives with the release counts, and one that arrives after it waits for the next
takes : (taken_units server 1 ∷ taken_units server 2 ∷ taken_units server 3 ∷ taken_units server 4 ∷ taken_units server 5 ∷ []) ≡ (3 ∷ 4 ∷ 2 ∷ 1 ∷ 0 ∷ [])
unfolding taken_up_to release
takes = refl

-- the jobs of the server need what they take, with the charge, and the other jobs their worst cases with the charge
needs : (polled_demand server 0 0 ∷ polled_demand server 0 1 ∷ polled_demand server 0 5 ∷ polled_demand server 1 1 ∷ []) ≡ (0 ∷ 5 ∷ 2 ∷ 12 ∷ [])
unfolding taken_up_to release
needs = refl

-- the second request is served by the third job, and the third request by the fourth
jobs : (job_of server 0 ∷ job_of server 1 ∷ job_of server 2 ∷ []) ≡ (1 ∷ 3 ∷ 4 ∷ [])
unfolding taken_up_to release
jobs = refl

-- the second request has a backlog of 6 units after one job; two jobs more serve it by tick 15
bound : (jobs_before server 1 ∷ request_backlog server 1 ∷ latest_job server 1 ∷ latest_end server 1 ∷ []) ≡ (1 ∷ 6 ∷ 3 ∷ 15 ∷ [])
unfolding taken_up_to release due
bound = refl

-- a job that is released with the arrival isn't before it
releases_before : (jobs_before server 0 ∷ jobs_before server 5 ∷ jobs_before server 6 ∷ []) ≡ (0 ∷ 1 ∷ 2 ∷ [])
releases_before = refl

-- a request of 9 units takes three jobs, at the budget 4
long : (taken_units (server_of plan 0 (request 0 9 ∷ [])) 1 ∷ taken_units (server_of plan 0 (request 0 9 ∷ [])) 3
    ∷ job_of (server_of plan 0 (request 0 9 ∷ [])) 0 ∷ latest_job (server_of plan 0 (request 0 9 ∷ [])) 0 ∷ []) ≡ (4 ∷ 1 ∷ 3 ∷ 3 ∷ [])
unfolding taken_up_to release
long = refl

-- served by a job that is done at this position
abbrev served_at : ℕ → ℕ → Outcome
served_at tick offset = Served 3 (record { tick = tick; offset = offset })

-- the beginning of a tick is by then; a unit later isn't, nor is a pending request served
served_in_time : IsServedBy 15 (served_at 15 0) × (IsServedBy 15 (served_at 15 1) → ⊥) × (IsServedBy 15 Pending → ⊥)
served_in_time = (inr (refl, refl), late, λ none. none)
  where
    late : IsServedBy 15 (served_at 15 1) → ⊥
    late (inl before) = omega (arith, before)
    late (inr at_tick) = omega (arith, at_tick.1)

-- the bound of the second request holds in a run of 15 ticks: it isn't pending there
bound_at_the_end : (r : ServedView) → r.outcomes ≡ (served_at 5 0 ∷ Pending ∷ Pending ∷ []) → KeepsBound server 15 r → ⊥
unfolding taken_up_to release due
bound_at_the_end r outcomes keeps =
    subst (λ (os : List Outcome). IsServedBy 15 (outcome_at os 1)) outcomes (keeps 1 (omega arith) (omega arith))

-- no job is before tick 0, and the second request belongs to the third job or to one before it
have_jobs : ((s : ServerView) → HaveJobs s → jobs_before s 0 ≡ 1 → ⊥) × (HaveJobs server → (k : ℕ) × BelongsTo server 1 k × (k ≤ 3))
unfolding taken_up_to release
have_jobs = (λ s have one. omega (arith, have.before 0 1 (omega arith) (omega (arith, one))), λ have. third (have.each 1 (omega arith)))
  where
    third : ((k : ℕ) × BelongsTo server 1 k × (1 ≤ k) × (k ≤ latest_job server 1)) → (k : ℕ) × BelongsTo server 1 k × (k ≤ 3)
    third (k, belongs, some, latest) = (k, belongs, latest)
