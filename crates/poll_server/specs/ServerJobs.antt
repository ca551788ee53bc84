-- What the jobs of a polling server take: requests in order of arrival, at each release up to a budget.
use Rattle.std.specs.Prelude.{ℕ, zero, suc, ◌+◌, ◌-◌, min, nat_eq, nat_le, List, length, if◌then◌else◌}
use Rattle.grid_fraction.specs.Numbers.{sum_below, sum_where}
use Rattle.request_list.specs.declared.requests.Request.{Request}
use Rattle.request_list.specs.Requests.{request_at}
use Rattle.freq_table.specs.Tables.{job_charge}
use Rattle.sched_model.specs.Plan.{Plan, task as task_of, worst}
use Rattle.sched_model.specs.Jobs.{release}

-- a polling server: a task of a plan, and the requests that it serves in their order
pub record ServerView : Type 0 where
  pub plan : Plan
  pub task : ℕ
  pub requests : List Request

-- the server of this plan, task and list of requests
abbrev pub server_of : Plan → ℕ → List Request → ServerView
server_of plan task requests = record { plan = plan; task = task; requests = requests }

-- the budget of a server in work units: the declared worst case of its task
abbrev pub budget : ServerView → ℕ
budget s = (task_of s.plan s.task).worst

-- the tick at which job k of the server is released; jobs count from 1
abbrev pub job_release : ServerView → ℕ → ℕ
job_release s k = release s.plan s.task k

-- the number of requests; they are numbered from 0
abbrev pub request_count : ServerView → ℕ
request_count s = length s.requests

-- the tick at which request m arrives
abbrev pub arrival : ServerView → ℕ → ℕ
arrival s m = (request_at s.requests m).arrival

-- the work units that request m needs
abbrev pub units : ServerView → ℕ → ℕ
units s m = (request_at s.requests m).units

-- the units of all requests that arrived at or before tick t
abbrev pub arrived_units : ServerView → ℕ → ℕ
arrived_units s t = sum_where (request_count s) (λ m. nat_le (arrival s m) t) (units s)

-- The units that the first k jobs take together. Each takes, of what arrived by its release and no earlier job took, as
-- much as the budget allows.
unfoldable pub taken_up_to : ServerView → ℕ → ℕ
taken_up_to s zero = 0
taken_up_to s (suc k) =
    let before = taken_up_to s k in before + min (budget s) (arrived_units s (job_release s (suc k)) - before)

-- the units that wait at the release of job k: those that arrived by then, less those that earlier jobs take
abbrev pub waiting : ServerView → ℕ → ℕ
waiting s k = arrived_units s (job_release s k) - taken_up_to s (k - 1)

-- the units that job k takes: the budget, or what waits if that is less
abbrev pub taken_units : ServerView → ℕ → ℕ
taken_units s k = min (budget s) (waiting s k)

-- The demand of each job of the plan: a job of the server needs what it takes, with the charge, and every other job its
-- worst case. Job 0 needs nothing.
abbrev pub polled_demand : ServerView → ℕ → ℕ → ℕ
polled_demand s i zero = 0
polled_demand s i (suc k) =
    if nat_eq i s.task then taken_units s (suc k) + job_charge s.plan.machine else worst s.plan i

-- the units of the first n requests
abbrev pub asked_below : ServerView → ℕ → ℕ
asked_below s n = sum_below n (units s)

-- the units of the requests up to and including m
abbrev pub asked_with : ServerView → ℕ → ℕ
asked_with s m = asked_below s (suc m)
