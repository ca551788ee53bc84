-- When the jobs of a task are released and due, which is the latest, and what each really needs.
use Rattle.std.specs.Prelude.{ℕ, zero, suc, ◌+◌, ◌*◌, List, unwrap_or, option_map, ◌<◌, ◌≤◌, ◌≡◌, ◌-◌, ◌/◌, nat_le, if◌then◌else◌, Bool, nat_eq, nat_lt, ◌&&◌}
use Rattle.task_model.specs.DemandRows.{DemandRow, named_units}
use Rattle.grid_fraction.specs.Numbers.{any_below, least_below, last_up_to, sum_below, ceil_div}
use Rattle.freq_table.specs.Tables.{job_charge}
use Rattle.sched_model.specs.Plan.{Plan, worst, count, period, offset}

-- the units that a job really needs, from its task's number and its own
abbrev pub JobDemands : Type 0
JobDemands = ℕ → ℕ → ℕ

-- dem(i,k), the units of job k of task i: by the list, with the charge, or the worst case; 0 for job 0
abbrev pub demand_of : Plan → List DemandRow → ℕ → ℕ → ℕ
demand_of p rows i zero = 0
demand_of p rows i (suc k) = unwrap_or (option_map (λ u. u + job_charge p.machine) (named_units rows i (suc k))) (worst p i)

-- no job needs more than its worst case, and job 0 needs none
pub record IsWithin (p : Plan) (dem : JobDemands) : Type 0 where
  pub most : (i k : ℕ) → i < count p → dem i k ≤ worst p i
  pub none : (i : ℕ) → dem i 0 ≡ 0

-- the demands with every job at its worst case; 0 for job 0
abbrev pub worst_demand : Plan → ℕ → ℕ → ℕ
worst_demand p i zero = 0
worst_demand p i (suc k) = worst p i

-- the tick at which job k of task i is released; jobs count from 1
unfoldable pub release : Plan → ℕ → ℕ → ℕ
release p i k = offset p i + (k - 1) * period p i

-- the tick at which job k of task i is due; job 0, which precedes the first release, is due at the first release
unfoldable pub due : Plan → ℕ → ℕ → ℕ
due p i k = offset p i + k * period p i

-- the job of task i that was released last, up to and including tick t; job 0 if none was
unfoldable pub latest : Plan → ℕ → ℕ → ℕ
latest p i t = if nat_le (offset p i) t then (t - offset p i) / period p i + 1 else 0

-- the tick since which job k of task i is the latest: its release, and 0 for job 0
abbrev pub latest_since : Plan → ℕ → ℕ → ℕ
latest_since p i zero = 0
latest_since p i (suc k) = release p i (suc k)

-- Di(t), the deadline of the latest job of task i
abbrev pub deadline : Plan → ℕ → ℕ → ℕ
deadline p i t = due p i (latest p i t)

-- whether a job of task i is released at t
abbrev pub releases_at : Plan → ℕ → ℕ → Bool
releases_at p i t = nat_eq (release p i (latest p i t)) t

-- whether any job is released at t
abbrev pub is_release : Plan → ℕ → Bool
is_release p t = any_below (count p) (λ i. releases_at p i t)

-- the earliest deadline of the latest jobs at tick t
abbrev pub earliest : Plan → ℕ → ℕ
earliest p t = least_below (count p) (λ i. deadline p i t)

-- r, the last tick with a release, up to and including tick t; 0 if there is none
abbrev pub last_release : Plan → ℕ → ℕ
last_release p t = last_up_to t (is_release p)

-- whether tick s is in the window of job k of task i: not before its release, and before its deadline
abbrev pub is_in_window : Plan → ℕ → ℕ → ℕ → Bool
is_in_window p i k s = nat_le (release p i k) s && nat_lt s (due p i k)

-- the number of jobs of task i released before tick t
abbrev pub jobs_before : Plan → ℕ → ℕ → ℕ
jobs_before p i t = ceil_div (t - offset p i) (period p i)

-- the number of jobs released before tick `ticks`
abbrev pub released_jobs : Plan → ℕ → ℕ
released_jobs p ticks = sum_below (count p) (λ i. jobs_before p i ticks)
