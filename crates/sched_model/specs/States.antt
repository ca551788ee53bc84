-- The state of a run: a row for each task, and what each call makes of it.
use Rattle.std.specs.Prelude.{ℕ, List, true, ◌-◌, if◌then◌else◌, ◌+◌, false, ◌≡◌, ◌<◌, ◌≤◌, length, map, slice_set, [], ◌∷◌}
use Rattle.std.specs.List.{slice_index_or}
use Rattle.dvs_base.specs.Widths.{u64_end}
use Rattle.dvs_base.specs.declared.kind.Scheduler.{Scheduler}
use Rattle.dvs_base.specs.declared.kind.Scheduler.TheVariants.{Edf, Rm}
use Rattle.grid_fraction.specs.Numbers.{list_below, least_below}
use Rattle.sched_model.specs.declared.state.Row.{Row}
use Rattle.sched_model.specs.Plan.{worst, period, offset, Plan, count}
use Rattle.sched_model.specs.Jobs.{JobDemands, due, latest, last_release}
use Rattle.sched_model.specs.Ticks.{Tick, exec, is_done, at, wleft, is_complete}

-- what a governor sees: the tick, the rows, the tick of the last mark, and what each job might need there
pub record StateView : Type 0 where
  pub now : ℕ
  pub rows : List Row
  pub base_at : ℕ
  pub base : List ℕ

-- the row that is read past the end of the rows
abbrev pub no_row : Row
no_row = record { deadline = 0; job = 0; used = 0; done = true; worst = 0 }

-- the row of task i
abbrev pub row_at : StateView → ℕ → Row
row_at s i = slice_index_or s.rows i no_row

-- the earliest deadline of the rows, which is the next release of any task
abbrev pub earliest_in : Plan → StateView → ℕ
earliest_in p s = least_below (count p) (λ i. (row_at s i).deadline)

-- the key by which a scheduler orders the tasks in a state: the deadline under EDF, the period under RM
abbrev pub key_in : Scheduler → Plan → StateView → ℕ → ℕ
key_in Edf p s i = (row_at s i).deadline
key_in Rm p s i = period p i

-- the units that the job of a row may still need by its worst case; 0 if it is complete
abbrev pub row_wleft : Row → ℕ
row_wleft row = if row.done then 0 else row.worst - row.used

-- a row after its task's next release
abbrev pub released_row : ℕ → Row → Row
released_row period row = record { deadline = row.deadline + period; job = row.job + 1; used = 0; done = false; worst = row.worst }

-- a task's row before its first release: job 0, which is complete and due at the first release
abbrev pub opening_row : ℕ → ℕ → Row
opening_row offset worst = record { deadline = offset; job = 0; used = 0; done = true; worst = worst }

-- the state before the first release: every row has job 0
abbrev pub opening : Plan → StateView
opening p = record {
  now = 0;
  rows = list_below (count p) (λ i. opening_row (offset p i) (worst p i));
  base_at = 0;
  base = list_below (count p) (λ i. 0);
}

-- the state fits the plan: a row and a base for each task, the plan's worst cases, and no job over its worst case
pub record IsOfPlan (p : Plan) (s : StateView) : Type 0 where
  pub rows : length s.rows ≡ count p
  pub base : length s.base ≡ count p
  pub worst : (i : ℕ) → i < count p → (row_at s i).worst ≡ worst p i
  pub used : (i : ℕ) → i < count p → (row_at s i).used ≤ (row_at s i).worst

-- what every state keeps: one base for each row, and no job has had more than its worst case
pub record IsStateOf (s : StateView) : Type 0 where
  pub base : length s.base ≡ length s.rows
  pub used : (i : ℕ) → i < length s.rows → (row_at s i).used ≤ (row_at s i).worst

-- the state after `State::release`: the next job of task i is released
abbrev pub after_release : Plan → StateView → ℕ → StateView
after_release p s i = record s { rows = slice_set s.rows i (released_row (period p i) (row_at s i)) }

-- the state after `State::run`: the job of task i has had `units` more units
abbrev pub after_run : StateView → ℕ → ℕ → StateView
after_run s i units = record s { rows = slice_set s.rows i (record (row_at s i) { used = (row_at s i).used + units }) }

-- the state after `State::finish`: the job of task i is complete
abbrev pub after_finish : StateView → ℕ → StateView
after_finish s i = record s { rows = slice_set s.rows i (record (row_at s i) { done = true }) }

-- the state after `State::advance`: the tick is `to`
abbrev pub after_advance : StateView → ℕ → StateView
after_advance s to = record s { now = to }

-- the state after `State::mark`: the mark is at this tick, and the bases are what each job may still need
abbrev pub after_mark : StateView → StateView
after_mark s = record s { base_at = s.now; base = map row_wleft s.rows }

-- the next job of task i can be released: its row is complete and due now, and its numbers fit in 64 bits
pub record CanRelease (p : Plan) (s : StateView) (i : ℕ) : Type 0 where
  pub task : i < length s.rows
  pub below : i < count p
  pub done : (row_at s i).done ≡ true
  pub due : (row_at s i).deadline ≡ s.now
  pub deadline_fits : (row_at s i).deadline + period p i < u64_end
  pub job_fits : (row_at s i).job + 1 < u64_end

-- the job of task i is incomplete, and its worst case has room for `units` more units
pub record CanRun (s : StateView) (i units : ℕ) : Type 0 where
  pub task : i < length s.rows
  pub open_job : (row_at s i).done ≡ false
  pub room : (row_at s i).used + units ≤ (row_at s i).worst

-- the job of task i is incomplete
pub record CanFinish (s : StateView) (i : ℕ) : Type 0 where
  pub task : i < length s.rows
  pub open_job : (row_at s i).done ≡ false

-- the row of task i before the releases of the tick after `past`:
-- job 0 at the start, and otherwise the latest job of the tick before
abbrev pub prior_row : Plan → JobDemands → List Tick → ℕ → Row
prior_row p dem [] i = opening_row (offset p i) (worst p i)
prior_row p dem (x ∷ past) i =
    let k = latest p i (length past) in
    record { deadline = due p i k; job = k; used = exec p (x ∷ past) i k; done = is_done p dem (x ∷ past) i k; worst = worst p i }

-- the tick of the mark before the releases of the tick after `past`: the last release before it; 0 at the start
abbrev pub prior_base_at : Plan → List Tick → ℕ
prior_base_at p [] = 0
prior_base_at p (x ∷ past) = last_release p (length past)

-- what the job of task i might still need at the mark before the releases of the tick after `past`; 0 at the start
abbrev pub prior_base : Plan → JobDemands → List Tick → ℕ → ℕ
prior_base p dem [] i = 0
prior_base p dem (x ∷ past) i = wleft p dem (at (last_release p (length past)) past) i

-- the state before the releases of the tick after `past`
abbrev pub prior_state : Plan → JobDemands → List Tick → StateView
prior_state p dem past = record {
  now = length past;
  rows = list_below (count p) (prior_row p dem past);
  base_at = prior_base_at p past;
  base = list_below (count p) (prior_base p dem past);
}

-- the row of task i at the tick after `past`, after its releases
abbrev pub row_of : Plan → JobDemands → List Tick → ℕ → Row
row_of p dem past i =
    let k = latest p i (length past) in
    record { deadline = due p i k; job = k; used = exec p past i k; done = is_complete p dem past i; worst = worst p i }

-- the state at the tick after `past`, after its releases and their mark
abbrev pub state_of : Plan → JobDemands → List Tick → StateView
state_of p dem past =
    let r = last_release p (length past) in
    record {
      now = length past;
      rows = list_below (count p) (row_of p dem past);
      base_at = r;
      base = list_below (count p) (wleft p dem (at r past));
    }
