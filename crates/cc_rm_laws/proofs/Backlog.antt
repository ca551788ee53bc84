-- The static schedule with every job at its worst case: what its jobs lack at each release and tick.
use Rattle.std.proofs.Common.{◌≡◌, ℕ, zero, suc, ◌+◌, ◌-◌, ◌*◌, ◌<◌, ◌≤◌, Bool, List, refl, ◌∙◌, arith}
use Rattle.std.proofs.lemmas.Bool.Decides.{nat_tests}
use Rattle.dvs_base.specs.declared.kind.Scheduler.TheVariants.{Rm}
use Rattle.dvs_base.specs.declared.kind.GovernorKind.TheVariants.{Fixed}
use Rattle.grid_fraction.specs.Numbers.{sum_where}
use Rattle.sched_model.specs.Plan.{Plan, count, period, worst, point}
use Rattle.sched_model.specs.Jobs.{due, worst_demand}
use Rattle.sched_model.specs.Ticks.{PublishedDemand, Tick}
use Rattle.sched_model.specs.Demand.{published}
use Rattle.sched_model.specs.Priority.{is_up_to, sum_up_to}
use Rattle.sched_model.specs.Schedule.{entry_in_force}
use Rattle.sched_model.specs.StaticDemand.{static_speed}
use Rattle.sched_model.specs.Backlog.{lacking, backlog}
use Rattle.sched_model.specs.Admission.{IsAdmitted}
use Rattle.sched_model.proofs.JobLaws.{due-none, latest-none}
use Rattle.sched_model.proofs.LevelSums.{sum_where-zero, sum_up_to-where}
use Rattle.sched_model.proofs.Schedules.{schedule-none, schedule-suc}
use Rattle.governor.proofs.Worst.{published-fixed, entry-same, lacking-none}
use Rattle.sched_model.proofs.Lacks.{worst_ticks, IsDown, lack-long, lack-same, lack-quiet, lack-released, lack-span, lack-empties, lack as lack_of, lack_after as lack_after_of}
pub use Rattle.sched_model.proofs.Lacks.{IsQuiet, level_down}

-- the published demand of static, with every job at its worst case
abbrev asked : Plan → PublishedDemand
asked p = published p Fixed (worst_demand p)

-- what the job of task i that was released last before t lacks at t
abbrev pub lack : Plan → ℕ → ℕ → ℕ
lack p t i = lack_of p (asked p) t i

-- what the latest job of task i lacks at t, right after the releases of t
abbrev pub lack_after : Plan → ℕ → ℕ → ℕ
lack_after p t i = lack_after_of p (asked p) t i

pub lack-is : (p : Plan) (t i : ℕ) → 0 < t → lack p t i ≡ lacking p (worst_ticks p (asked p) t) i
lack-is p t i pos = grind arith

pub backlog-is : (p : Plan) (t i : ℕ) → backlog p t i ≡ sum_up_to (count p) (period p) (lack p t) i
unfolding backlog
backlog-is p t i = grind (arith, nat_tests, sum_where-zero, schedule-none, schedule-suc)

pub backlog-where : (p : Plan) (t i : ℕ) → i < count p
    → backlog p t i ≡ sum_where (count p) (is_up_to (period p) i) (lack p t)
backlog-where p t i h = backlog-is p t i ∙ sum_up_to-where (count p) (period p) (lack p t) i h

-- under RM the speed of the static schedule is always the static one
static-same : (p : Plan) → p.scheduler ≡ Rm → (past : List Tick)
    → (point p (entry_in_force p (worst_demand p) (asked p) past)).speed ≡ static_speed p
static-same p rm past = grind (arith, entry-same, published-fixed)

module _ (p : Plan) (adm : IsAdmitted p) where
  -- if a task has no release, it lacks as much after the releases as before
  pub quiet_row : (t j : ℕ) → j < count p → IsQuiet p t j → lack_after p t j ≡ lack p t j
  quiet_row = lack-quiet p adm.limits (asked p)

  -- if a job of a task is due, the task lacks nothing
  pub lack-none : (t i k : ℕ) → i < count p → t ≡ due p i k → lack p t i ≡ 0
  lack-none zero i k h e = refl
  lack-none (suc t) i zero h e = grind (arith, lack-long, due-none, latest-none)
  lack-none (suc t) i (suc k) h e = lacking-none p adm (suc t) i (suc k) h (omega arith) e

  -- if a job of a task is due, the task lacks its whole worst case after the releases
  pub released-lack : (t i k : ℕ) → i < count p → t ≡ due p i k → lack_after p t i ≡ worst p i
  released-lack = lack-released p adm.limits (asked p)

  -- a task lacks at least as much after the releases as before
  pub after-least : (t i : ℕ) → i < count p → lack p t i ≤ lack_after p t i
  after-least t i h = grind (arith, nat_tests, lack-none, lack-same)

  -- without a release after r, d + 1 ticks take d + 1 times the static speed from what a set lacks that has,
  -- with each task, those before it
  pub backlog-span : p.scheduler ≡ Rm → (test : ℕ → Bool) → IsDown p test → (r d : ℕ)
      → ((u j : ℕ) → r < u → u < r + suc d → j < count p → IsQuiet p u j)
      → sum_where (count p) test (lack p (r + suc d))
      ≡ sum_where (count p) test (lack_after p r) - suc d * static_speed p
  backlog-span rm test down r d quiet =
      lack-span p adm.limits (asked p) rm (static_speed p) (static-same p rm) test down r d quiet

  -- if task i lacks units at r and none at a later tick up to the next release, its level lacks none there
  pub backlog-empties : p.scheduler ≡ Rm → (i r d : ℕ) → i < count p
      → ((u j : ℕ) → r < u → u < r + suc d → j < count p → IsQuiet p u j)
      → 0 < lack_after p r i → lack p (r + suc d) i ≡ 0 → backlog p (r + suc d) i ≡ 0
  backlog-empties rm i r d h quiet pos none =
      backlog-where p (r + suc d) i h
      ∙ lack-empties p adm.limits (asked p) rm (static_speed p) (static-same p rm) i r d h quiet pos none
