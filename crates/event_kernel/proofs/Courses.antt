-- The ticks of a governor's schedule.
use Rattle.std.proofs.Common.{◌≡◌, ℕ, ◌+◌, ◌<◌, ◌≤◌, ◌∷◌, length, arith, ap, add-one}
use Rattle.sched_model.specs.Plan.{Plan, count, worst}
use Rattle.sched_model.specs.Ticks.{exec}
use Rattle.sched_model.specs.Jobs.{JobDemands, IsWithin}
use Rattle.sched_model.specs.Schedule.{schedule_by, IsScheduleBy}
use Rattle.sched_model.proofs.Schedules.{schedule_exists, exec-most}
use Rattle.governor.specs.Meanings.{OwnDemand}
use Rattle.governor.specs.Schedule.{ask_of, course}
use Rattle.event_kernel.specs.Tickwork.{tick_at}

module _ (demand : OwnDemand) (p : Plan) (dem : JobDemands) (t : ℕ) where
  pub course-next : course demand p dem (t + 1) ≡ tick_at demand p dem t ∷ course demand p dem t
  unfolding schedule_by
  course-next = ap (course demand p dem) (add-one t)

  pub course-len : length (course demand p dem t) ≡ t
  course-len = (schedule_exists p dem (ask_of demand p dem) t).1

  pub course-legal : IsScheduleBy p dem (ask_of demand p dem) (course demand p dem t)
  course-legal = (schedule_exists p dem (ask_of demand p dem) t).0

  -- no job gets more than it needs
  pub exec-within : (i k : ℕ) → i < count p → exec p (course demand p dem t) i k ≤ dem i k
  exec-within i k lt = exec-most p dem (ask_of demand p dem) (course demand p dem t) course-legal i k lt

  pub low-exec : IsWithin p dem → (i k : ℕ) → i < count p → exec p (course demand p dem t) i k ≤ worst p i
  low-exec low i k lt = omega (arith, exec-within i k lt, low.most i k lt)
