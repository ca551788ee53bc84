-- Responses, and ticks at which first jobs are complete, by evaluation.
use Rattle.std.proofs.Common.{◌≡◌, ℕ, true, false, [], ◌∷◌, map, replicate, codes, refl, arith}
use Rattle.dvs_base.specs.declared.kind.Scheduler.TheVariants.{Rm}
use Rattle.freq_table.specs.Tables.{Table}
use Rattle.sched_model.specs.Plan.{Plan, plan_of}
use Rattle.sched_model.specs.Jobs.{release, due, latest, worst_demand}
use Rattle.sched_model.specs.Ticks.{at, exec}
use Rattle.sched_model.specs.Schedule.{schedule_by}
use Rattle.sched_model.specs.Demand.{published}
use Rattle.sched_model.proofs.Examples.{task_of, entry_of}
use Rattle.governor.specs.Worst.{level_work_in}
use Rattle.governor.proofs.Worst.{worst-within}
use Rattle.rm_response_laws.specs.Responses.{response, full_worst_ticks, is_first_done, MeetsAllDeadlines}

abbrev one_speed_of : ℕ → Table
one_speed_of speed = record { points = entry_of speed 1000 ∷ []; idle = 0; charge = 0 }

-- two tasks that the published test denies, but that meet their deadlines
abbrev close_pair : Plan
close_pair = plan_of (task_of (codes "a") 4 2 ∷ task_of (codes "b") 5 2 ∷ []) (one_speed_of 1) Rm

close_responses : (response close_pair 0 ≡ 2) × (response close_pair 1 ≡ 4)
unfolding response
close_responses = (refl, refl)

-- the first job of the second task of `close_pair` is complete at its response, and not a tick before
close_firsts : (is_first_done close_pair 1 3 ≡ false) × (is_first_done close_pair 1 4 ≡ true)
unfolding schedule_by published release due latest
close_firsts = (refl, refl)

-- the units that job k of task i of `close_pair` has had at its deadline
abbrev had_when_due : ℕ → ℕ → ℕ
had_when_due i k = exec close_pair (at (due close_pair i k) (full_worst_ticks close_pair 20)) i k

close_met_first : map (had_when_due 0) (1 ∷ 2 ∷ 3 ∷ 4 ∷ 5 ∷ []) ≡ replicate 5 2
unfolding schedule_by published release due latest
close_met_first = refl

close_met_second : map (had_when_due 1) (1 ∷ 2 ∷ 3 ∷ 4 ∷ []) ≡ replicate 4 2
unfolding schedule_by published release due latest
close_met_second = refl

-- two tasks; the second one has no response
abbrev late_pair : Plan
late_pair = plan_of (task_of (codes "a") 4 4 ∷ task_of (codes "b") 6 5 ∷ []) (one_speed_of 2) Rm

late_response : (response late_pair 0 ≡ 2) × (response late_pair 1 ≡ 7) × (level_work_in late_pair 6 1 ≡ 13)
unfolding response
late_response = (refl, refl, refl)

late_first : is_first_done late_pair 1 6 ≡ false
unfolding schedule_by published release due latest
late_first = refl

-- at worst the first job of its second task has 4 of its 5 units by the end of the sixth tick, where it is due
late_missed : MeetsAllDeadlines late_pair → ⊥
unfolding schedule_by published release due latest
late_missed meets =
    omega (arith, meets (worst_demand late_pair) (worst-within late_pair) 6 1 1 (omega arith) (omega arith) (omega arith))
