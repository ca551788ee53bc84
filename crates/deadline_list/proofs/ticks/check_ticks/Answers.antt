use Rattle.std.proofs.Common.{◌≡◌, ℕ, ◌+◌, ◌<◌, ◌≤◌, List, length, slice_index, drop, Result, Ok, sym, ap, ◌∙◌, subst, add-one, arith}
use Rattle.std.proofs.lemmas.List.{at_drop_more}
use Rattle.dvs_base.specs.Checks.{and_then}
use Rattle.grid_fraction.proofs.Searches.{below_suc}
use Rattle.task_model.specs.declared.task.Task.{Task}
use Rattle.task_model.specs.Tasks.{task_at}
use Rattle.deadline_list.specs.declared.fault.DeadlineFault.{DeadlineFault}
use Rattle.deadline_list.specs.DeadlineFile.{deadline_from}
use Rattle.deadline_list.specs.DeadlineTicks.{ticks_checked}
use Rattle.deadline_list.proofs.ticks.check_ticks.Goals as goal

pub loop-i-preserved : goal.loop-i-preserved
loop-i-preserved c =
    let ticks : List ℕ = c.args.ticks.now in
    let tasks : List Task = c.args.tasks.now in
    let i : ℕ = c.loop-i.i in
    let n : ℕ = c.in_ok-deadline_from.field-0 in
    let own = c.in_ok-deadline_from.ensures in
    let period : c.task.result.period ≡ (task_at tasks i).period = ap (λ (t : Task). t.period) c.task.ensures.task in
    let below : i < length ticks = omega (arith, c.requires, c.loop-i-test.true, c.count-i-end.ensures.count) in
    let low : n ≤ (task_at tasks i).period = subst (λ (m : ℕ). n ≤ m) period own.within in
    let passes : deadline_from (i + 1) (task_at tasks i).period (slice_index ticks i) ≡ Ok n =
    subst (λ (m : ℕ). deadline_from (m + 1) (task_at tasks i).period (slice_index ticks i) ≡ Ok n) c.from.ensures
    (subst (λ (m : ℕ). deadline_from (c.from.result + 1) m (slice_index ticks i) ≡ Ok n) period (sym own.is)) in
    record {
      some = rw add-one (below_suc (λ k. 1 ≤ slice_index ticks k) i c.loop-i.invariant.some (subst (λ (m : ℕ). 1 ≤ m) own.same own.some));
      within = rw add-one (below_suc (λ k. slice_index ticks k ≤ (task_at tasks k).period) i c.loop-i.invariant.within
          (subst (λ (m : ℕ). m ≤ (task_at tasks i).period) own.same low));
      rest = c.loop-i.invariant.rest
          ∙ (at_drop_more (ticks_checked tasks i) ticks i 0 below
          ∙ ap (λ (r : Result ℕ DeadlineFault). and_then r (λ d. ticks_checked tasks (i + 1) (drop (i + 1) ticks))) passes);
    }
