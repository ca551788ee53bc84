use Rattle.std.proofs.Common.{length, ap, ◌∙◌}
use Rattle.energy.specs.Books.{Books}
use Rattle.energy.proofs.Books.{booked-tasks, booked-points}
use Rattle.model_tests.proofs.accounts.book_all.Goals as goal

pub loop-i-preserved : goal.loop-i-preserved
loop-i-preserved c = record {
  tasks = ap (λ (b : Books). length b.by_task) c.add.ensures.booked ∙ (booked-tasks c.loop-i.account _ _ ∙ c.loop-i.invariant.tasks);
  points = ap (λ (b : Books). length b.by_point) c.add.ensures.booked ∙ (booked-points c.loop-i.account _ _ ∙ c.loop-i.invariant.points);
}
