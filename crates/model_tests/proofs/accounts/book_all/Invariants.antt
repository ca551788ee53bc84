use Rattle.std.proofs.Common.{◌≡◌, length}
use Rattle.model_tests.proofs.accounts.book_all.Given as goal

-- the account has the tasks and entries that it had
abbrev pub invariant-loop-i : goal.invariant-loop-i
invariant-loop-i l = record {
  tasks : length l.account.by_task ≡ l.tasks;
  points : length l.account.by_point ≡ l.points;
}
