use Rattle.std.proofs.Common.{◌≡◌, [], drop, vec_len}
use Rattle.numbers.specs.Given.{given_tasks_from}
use Rattle.numbers.specs.Kept.{AreGiven}
use Rattle.numbers.proofs.tasks.read_tasks.Given as goal

-- the tasks so far, followed by the numbers that are left, give what all the numbers give
abbrev pub invariant-loop-one : goal.invariant-loop-one
invariant-loop-one l = record {
  count : vec_len l.tasks ≡ l.one-index;
  limits : AreGiven l.tasks.items;
  rest : given_tasks_from [] l.given ≡ given_tasks_from l.tasks.items (drop l.one-index l.given);
}
