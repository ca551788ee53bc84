use Rattle.std.proofs.Common.{◌≡◌, length}
use Rattle.csv_text.specs.Rows.{records_left}
use Rattle.deadline_list.specs.DeadlineFile.{given_from, IsAtRow, AreGiven}
use Rattle.deadline_list.proofs.read.read_rows.Given as goal

-- what the rows so far give, with the records that are left, gives what all records give
abbrev pub invariant-loop-given : goal.invariant-loop-given
invariant-loop-given l = record {
  next : IsAtRow l.row l.reader;
  given : AreGiven l.tasks l.given.items;
  rest : given_from l.tasks 1 l.fn.given.items (records_left l.fn.reader)
      ≡ given_from l.tasks l.row l.given.items (records_left l.reader);
}

abbrev pub decreases-loop-given : goal.decreases-loop-given
decreases-loop-given l = length (records_left l.reader)
