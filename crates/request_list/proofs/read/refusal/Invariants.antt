use Rattle.std.proofs.Common.{◌≡◌, ◌+◌, length}
use Rattle.csv_text.specs.Rows.{IsDefault, records_left}
use Rattle.request_list.proofs.read.refusal.Given as goal

-- the rows counted so far and those that are left add up to all the rows
abbrev pub invariant-loop-count : goal.invariant-loop-count
invariant-loop-count l = record {
  default_reader : IsDefault l.reader;
  all : l.count + length (records_left l.reader) ≡ l.fn.count + length (records_left l.fn.reader);
}

abbrev pub decreases-loop-count : goal.decreases-loop-count
decreases-loop-count l = length (records_left l.reader)
