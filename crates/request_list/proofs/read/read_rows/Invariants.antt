use Rattle.std.proofs.Common.{◌≡◌, ◌≤◌, ◌+◌, [], length}
use Rattle.csv_text.specs.Rows.{IsDefault, records_left}
use Rattle.request_list.specs.declared.limits.TheConstants.{MOST_REQUESTS}
use Rattle.request_list.specs.RequestFile.{requests_from}
use Rattle.request_list.proofs.Texts.{AreRequestsTo}
use Rattle.request_list.proofs.read.read_rows.Given as goal

-- the requests so far, with the records that are left, give what all the records give
abbrev pub invariant-loop-requests : goal.invariant-loop-requests
invariant-loop-requests l = record {
  default_reader : IsDefault l.reader;
  count : l.row ≡ length l.requests.items + 1;
  all : l.row + length (records_left l.reader) ≡ 1 + length (records_left l.fn.reader);
  few : length l.requests.items ≤ MOST_REQUESTS;
  limits : AreRequestsTo l.requests.items l.earlier;
  rest : requests_from 1 0 [] (records_left l.fn.reader)
      ≡ requests_from l.row l.earlier l.requests.items (records_left l.reader);
}

abbrev pub decreases-loop-requests : goal.decreases-loop-requests
decreases-loop-requests l = length (records_left l.reader)
