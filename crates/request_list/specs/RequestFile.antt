-- The meaning of a request file: the requests, or the first refusal.
use Rattle.std.specs.Prelude.{ℕ, ◌+◌, ◌==◌, ◌||◌, ◌++◌, nat_lt, List, [], ◌∷◌, length, codes, ok_or, Result, Ok, Err, if◌then◌else◌}
use Rattle.dvs_base.specs.Widths.{u64_end}
use Rattle.dvs_base.specs.Checks.{◌>>=◌}
use Rattle.dvs_base.specs.Text.{number_below}
use Rattle.dvs_base.specs.Parts.{two_of}
use Rattle.csv_text.specs.Rows.{text_rows}
use Rattle.request_list.specs.declared.limits.TheConstants.{MOST_REQUESTS, MOST_REQUEST_UNITS}
use Rattle.request_list.specs.declared.requests.Request.{Request}
use Rattle.request_list.specs.declared.fault.RequestColumn.TheVariants as column
use Rattle.request_list.specs.declared.fault.RequestFault.{RequestFault}
use Rattle.request_list.specs.declared.fault.RequestFault.TheVariants as fault

-- the units, checked against their limits
abbrev pub units_from : ℕ → ℕ → Result ℕ RequestFault
units_from row n = if n == 0 || nat_lt MOST_REQUEST_UNITS n then Err (fault.Range row) else Ok n

-- the arrival, checked against that of the row before
abbrev pub arrival_in_order : ℕ → ℕ → ℕ → Result ℕ RequestFault
arrival_in_order row earlier arrival = if nat_lt arrival earlier then Err (fault.Early row) else Ok arrival

-- the request of a row, if the row before it arrives at `earlier`
abbrev pub request_of_row : ℕ → ℕ → List (List ℕ) → Result Request RequestFault
request_of_row row earlier fields = do
  two ← ok_or (two_of fields) (fault.Fields row (length fields))
  number ← ok_or (number_below u64_end two.0) (fault.BadNumber row column.Arrival)
  amount ← ok_or (number_below u64_end two.1) (fault.BadNumber row column.Units)
  units ← units_from row amount
  arrival ← arrival_in_order row earlier number
  Ok (record { arrival = arrival; units = units })

-- the requests so far, the last of which arrives at `earlier`, with those of the rows from number `row` on
abbrev pub requests_from : ℕ → ℕ → List Request → List (List (List ℕ)) → Result (List Request) RequestFault
requests_from row earlier requests [] = Ok requests
requests_from row earlier requests (fields ∷ rest) = do
  r ← request_of_row row earlier fields
  requests_from (row + 1) r.arrival (requests ++ (r ∷ [])) rest

-- the fields of a request file's header
abbrev pub request_header : List (List ℕ)
request_header = codes "arrival" ∷ codes "units" ∷ []

-- the rows, checked against the most of them
abbrev pub few_rows : List (List (List ℕ)) → Result (List (List (List ℕ))) RequestFault
few_rows rows = if nat_lt MOST_REQUESTS (length rows) then Err (fault.TooMany (length rows)) else Ok rows

-- the refusal of a file of n rows in which a row is refused: their number is checked before each row
abbrev pub first_refusal : ℕ → RequestFault → RequestFault
first_refusal n why = if nat_lt MOST_REQUESTS n then fault.TooMany n else why

-- the requests of all rows, at most the limit
abbrev pub requests_of : List (List (List ℕ)) → Result (List Request) RequestFault
requests_of all = do
  rows ← few_rows all
  requests_from 1 0 [] rows

-- the rows of a file after its header, at most the limit
abbrev pub rows_in : List ℕ → Result (List (List (List ℕ))) RequestFault
rows_in bytes = do
  rows ← ok_or (text_rows request_header bytes) fault.Header
  few_rows rows

-- the meaning of a request file's bytes; rows count from 1
abbrev pub request_file : List ℕ → Result (List Request) RequestFault
request_file bytes = do
  rows ← rows_in bytes
  requests_from 1 0 [] rows
