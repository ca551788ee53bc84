-- The lines of a refused request file.
use Rattle.std.specs.Prelude.{ℕ, List, [], ◌∷◌, codes}
use Rattle.dvs_base.specs.FaultLines.{too_many_text}
use Rattle.csv_text.specs.FaultLines.{row_text, fields_text, bad_number_text}
use Rattle.request_list.specs.declared.fault.RequestColumn.{RequestColumn}
use Rattle.request_list.specs.declared.fault.RequestColumn.TheVariants as column
use Rattle.request_list.specs.declared.fault.RequestFault.{RequestFault}
use Rattle.request_list.specs.declared.fault.RequestFault.TheVariants as fault
use Rattle.request_list.specs.declared.limits.TheConstants.{MOST_REQUESTS}

-- the word of a request file's column
abbrev pub request_column_word : RequestColumn → List ℕ
request_column_word column.Arrival = codes "arrival"
request_column_word column.Units = codes "units"

-- the line of a request file's refusal
abbrev pub request_fault_text : RequestFault → List ℕ
request_fault_text fault.Header = codes "requests: wrong header\n"
request_fault_text (fault.TooMany count) = too_many_text (codes "requests") count (codes "rows") MOST_REQUESTS
request_fault_text (fault.Fields row count) = fields_text (codes "requests") row count
request_fault_text (fault.BadNumber row at) = bad_number_text (codes "requests") row (request_column_word at)
request_fault_text (fault.Range row) = row_text (codes "requests") row (codes "units out of range\n" ∷ [])
request_fault_text (fault.Early row) = row_text (codes "requests") row (codes "too early\n" ∷ [])
request_fault_text fault.NoMemory = codes "no memory\n"
