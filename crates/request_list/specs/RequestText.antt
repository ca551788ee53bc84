-- The text of a list of requests.
use Rattle.std.specs.Prelude.{◌≡◌, ℕ, ◌<◌, List, [], ◌∷◌, length, map}
use Rattle.std.specs.Fmt.{decimal}
use Rattle.dvs_base.specs.Widths.{u64_end}
use Rattle.csv.specs.Reading.{default_config, records, strip_bom}
use Rattle.request_list.specs.declared.requests.Request.{Request}
use Rattle.request_list.specs.Requests.{AreRequests, request_at}
use Rattle.request_list.specs.RequestFile.{request_header}

-- the fields of a request's row, in decimal digits
abbrev pub row_fields : Request → List (List ℕ)
row_fields r = decimal r.arrival ∷ decimal r.units ∷ []

-- a text of these requests: its records are the header, and then a row for each request
pub record IsRequestText (requests : List Request) (bytes : List ℕ) : Type 0 where
  pub are : AreRequests requests
  pub arrivals : (m : ℕ) → m < length requests → (request_at requests m).arrival < u64_end
  pub rows : records default_config (strip_bom bytes) ≡ request_header ∷ map row_fields requests
