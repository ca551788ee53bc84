-- Requests for work, in order of arrival.
use Rattle.std.specs.Prelude.{ℕ, ◌<◌, ◌≤◌, List, length, slice_index_or}
use Rattle.request_list.specs.declared.limits.TheConstants.{MOST_REQUESTS, MOST_REQUEST_UNITS}
use Rattle.request_list.specs.declared.requests.Request.{Request}

-- the request that a list gives for a number past its end
abbrev pub no_request : Request
no_request = record { arrival = 0; units = 0 }

-- a request of a list, by its number from 0 on
abbrev pub request_at : List Request → ℕ → Request
request_at requests m = slice_index_or requests m no_request

-- the limits of a request: its units
pub record IsRequest (r : Request) : Type 0 where
  pub some : 1 ≤ r.units
  pub low : r.units ≤ MOST_REQUEST_UNITS

-- a list of requests within the limits, in order of arrival
pub record AreRequests (requests : List Request) : Type 0 where
  pub few : length requests ≤ MOST_REQUESTS
  pub each : (m : ℕ) → m < length requests → IsRequest (request_at requests m)
  pub in_order : (m n : ℕ) → m < n → n < length requests → (request_at requests m).arrival ≤ (request_at requests n).arrival
