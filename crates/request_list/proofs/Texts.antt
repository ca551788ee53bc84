-- A text that is read is one of the requests returned, row by row in order of arrival, and any text of requests is read.
use Rattle.std.proofs.Common.{◌≡◌, ℕ, ◌<◌, ◌≤◌, ◌+◌, List, [], ◌∷◌, ◌++◌, length, arith, ◌^◌, Bool, true, false, Ok, Err, refl, ap, ap₂, subst, ◌∙◌, if◌then◌else◌, zero, suc, map, Result, sym, append_assoc}
use Rattle.std.proofs.lemmas.List.{get_or_append_left, append-nil, length-map}
use Rattle.std.proofs.Math.ListN.{length-append}
use Rattle.std.proofs.Math.Seq.{get_or-append_seam}
use Rattle.std.specs.Prelude.{◌==◌, ◌||◌, nat_lt, ok_or, decimal, IfOk}
use Rattle.std.proofs.lemmas.Bool.Decides.{nat_tests}
use borrow.Author.Count.{below_more}
use Rattle.dvs_base.proofs.Checks.{step-ok, ok_or-ok, two-is}
use Rattle.dvs_base.specs.Text.{number_below}
use Rattle.dvs_base.proofs.Spelled.{number_below-decimal, number_below-found}
use Rattle.dvs_base.specs.Parts.{two_of}
use Rattle.csv.specs.Reading.{default_config, records, strip_bom}
use Rattle.csv_text.specs.Rows.{text_rows}
use Rattle.csv_text.proofs.Records.{rows_after-Some}
use Rattle.dvs_base.specs.Checks.{IsUnlessMemory}
use Rattle.request_list.specs.declared.limits.TheConstants.{MOST_REQUESTS, MOST_REQUEST_UNITS}
use Rattle.request_list.specs.declared.requests.Request.{Request}
use Rattle.request_list.specs.Requests.{IsRequest, AreRequests, request_at, no_request}
use Rattle.request_list.specs.RequestText.{row_fields, IsRequestText}
use Rattle.request_list.specs.RequestFile.{units_from, arrival_in_order, request_of_row, requests_from, request_header, few_rows, rows_in, request_file}
use Rattle.request_list.specs.declared.fault.RequestFault.{RequestFault}
use Rattle.request_list.specs.declared.fault.RequestColumn.TheVariants as column
use Rattle.request_list.specs.declared.fault.RequestFault.TheVariants as fault

-- a list of requests, none of which arrives after the tick `last`
pub record AreRequestsTo (requests : List Request) (last : ℕ) : Type 0 where
  pub are : AreRequests requests
  pub by_then : (m : ℕ) → m < length requests → (request_at requests m).arrival ≤ last

module _ (requests : List Request) (r : Request) where
  at-before : (m : ℕ) → m < length requests → request_at (requests ++ r ∷ []) m ≡ request_at requests m
  at-before m lt = get_or_append_left requests (r ∷ []) no_request m lt

  at-last : request_at (requests ++ r ∷ []) (length requests) ≡ r
  at-last = get_or-append_seam requests r [] no_request

  -- what holds of each request, and of one more, holds of each of the list with it
  each-more : (P : Request → Type 0) → ((m : ℕ) → m < length requests → P (request_at requests m)) → P r
      → (m : ℕ) → m < length requests + 1 → P (request_at (requests ++ r ∷ []) m)
  each-more P before last = below_more (λ m. P (request_at (requests ++ r ∷ []) m)) (length requests)
      (λ m lt. rw (at-before m lt) (before m lt))
      (rw at-last last)

  -- a list with one more request, which arrives at `last` or later, is a list of requests
  pub one-more : (last : ℕ) → AreRequestsTo requests last → IsRequest r → last ≤ r.arrival
      → length requests + 1 ≤ MOST_REQUESTS → AreRequestsTo (requests ++ r ∷ []) r.arrival
  one-more last to within later few =
      let long : length (requests ++ r ∷ []) ≡ length requests + 1 = length-append requests (r ∷ []) in
      let arrived = each-more (λ q. q.arrival ≤ r.arrival) (λ m lt. let h = to.by_then m lt in omega arith) (omega arith) in
      record {
        are = record {
          few = omega arith;
          each = λ m lt. each-more IsRequest to.are.each within m (omega arith);
          in_order = λ m n before lt.
              below_more (λ n. m < n → (request_at (requests ++ r ∷ []) m).arrival ≤ (request_at (requests ++ r ∷ []) n).arrival) (length requests)
              (λ n lt before. let k : m < length requests = omega arith in rw (at-before m k, at-before n lt) (to.are.in_order m n before lt))
              (λ before. rw (at-last) (arrived m (omega arith)))
              n (omega arith) before;
        };
        by_then = λ m lt. arrived m (omega arith);
      }

-- units that pass their check are unchanged, and within the limits
units-ok : (row n u : ℕ) → units_from row n ≡ Ok u → (n ≡ u) × (1 ≤ n) × (n ≤ MOST_REQUEST_UNITS)
units-ok row n u e = by (n == 0) (nat_lt MOST_REQUEST_UNITS n) refl refl e
  where
    by : (p q : Bool) → (n == 0) ≡ p → nat_lt MOST_REQUEST_UNITS n ≡ q → (if p || q then Err (fault.Range row) else Ok n) ≡ Ok u
        → (n ≡ u) × (1 ≤ n) × (n ≤ MOST_REQUEST_UNITS)
    by true q a b e = absurd cc
    by false true a b e = absurd cc
    by false false a b e = let same : n ≡ u = cc in (same, grind (arith, nat_tests), grind (arith, nat_tests))

order-ok : (row earlier n a : ℕ) → arrival_in_order row earlier n ≡ Ok a → (n ≡ a) × (earlier ≤ n)
order-ok row earlier n a e = by (nat_lt n earlier) refl e
  where
    by : (p : Bool) → nat_lt n earlier ≡ p → (if p then Err (fault.Early row) else Ok n) ≡ Ok a → (n ≡ a) × (earlier ≤ n)
    by true h e = absurd cc
    by false h e = let same : n ≡ a = cc in (same, grind (arith, nat_tests))

units-pass : (row n : ℕ) → 1 ≤ n → n ≤ MOST_REQUEST_UNITS → units_from row n ≡ Ok n
units-pass row n some low =
    let a : (n == 0) ≡ false = grind (arith, nat_tests) in
    let b : nat_lt MOST_REQUEST_UNITS n ≡ false = grind (arith, nat_tests) in
    rw (a, b) refl

order-passes : (row earlier n : ℕ) → earlier ≤ n → arrival_in_order row earlier n ≡ Ok n
order-passes row earlier n later = let a : nat_lt n earlier ≡ false = grind (arith, nat_tests) in rw a refl

-- a row that is read is that of the request, which is within the limits and in order
pub record IsRowOf (earlier : ℕ) (r : Request) (fields : List (List ℕ)) : Type 0 where
  pub fields_are : fields ≡ row_fields r
  pub later : earlier ≤ r.arrival
  pub arrival : r.arrival < 2 ^ 64
  pub within : IsRequest r

pub row-found : (row earlier : ℕ) (fields : List (List ℕ)) (r : Request) → request_of_row row earlier fields ≡ Ok r → IsRowOf earlier r fields
row-found row earlier fields r e =
    let a = step-ok (ok_or (two_of fields) (fault.Fields row (length fields))) _ r e in
    let b = step-ok (ok_or (number_below (2 ^ 64) a.0.0) (fault.BadNumber row column.Arrival)) _ r a.2 in
    let c = step-ok (ok_or (number_below (2 ^ 64) a.0.1) (fault.BadNumber row column.Units)) _ r b.2 in
    let d = step-ok (units_from row c.0) _ r c.2 in
    let f = step-ok (arrival_in_order row earlier b.0) _ r d.2 in
    let two = two-is fields a.0 (ok_or-ok (two_of fields) _ a.0 a.1) in
    let arrival = number_below-found (2 ^ 64) a.0.0 b.0 (omega arith) (ok_or-ok (number_below (2 ^ 64) a.0.0) _ b.0 b.1) in
    let units = number_below-found (2 ^ 64) a.0.1 c.0 (omega arith) (ok_or-ok (number_below (2 ^ 64) a.0.1) _ c.0 c.1) in
    let checked = units-ok row c.0 d.0 d.1 in
    let ordered = order-ok row earlier b.0 f.0 f.1 in
    let is : (record { arrival = f.0; units = d.0 }) ≡ r = cc in
    subst (λ q. IsRowOf earlier q fields) is (record {
      fields_are = two ∙ ap₂ (λ p q. p ∷ q ∷ []) (arrival.0 ∙ ap decimal ordered.0) (units.0 ∙ ap decimal checked.0);
      later = omega (arith, ordered.0, ordered.1);
      arrival = omega (arith, ordered.0, arrival.1);
      within = record { some = omega (arith, checked.0, checked.1); low = omega (arith, checked.0, checked.2) };
    })

pub row-read : (row earlier : ℕ) (r : Request) → earlier ≤ r.arrival → r.arrival < 2 ^ 64 → IsRequest r → request_of_row row earlier (row_fields r) ≡ Ok r
row-read row earlier r later fits within =
    let low = within.low in
    rw (
      number_below-decimal (2 ^ 64) r.arrival fits (omega arith),
      number_below-decimal (2 ^ 64) r.units (omega arith) (omega arith),
      units-pass row r.units within.some within.low,
      order-passes row earlier r.arrival later,
    ) refl

-- the requests are within the limits, and in order from the tick `earlier` on
abbrev IsFrom : ℕ → List Request → Type 0
IsFrom earlier [] = Unit {0}
IsFrom earlier (r ∷ rs) = (earlier ≤ r.arrival) × (r.arrival < 2 ^ 64) × IsRequest r × IsFrom r.arrival rs

-- the requests are those before and one for each row, in order from `earlier` on
record AreRowsOf (earlier : ℕ) (before requests : List Request) (rows : List (List (List ℕ))) : Type 0 where
  more : List Request
  all : requests ≡ before ++ more
  rows_are : rows ≡ map row_fields more
  from : IsFrom earlier more

rows-found : (rows : List (List (List ℕ))) (row earlier : ℕ) (before requests : List Request)
    → requests_from row earlier before rows ≡ Ok requests → AreRowsOf earlier before requests rows
rows-found [] row earlier before requests e =
    let same : before ≡ requests = cc in
    record { more = []; all = sym (append-nil before ∙ same); rows_are = refl; from = tt }
rows-found (fields ∷ rows) row earlier before requests e =
    let a = step-ok (request_of_row row earlier fields) (λ r. requests_from (row + 1) r.arrival (before ++ (r ∷ [])) rows) requests e in
    let first = row-found row earlier fields a.0 a.1 in
    let rest = rows-found rows (row + 1) a.0.arrival (before ++ (a.0 ∷ [])) requests a.2 in
    record {
      more = a.0 ∷ rest.more;
      all = rest.all ∙ append_assoc before (a.0 ∷ []) rest.more;
      rows_are = ap₂ (λ f fs. f ∷ fs) first.fields_are rest.rows_are;
      from = (first.later, first.arrival, first.within, rest.from);
    }

rows-read : (requests : List Request) (row earlier : ℕ) (before : List Request)
    → IsFrom earlier requests → requests_from row earlier before (map row_fields requests) ≡ Ok (before ++ requests)
rows-read [] row earlier before h = ap Ok (sym (append-nil before))
rows-read (r ∷ rs) row earlier before h =
    let more = rows-read rs (row + 1) r.arrival (before ++ (r ∷ [])) h.3 in
    rw (row-read row earlier r h.0 h.1 h.2) (more ∙ ap Ok (append_assoc before (r ∷ []) rs))

arrivals-fit : (requests : List Request) (earlier : ℕ) → IsFrom earlier requests → (m : ℕ) → m < length requests → (request_at requests m).arrival < 2 ^ 64
arrivals-fit [] earlier h m lt = absurd (omega arith)
arrivals-fit (r ∷ rs) earlier h zero lt = h.1
arrivals-fit (r ∷ rs) earlier h (suc m) lt = arrivals-fit rs r.arrival h.3 m (omega arith)

in-order-from : (requests : List Request) (earlier : ℕ)
    → ((m : ℕ) → m < length requests → earlier ≤ (request_at requests m).arrival)
    → ((m : ℕ) → m < length requests → IsRequest (request_at requests m))
    → ((m n : ℕ) → m < n → n < length requests → (request_at requests m).arrival ≤ (request_at requests n).arrival)
    → ((m : ℕ) → m < length requests → (request_at requests m).arrival < 2 ^ 64)
    → IsFrom earlier requests
in-order-from [] earlier later each ordered fits = tt
in-order-from (r ∷ rs) earlier later each ordered fits = (
  later 0 (omega arith),
  fits 0 (omega arith),
  each 0 (omega arith),
  in-order-from rs r.arrival
      (λ m lt. ordered 0 (suc m) (omega arith) (omega arith))
      (λ m lt. each (suc m) (omega arith))
      (λ m n before lt. ordered (suc m) (suc n) (omega arith) (omega arith))
      (λ m lt. fits (suc m) (omega arith)),
)

few_rows-ok : (all rows : List (List (List ℕ))) → few_rows all ≡ Ok rows → all ≡ rows
few_rows-ok all rows e = by (nat_lt MOST_REQUESTS (length all)) e
  where
    by : (p : Bool) → (if p then Err (fault.TooMany (length all)) else Ok all) ≡ Ok rows → all ≡ rows
    by true e = absurd cc
    by false e = cc

few-read : (rows : List (List (List ℕ))) → length rows ≤ MOST_REQUESTS → few_rows rows ≡ Ok rows
few-read rows few = let a : nat_lt MOST_REQUESTS (length rows) ≡ false = grind (arith, nat_tests) in rw a refl

-- a text that is read is one of the requests returned
found : (requests : List Request) (bytes : List ℕ) → AreRequests requests → request_file bytes ≡ Ok requests → IsRequestText requests bytes
found requests bytes are e =
    let a = step-ok (rows_in bytes) (requests_from 1 0 []) requests e in
    let b = step-ok (ok_or (text_rows request_header bytes) fault.Header) few_rows a.0 a.1 in
    let rows = rows_after-Some request_header (records default_config (strip_bom bytes)) b.0 (ok_or-ok (text_rows request_header bytes) fault.Header b.0 b.1) in
    let same = few_rows-ok b.0 a.0 b.2 in
    let read = rows-found a.0 1 0 [] requests a.2 in
    record {
      are = are;
      arrivals = arrivals-fit requests 0 (subst (IsFrom 0) (sym read.all) read.from);
      rows = rows ∙ ap (λ rs. request_header ∷ rs) (same ∙ read.rows_are ∙ ap (map row_fields) (sym read.all));
    }

-- if the answer is a list of requests, the bytes are a text of them
pub found-if : (result : Result (List Request) RequestFault) (bytes : List ℕ)
    → IsUnlessMemory fault.NoMemory (λ r. r) result (request_file bytes) → IfOk result AreRequests → IfOk result (λ rs. IsRequestText rs bytes)
found-if (Ok requests) bytes file are = found requests bytes are file
found-if (Err e) bytes file are = tt

-- a text of requests is read
pub text-read : (requests : List Request) (bytes : List ℕ) → IsRequestText requests bytes → request_file bytes ≡ Ok requests
text-read requests bytes text =
    let from : IsFrom 0 requests = in-order-from requests 0 (λ m lt. omega arith) text.are.each text.are.in_order text.arrivals in
    let few : length (map row_fields requests) ≤ MOST_REQUESTS = omega (arith, length-map requests row_fields, text.are.few) in
    rw (text.rows, few-read (map row_fields requests) few) (rows-read requests 1 0 [] from)

-- the answer to a text of requests is those requests, unless memory ran out
pub answered : {T : Type 0} (shown : T → List Request) (result : Result T RequestFault) (requests : List Request) (bytes : List ℕ)
    → IsUnlessMemory fault.NoMemory shown result (request_file bytes) → IsRequestText requests bytes
    → IsUnlessMemory fault.NoMemory shown result (Ok requests)
answered shown result requests bytes file text = subst (IsUnlessMemory fault.NoMemory shown result) (text-read requests bytes text) file
