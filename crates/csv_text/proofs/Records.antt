-- Reading one record takes the first of the records that are left, whose fields are compared with those of a header.
use Rattle.std.proofs.lemmas.Bool.Decides.{nat_tests}
use Rattle.std.proofs.Common.{◌≡◌, ◌≢◌, ◌<◌, ℕ, zero, suc, ◌+◌, List, [], ◌∷◌, length, map, drop, Bool, true, false, not, ◌&&◌, Some, None, refl, sym, ◌∙◌, ap, ap₂, arith, if◌then◌else◌, Bor, add-one, ◌⊎◌, inl, inr, ◌≤◌, ◌++◌, Option}
use Rattle.std.specs.Prelude.{slice_index_or, IsSome}
use Rattle.std.specs.Str.{bytes_eq}
use Rattle.std.proofs.lemmas.Bool.{and_parts}
use Rattle.std.proofs.lemmas.List.{length-map}
use Rattle.std.proofs.lemmas.Slice.Eq.{bytes_eq-Decides}
use Rattle.csv.specs.Records.{field_at}
use Rattle.csv.specs.Machine.{next_record, step, is_end, fields_after, field_after, ends_at_end, Read}
use Rattle.csv.specs.Reading.{Reached, records, records_from, records_next, strip_bom, default_config, ReadRecord}
use Rattle.csv.specs.declared.parser.Config.{Config}
use Rattle.csv.specs.declared.parser.State.{State}
use Rattle.csv.proofs.ReadFacts.{rows-end, rows-more}
use Rattle.csv_text.specs.Rows.{has_fields, rows_after, TextReader, IsDefault, records_left, records_in, unread}
use Rattle.csv.specs.declared.parser.State.TheVariants as st

-- a record that has exactly these fields is the list of them
has_fields-true : (names fields : List (List ℕ)) → has_fields names fields ≡ true → fields ≡ names
has_fields-true [] [] h = refl
has_fields-true [] (f ∷ fields) h = absurd cc
has_fields-true (n ∷ names) [] h = absurd cc
has_fields-true (n ∷ names) (f ∷ fields) h =
    let parts = and_parts (bytes_eq f n) (has_fields names fields) h in
    ap₂ (λ x xs. x ∷ xs) ((bytes_eq-Decides f n).0 parts.0) (has_fields-true names fields parts.1)

-- rows that are found are the records after the header
pub rows_after-Some : (header : List (List ℕ)) (all rows : List (List (List ℕ))) → rows_after header all ≡ Some rows
    → all ≡ header ∷ rows
rows_after-Some header [] rows e = absurd cc
rows_after-Some header (first ∷ rest) rows e = by (has_fields header first) refl e
  where
    by : (b : Bool) → has_fields header first ≡ b → (if b then Some rest else None) ≡ Some rows → first ∷ rest ≡ header ∷ rows
    by true h e = let same : rest ≡ rows = cc in ap₂ (λ f fs. f ∷ fs) (has_fields-true header first h) same
    by false h e = absurd cc

abbrev texts : List (Bor (List ℕ)) → List (List ℕ)
texts names = map (λ n. n.now) names

-- a record of another number of fields is not the header
pub has_fields-other : (names : List (Bor (List ℕ))) (fields : List (List ℕ)) → length fields ≢ length names
    → false ≡ has_fields (texts names) fields
has_fields-other names fields other = by (has_fields (texts names) fields) refl
  where
    by : (b : Bool) → has_fields (texts names) fields ≡ b → false ≡ b
    by true e = absurd (other (ap length (has_fields-true (texts names) fields e) ∙ length-map names (λ n. n.now)))
    by false e = refl

abbrev from : ℕ → List (Bor (List ℕ)) → List (List ℕ) → Bool
from k names fields = has_fields (drop k (texts names)) (drop k fields)

one-field : (names : List (Bor (List ℕ))) (d : Bor (List ℕ)) (fields : List (List ℕ)) (k : ℕ) (f : List ℕ)
    → k < length names → field_at fields k ≡ Some f
    → from k names fields ≡ (bytes_eq f (slice_index_or names k d).now && from (suc k) names fields)
unfolding field_at
one-field [] d fields k f h e = absurd (omega arith)
one-field (n ∷ names) d [] k f h e = absurd cc
one-field (n ∷ names) d (x ∷ fields) zero f h e =
    let same : x ≡ f = cc in ap (λ y. bytes_eq y n.now && has_fields (texts names) fields) same
one-field (n ∷ names) d (x ∷ fields) (suc k) f h e = one-field names d fields k f (omega arith) e

module _ (names : List (Bor (List ℕ))) (d : Bor (List ℕ)) (fields : List (List ℕ)) (k : ℕ) (f name : List ℕ)
    (inside : k < length names) (field_is : field_at fields k ≡ Some f) (name_is : name ≡ (slice_index_or names k d).now)
    (so_far : has_fields (texts names) fields ≡ from k names fields) where
  by-field : has_fields (texts names) fields ≡ (bytes_eq f name && from (suc k) names fields)
  by-field = so_far ∙ one-field names d fields k f inside field_is ∙ ap (λ n. bytes_eq f n && from (suc k) names fields) (sym name_is)

  -- if a field differs from the header's, the record is not the header
  pub field-differs : true ≡ not (bytes_eq f name) → false ≡ has_fields (texts names) fields
  field-differs e = grind (arith, nat_tests, by-field)

  -- if a field is the header's, the record is the header if the fields after it are
  pub field-same : false ≡ not (bytes_eq f name) → has_fields (texts names) fields ≡ from (k + 1) names fields
  field-same e = grind (arith, nat_tests, by-field)

-- reading a record takes a byte, or ends the text
abbrev Shrinks : List ℕ → Option Read → Type 0
Shrinks xs None = Unit {0}
Shrinks xs (Some p) = (length p.2 < length xs) ⊎ ((p.1 ≡ st.StartRecord) × (p.2 ≡ []))

at_end : (b : Bool) (f : List (List ℕ)) (xs : List ℕ) → Shrinks xs (if b then Some (f, st.StartRecord, []) else None)
at_end true f xs = inr (refl, refl)
at_end false f xs = tt

further : (c : ℕ) (rest : List ℕ) (o : Option Read) → Shrinks rest o → Shrinks (c ∷ rest) o
further c rest o h = grind (arith, nat_tests)

by_end : (b : Bool) (c : ℕ) (rest : List ℕ) (f : List (List ℕ)) (s : State) (o : Option Read) → Shrinks rest o
    → Shrinks (c ∷ rest) (if b then Some (f, s, rest) else o)
by_end true c rest f s o h = inl (omega arith)
by_end false c rest f s o h = further c rest o h

next_record-shrinks : (cfg : Config) (s : State) (fields : List (List ℕ)) (field xs : List ℕ)
    → Shrinks xs (next_record cfg s fields field xs)
unfolding next_record
next_record-shrinks cfg s fields field [] = at_end (ends_at_end s) (fields ++ (field ∷ [])) []
next_record-shrinks cfg s fields field (c ∷ rest) =
    let stepped = step cfg s c in
    by_end (is_end stepped.1) c rest _ _ _
    (next_record-shrinks cfg stepped.0 (fields_after stepped.1 fields field) (field_after stepped.1 c field) rest)

nothing : (cfg : Config) → next_record cfg st.StartRecord [] [] [] ≡ None
unfolding next_record
nothing cfg = refl

none_left : (cfg : Config) (n : ℕ) → records_from cfg n st.StartRecord [] ≡ []
unfolding records_from
none_left cfg zero = refl
none_left cfg (suc n) = rw (nothing cfg) refl

-- two bounds above the length of the text give equal records, if they do after the first record
more : (cfg : Config) (xs : List ℕ) (n m : ℕ) (p : Read) → Shrinks xs (Some p) → length xs < suc n → length xs < suc m
    → (length p.2 < n → length p.2 < m → records_from cfg n p.1 p.2 ≡ records_from cfg m p.1 p.2)
    → records_from cfg n p.1 p.2 ≡ records_from cfg m p.1 p.2
more cfg xs n m p (inl less) h k same = same (omega arith) (omega arith)
more cfg xs n m p (inr last) h k same = rw (last.0, last.1) (none_left cfg n ∙ sym (none_left cfg m))

next_same : (cfg : Config) (xs : List ℕ) (n m : ℕ) (o : Option Read) → Shrinks xs o → length xs < suc n
    → length xs < suc m
    → ((p : Read) → length p.2 < n → length p.2 < m → records_from cfg n p.1 p.2 ≡ records_from cfg m p.1 p.2)
    → records_next (records_from cfg n) o ≡ records_next (records_from cfg m) o
next_same cfg xs n m None s h k same = refl
next_same cfg xs n m (Some p) s h k same = ap (λ t. p.0 ∷ t) (more cfg xs n m p s h k (same p))

-- any bound above the length of the text gives all its records
records_from-bound : (cfg : Config) (n m : ℕ) (s : State) (xs : List ℕ) → length xs < n → length xs < m
    → records_from cfg n s xs ≡ records_from cfg m s xs
unfolding records_from
records_from-bound cfg zero m s xs h k = absurd (omega arith)
records_from-bound cfg (suc n) zero s xs h k = absurd (omega arith)
records_from-bound cfg (suc n) (suc m) s xs h k =
    next_same cfg xs n m (next_record cfg s [] [] xs) (next_record-shrinks cfg s [] [] xs) h k
    (λ p. records_from-bound cfg n m p.1 p.2)

-- if a record is read, the records of the text are it and those of the rest
records_in-Some : (s : State) (xs : List ℕ) (p : Read) → next_record default_config s [] [] xs ≡ Some p
    → records_in s (Some xs) ≡ p.0 ∷ records_in p.1 (Some p.2)
unfolding records_from
records_in-Some s xs p e = grind (arith, nat_tests, next_record-shrinks, records_from-bound, none_left)

records_in-None : (s : State) (xs : List ℕ) → next_record default_config s [] [] xs ≡ None → records_in s (Some xs) ≡ []
unfolding records_from
records_in-None s xs e = rw (add-one (length xs), e) refl

one_reached : (s s2 : State) (xs z : List ℕ) (f : List (List ℕ)) → Reached default_config s xs (f ∷ []) s2 z
    → records_in s (Some xs) ≡ f ∷ records_in s2 (Some z)
unfolding Reached
one_reached s s2 xs z f h = records_in-Some s xs h.0 h.1 ∙ rw (h.2, h.3.0, h.3.1) refl

reader_took : (a b : TextReader) (f : List (List ℕ)) (known : Option (List ℕ)) → a.config ≡ default_config
    → unread a ≡ known → IsSome known → ReadRecord (λ s. Some s.now) a b true f
    → IsSome (unread b) × (records_in a.state known ≡ f ∷ records_in b.state (unread b))
unfolding Reached
reader_took a b f None config e h r = absurd (cc)
reader_took a b f (Some y) config e h r =
    let m = rows-more (λ (s : Bor (List ℕ)). Some s.now) a b f default_config a.state y y [] config e (refl, refl) r in
    rw m.1 (refl, one_reached a.state b.state y m.0 f m.2)

reader_ended : (a b : TextReader) (f : List (List ℕ)) (known : Option (List ℕ)) → a.config ≡ default_config
    → unread a ≡ known → IsSome known → ReadRecord (λ s. Some s.now) a b false f → records_in a.state known ≡ []
reader_ended a b f known config e h r = grind (arith, nat_tests, records_in-None, rows-end)

-- a record that is read is the first of those that were left
pub left-read : (a b : TextReader) (f : List (List ℕ)) → IsDefault a → ReadRecord (λ s. Some s.now) a b true f
    → records_left a ≡ f ∷ records_left b
left-read a b f h r = (reader_took a b f (unread a) h.config refl h.known r).1

-- if no record is read, none was left
pub left-ended : (a b : TextReader) (f : List (List ℕ)) → IsDefault a → ReadRecord (λ s. Some s.now) a b false f
    → records_left a ≡ []
left-ended a b f h r = reader_ended a b f (unread a) h.config refl h.known r

-- if at most n records come after the first, a text has at most n + 1
next_few : (n : ℕ) (cfg : Config) (o : Option Read) → ((p : Read) → length (records_from cfg n p.1 p.2) ≤ n)
    → length (records_next (records_from cfg n) o) ≤ suc n
next_few n cfg None few = omega arith
next_few n cfg (Some p) few = let h = few p in omega arith

records_from-few : (cfg : Config) (n : ℕ) (s : State) (xs : List ℕ) → length (records_from cfg n s xs) ≤ n
unfolding records_from
records_from-few cfg zero s xs = omega arith
records_from-few cfg (suc n) s xs = next_few n cfg (next_record cfg s [] [] xs) (λ p. records_from-few cfg n p.1 p.2)

strip_bom-shorter : (xs : List ℕ) → length (strip_bom xs) ≤ length xs
unfolding strip_bom
strip_bom-shorter xs = grind (arith, nat_tests)

pub records-few : (text : List ℕ) → length (records default_config (strip_bom text)) ≤ length text + 1
records-few text =
    let few = records_from-few default_config (length (strip_bom text) + 1) st.StartRecord (strip_bom text) in
    let shorter = strip_bom-shorter text in
    omega arith
