-- A line of a text, and the line of an item.
use Rattle.std.proofs.Common.{◌≡◌, ℕ, zero, suc, ◌+◌, ◌<◌, ◌≤◌, Bool, true, false, List, [], ◌∷◌, ◌++◌, length, Ok, Err, refl, sym, ap, subst, ◌∙◌, append_assoc, length-append, arith, if◌then◌else◌}
use Rattle.std.specs.Prelude.{nat_lt, codes}
use Rattle.std.specs.List.{AllByRecursion, join_with_byte}
use Rattle.std.proofs.lemmas.Bool.Decides.{nat_tests}
use Rattle.std.proofs.lemmas.List.Splits.{join_with_byte-slice_split}
use Rattle.dvs_base.specs.Text.{is_name}
use Rattle.trace_text.specs.TraceLines.{line}
use Rattle.trace_text.proofs.Unspaced.{AreUnspaced, unspaced-decimal, unspaced-name}
use Rattle.trace_text.proofs.NoteLines.{unspaced-word, unspaced-fields}
use Rattle.dvs_base.specs.Parts.{name_of}
use Rattle.dvs_base.proofs.Decimals.{length-decimal_u64, length-decimal_u128, length-position_text, length-fraction_text}
use Rattle.dvs_base.specs.declared.note.Note.TheVariants.{Release, Speed, Run, Idle, Done, End}
use Rattle.dvs_base.specs.declared.kind.Version.{Version}
use Rattle.dvs_base.specs.declared.limits.TheConstants.{MOST_LINES, LONGEST_LINE, NAME_BYTES}
use Rattle.dvs_base.proofs.Names.{length-name}
use Rattle.trace_reader.specs.declared.line.Item.{Item}
use Rattle.trace_reader.specs.declared.line.Item.TheVariants.{Told, Share}
use Rattle.trace_reader.specs.declared.trace.TraceFault.TheVariants.{Refused}
use Rattle.trace_reader.specs.declared.trace.TraceKind.TheVariants as kind
use Rattle.trace_reader.specs.Fields.{parts}
use Rattle.trace_reader.specs.Heads.{line_at}
use Rattle.trace_reader.specs.Items.{item_of}
use Rattle.trace_reader.proofs.FirstCut.{HasPart, some-part}
use Rattle.trace_text.proofs.Lined.{spaced, line-spaced}
use Rattle.trace_reader.proofs.UnspacedFields.{Lacks, lacks-unspaced, lacks-spaced, parts-first, parts-joined}
use Rattle.trace_reader.proofs.ItemTexts.{item_fields, IsItemOf, item_of-found}

-- each of the texts has the form of a name
abbrev pub AreNames : List (List ℕ) → Type 0
AreNames = AllByRecursion (λ name. is_name name ≡ true)

pub names-each : (names : List (List ℕ)) → ((i : ℕ) → i < length names → is_name (name_of names i) ≡ true) → AreNames names
names-each [] h = tt
names-each (name ∷ names) h = (h 0 (omega arith), names-each names (λ i lt. h (suc i) (omega arith)))

-- line n that was read, and the parts after it
pub record IsLineOf (n : ℕ) (ps : List (List ℕ)) (text : List ℕ) (rest : List (List ℕ)) : Type 0 where
  pub all : ps ≡ text ∷ rest
  pub more : HasPart rest
  pub few : n ≤ MOST_LINES
  pub short : length text ≤ LONGEST_LINE

line-found : (n : ℕ) (text next : List ℕ) (rest : List (List ℕ)) (p : List ℕ × List (List ℕ)) (many long : Bool)
    → nat_lt MOST_LINES n ≡ many → nat_lt LONGEST_LINE (length text) ≡ long
    → (if many then Err (Refused n kind.TooMany) else (if long then Err (Refused n kind.TooLong) else Ok (text, next ∷ rest))) ≡ Ok p
    → IsLineOf n (text ∷ next ∷ rest) p.0 p.1
line-found n text next rest p false false a b e = grind (arith, nat_tests)
line-found n text next rest p _ _ a b e = absurd cc

pub line_at-found : (n : ℕ) (ps : List (List ℕ)) (p : List ℕ × List (List ℕ)) → line_at n ps ≡ Ok p → IsLineOf n ps p.0 p.1
line_at-found n (text ∷ next ∷ rest) p e = line-found n text next rest p (nat_lt MOST_LINES n) (nat_lt LONGEST_LINE (length text)) refl refl e
line_at-found n _ p e = absurd cc

-- the text that begins with a line is the line, its line feed and the text after it
pub join-line : (text : List ℕ) (rest : List (List ℕ)) → HasPart rest → join_with_byte 10 (text ∷ rest) ≡ text ++ 10 ∷ join_with_byte 10 rest
join-line text rest p =
    subst (λ ps. join_with_byte 10 (text ∷ ps) ≡ text ++ 10 ∷ join_with_byte 10 ps) (sym p.all) refl

pub line_at-text : (n : ℕ) (text more : List ℕ) → Lacks 10 text → n ≤ MOST_LINES → length text ≤ LONGEST_LINE
    → line_at n (parts 10 (text ++ 10 ∷ more)) ≡ Ok (text, parts 10 more)
line_at-text n text more unspaced few short =
    let p = some-part 10 more in
    let in_time : nat_lt MOST_LINES n ≡ false = grind (arith, nat_tests) in
    let fits : nat_lt LONGEST_LINE (length text) ≡ false = grind (arith, nat_tests) in
    ap (line_at n) (parts-first 10 text more unspaced)
    ∙ subst (λ ps. line_at n (text ∷ ps) ≡ Ok (text, ps)) (sym p.all) (rw (in_time, fits) refl)

-- the line of an item
abbrev pub item_text : List (List ℕ) → Item → List ℕ
item_text names item = line (item_fields names item)

pub join-spaced : (text : List ℕ) → spaced (parts 32 text) ≡ text
join-spaced text = join_with_byte-slice_split 32 text

-- a line that is read as an item is that item's line
pub item-found : (v : Version) (names : List (List ℕ)) (text : List ℕ) (item : Item) → item_of v names (parts 32 text) ≡ Ok item
    → (text ++ 10 ∷ [] ≡ item_text names item) × IsItemOf v (length names) item
item-found v names text item e =
    let found = item_of-found v names (parts 32 text) item e in
    (ap (λ t. t ++ 10 ∷ []) (sym (join-spaced text) ∙ ap spaced found.0) ∙ sym (line-spaced (item_fields names item)), found.1)

name-of : (P : List ℕ → Type 0) → P [] → ((name : List ℕ) → is_name name ≡ true → P name) → (names : List (List ℕ)) (i : ℕ)
    → AreNames names → P (name_of names i)
name-of P none each [] i h = none
name-of P none each (name ∷ names) zero h = each name h.0
name-of P none each (name ∷ names) (suc i) h = name-of P none each names i h.1

-- the fields of an item's line are unspaced
pub unspaced-item : (names : List (List ℕ)) → AreNames names → (item : Item) → AllByRecursion AreUnspaced (item_fields names item)
unspaced-item names named (Told n) = unspaced-fields names (λ i. name-of AreUnspaced tt unspaced-name names i named) n
unspaced-item names named (Share i energy) =
    (unspaced-word (codes "energy") refl, (name-of AreUnspaced tt unspaced-name names i named, (unspaced-decimal energy, tt)))

-- how many bytes the fields have, with one byte after each
abbrev pub lengths : List (List ℕ) → ℕ
lengths [] = 0
lengths (field ∷ fields) = length field + 1 + lengths fields

pub length-spaced : (fields : List (List ℕ)) → length (spaced fields) ≤ lengths fields
length-spaced [] = omega arith
length-spaced (field ∷ []) = omega arith
length-spaced (field ∷ other ∷ fields) = omega (arith, length-append field (32 ∷ spaced (other ∷ fields)), length-spaced (other ∷ fields))

pub length-name_of : (names : List (List ℕ)) (i : ℕ) → AreNames names → length (name_of names i) ≤ NAME_BYTES
length-name_of names i named = name-of (λ name. length name ≤ NAME_BYTES) (omega arith) length-name names i named

-- an item's line, without its line feed, is no longer than a line may be
pub lengths-item : (v : Version) (c : ℕ) (names : List (List ℕ)) (item : Item) → AreNames names → IsItemOf v c item
    → lengths (item_fields names item) ≤ LONGEST_LINE
lengths-item v c names (Told (Release t i k)) named h = omega (arith, length-decimal_u64 t h.0, length-name_of names i named, length-decimal_u64 k h.2)
lengths-item v c names (Told (Speed t f num den)) named h =
    omega (arith, length-decimal_u64 t h.0, length-decimal_u64 f h.1, length-fraction_text num den h.2 h.3)
lengths-item v c names (Told (Run from to i k units energy)) named h =
    grind (arith, nat_tests, length-decimal_u128, length-decimal_u64, length-name_of, length-position_text)
lengths-item v c names (Told (Idle from to units energy)) named h =
    omega (arith, length-position_text from h.0.0 h.0.1, length-position_text to h.1.0 h.1.1, length-decimal_u64 units h.2, length-decimal_u128 energy h.3)
lengths-item v c names (Told (Done q i k used)) named h =
    omega (arith, length-position_text q h.0.0 h.0.1, length-name_of names i named, length-decimal_u64 k h.2, length-decimal_u64 used h.3)
lengths-item v c names (Told (End t run idle)) named h = omega (arith, length-decimal_u64 t h.0, length-decimal_u128 run h.1, length-decimal_u128 idle h.2)
lengths-item v c names (Share i energy) named h = omega (arith, length-name_of names i named, length-decimal_u128 energy h.2)

-- a line of unspaced fields ends the first part of a text
pub cut-line : (fields : List (List ℕ)) (more : List ℕ) → AllByRecursion AreUnspaced fields → parts 10 (line fields ++ more) ≡ spaced fields ∷ parts 10 more
cut-line fields more unspaced = grind (arith, nat_tests, append_assoc, lacks-spaced, lacks-unspaced, line-spaced, parts-first)

-- a line of unspaced fields that is not too long is read
pub read-line : (n : ℕ) (fields : List (List ℕ)) (more : List ℕ) → AllByRecursion AreUnspaced fields → n ≤ MOST_LINES → lengths fields ≤ LONGEST_LINE
    → line_at n (parts 10 (line fields ++ more)) ≡ Ok (spaced fields, parts 10 more)
read-line n fields more unspaced few short = grind (arith, nat_tests, append_assoc, lacks-spaced, lacks-unspaced, length-spaced, line-spaced, line_at-text)

-- fields that are read as an item are the parts of their line
pub parts-fields : (v : Version) (names fields : List (List ℕ)) (item : Item) → item_of v names fields ≡ Ok item → AllByRecursion AreUnspaced fields
    → parts 32 (spaced fields) ≡ fields
unfolding item_of
parts-fields v names [] item read h = absurd cc
parts-fields v names (field ∷ fields) item read h = parts-joined 32 field fields (lacks-unspaced (field ∷ fields) h).0
