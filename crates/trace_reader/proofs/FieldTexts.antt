-- A field that is read is the text of its value, and the text of any value is read.
use Rattle.std.proofs.Common.{◌≡◌, ◌≢◌, ℕ, ◌+◌, ◌^◌, ◌<◌, Bool, true, false, List, [], ◌∷◌, ◌++◌, length, Some, Result, Ok, Err, refl, sym, ap, ap₂, subst, ◌∙◌, append_assoc, arith, if◌then◌else◌}
use Rattle.std.specs.Prelude.{nat_lt, decimal, codes}
use Rattle.std.specs.List.{AllPairs, join_with_byte, position_or_len}
use Rattle.std.specs.Option.{ok_or}
use Rattle.std.specs.Str.{bytes_eq}
use Rattle.std.proofs.lemmas.Bool.{false_from_ne_true}
use Rattle.std.proofs.lemmas.Bool.Decides.{nat_tests}
use Rattle.std.proofs.lemmas.List.Quantifiers.{position-Some}
use Rattle.std.proofs.lemmas.List.Sums.{position_or_len_is}
use Rattle.std.proofs.lemmas.List.Splits.{join_with_byte-slice_split}
use Rattle.std.proofs.lemmas.Slice.Eq.{bytes_eq-Decides}
use Rattle.dvs_base.specs.Text.{number_below}
use Rattle.dvs_base.specs.Parts.{position_text, fraction_text, name_of, two_of}
use Rattle.dvs_base.specs.declared.note.Pos.{Pos}
use Rattle.dvs_base.proofs.Spelled.{number_below-decimal, number_below-found}
use Rattle.dvs_base.specs.Checks.{◌>>=◌}
use Rattle.dvs_base.proofs.Checks.{step-ok, ok-is, ok_or-ok, two-is}
use Rattle.trace_reader.specs.declared.trace.TraceKind.{TraceKind}
use Rattle.trace_reader.specs.declared.trace.TraceKind.TheVariants as kind
use Rattle.trace_reader.specs.Fields.{parts, whole_in, wide_in, position_in, fraction_in, task_in}
use Rattle.trace_reader.specs.Traces.{IsPlace}
use Rattle.trace_reader.proofs.UnspacedFields.{lacks-decimal, parts-first, parts-alone}

-- if a choice between a result and an error gives a value, the result did
pub if-ok : {A F : Type 0} (b : Bool) (r : Result A F) (k : F) (x : A) → (if b then r else Err k) ≡ Ok x → (b ≡ true) × (r ≡ Ok x)
if-ok true r k x e = (refl, e)
if-ok false r k x e = absurd cc

-- the same if the result is a value
pub if-made : {A F : Type 0} (b : Bool) (x y : A) (k : F) → (if b then Ok x else Err k) ≡ Ok y → (b ≡ true) × (x ≡ y)
if-made {F = F} b x y k e = let r = if-ok b (Ok x) k y e in (r.0, ok-is {F = F} x y r.1)

-- if a sequence of two steps gives a value, and the first of them gives only values with a property, it gave one
pub read-step : {A B F : Type 0} {P : A → Type 0} {r : Result A F} {f : A → Result B F} {y : B} → ((x : A) → r ≡ Ok x → P x) → (r >>= f) ≡ Ok y
    → (x : A) × P x × (f x ≡ Ok y)
read-step {r = r} {f = f} {y = y} found e = let s = step-ok r f y e in (s.0, found s.0 s.1, s.2)

pub whole_in-text : (n : ℕ) → n < 2 ^ 64 → whole_in (decimal n) ≡ Ok n
whole_in-text n fits = ap (λ o. ok_or o kind.Number) (number_below-decimal (2 ^ 64) n fits (omega arith))

pub whole_in-found : (field : List ℕ) (n : ℕ) → whole_in field ≡ Ok n → (field ≡ decimal n) × (n < 2 ^ 64)
whole_in-found field n e = number_below-found (2 ^ 64) field n (omega arith) (ok_or-ok (number_below (2 ^ 64) field) kind.Number n e)

pub wide_in-text : (n : ℕ) → n < 2 ^ 128 → wide_in (decimal n) ≡ Ok n
wide_in-text n fits = ap (λ o. ok_or o kind.Number) (number_below-decimal (2 ^ 128) n fits (omega arith))

pub wide_in-found : (field : List ℕ) (n : ℕ) → wide_in field ≡ Ok n → (field ≡ decimal n) × (n < 2 ^ 128)
wide_in-found field n e = number_below-found (2 ^ 128) field n (omega arith) (ok_or-ok (number_below (2 ^ 128) field) kind.Number n e)

-- a field that has two parts is both with the byte between them
two-joined : (byte : ℕ) (field a b : List ℕ) → two_of (parts byte field) ≡ Some (a, b) → field ≡ a ++ byte ∷ b
two-joined byte field a b e = sym (join_with_byte-slice_split byte field) ∙ ap (join_with_byte byte) (two-is (parts byte field) (a, b) e)

-- two numbers with the byte between them are two parts
two-text : (byte : ℕ) → ((d : ℕ) → d < 10 → 48 + d ≢ byte) → (m n : ℕ) → two_of (parts byte (decimal m ++ byte ∷ decimal n)) ≡ Some (decimal m, decimal n)
two-text byte free m n =
    ap two_of (parts-first byte (decimal m) (decimal n) (lacks-decimal byte free m)
    ∙ ap (λ ps. decimal m ∷ ps) (parts-alone byte (decimal n) (lacks-decimal byte free n)))

colon : (m n : ℕ) → two_of (parts 58 (decimal m ++ 58 ∷ decimal n)) ≡ Some (decimal m, decimal n)
colon = two-text 58 (λ d small e. omega (arith, e))

slash : (m n : ℕ) → two_of (parts 47 (decimal m ++ 47 ∷ decimal n)) ≡ Some (decimal m, decimal n)
slash = two-text 47 (λ d small e. omega (arith, e))

pub position_in-text : (q : Pos) → IsPlace q → position_in (position_text q) ≡ Ok q
unfolding position_in
position_in-text q fits = grind (arith, nat_tests, append_assoc, colon, whole_in-text)

pub position_in-found : (field : List ℕ) (q : Pos) → position_in field ≡ Ok q → (field ≡ position_text q) × IsPlace q
unfolding position_in
position_in-found field q e =
    let a = step-ok _ _ q e in
    let tick = read-step (whole_in-found a.0.0) a.2 in
    let offset = read-step (whole_in-found a.0.1) tick.2 in
    let made : Pos = record { tick = tick.0; offset = offset.0 } in
    let joined : field ≡ a.0.0 ++ 58 ∷ a.0.1 = two-joined 58 field a.0.0 a.0.1 (ok_or-ok (two_of (parts 58 field)) kind.Number a.0 a.1) in
    let text : field ≡ position_text made =
    joined ∙ (ap₂ (λ x y. x ++ 58 ∷ y) tick.1.0 offset.1.0 ∙ sym (append_assoc (decimal tick.0) (codes ":") (decimal offset.0))) in
    subst (λ (r : Pos). (field ≡ position_text r) × IsPlace r) (ok-is {F = TraceKind} made q offset.2) (text, (tick.1.1, offset.1.1))

pub fraction_in-text : (num den : ℕ) → num < 2 ^ 128 → den < 2 ^ 128 → fraction_in (fraction_text num den) ≡ Ok (num, den)
unfolding fraction_in
fraction_in-text num den above below = grind (arith, nat_tests, append_assoc, slash, wide_in-text)

pub fraction_in-found : (field : List ℕ) (d : ℕ × ℕ) → fraction_in field ≡ Ok d → (field ≡ fraction_text d.0 d.1) × (d.0 < 2 ^ 128) × (d.1 < 2 ^ 128)
unfolding fraction_in
fraction_in-found field d e =
    let a = step-ok _ _ d e in
    let num = read-step (wide_in-found a.0.0) a.2 in
    let den = read-step (wide_in-found a.0.1) num.2 in
    let made : ℕ × ℕ = (num.0, den.0) in
    let joined : field ≡ a.0.0 ++ 47 ∷ a.0.1 = two-joined 47 field a.0.0 a.0.1 (ok_or-ok (two_of (parts 47 field)) kind.Number a.0 a.1) in
    let text : field ≡ fraction_text num.0 den.0 =
    joined ∙ (ap₂ (λ x y. x ++ 47 ∷ y) num.1.0 den.1.0 ∙ sym (append_assoc (decimal num.0) (codes "/") (decimal den.0))) in
    subst (λ (r : ℕ × ℕ). (field ≡ fraction_text r.0 r.1) × (r.0 < 2 ^ 128) × (r.1 < 2 ^ 128)) (ok-is {F = TraceKind} made d den.2) (text, num.1.1, den.1.1)

-- no two tasks have one name
abbrev pub AreApart : List (List ℕ) → Type 0
AreApart names = AllPairs (λ a b. a ≢ b) names

place : (names : List (List ℕ)) (i : ℕ) → AreApart names → i < length names → position_or_len (λ name. bytes_eq name (name_of names i)) names ≡ i
place names i apart lt = grind (arith, nat_tests, bytes_eq-Decides, false_from_ne_true, position_or_len_is)

pub task_in-text : (names : List (List ℕ)) (i : ℕ) → AreApart names → i < length names → task_in names (name_of names i) ≡ Ok i
unfolding task_in
task_in-text names i apart lt =
    let within : nat_lt i (length names) ≡ true = grind (arith, nat_tests) in
    rw (place names i apart lt, within) refl

pub task_in-found : (names : List (List ℕ)) (field : List ℕ) (i : ℕ) → task_in names field ≡ Ok i → (field ≡ name_of names i) × (i < length names)
unfolding task_in
task_in-found names field i e = grind (arith, nat_tests, bytes_eq-Decides, ok_or-ok, position-Some)
