-- The lines of a text whose fields have neither a space nor a line feed.
use Rattle.std.proofs.Common.{◌≡◌, ◌≢◌, ℕ, zero, suc, ◌+◌, ◌/◌, ◌%◌, Bool, true, false, ◌&&◌, List, [], ◌∷◌, ◌++◌, length, drop, refl, arith, if◌then◌else◌, ap, ap₂, ◌∙◌, sym, true≢false, append_assoc, nat_le, nat_lt, get_or}
use Rattle.std.specs.Prelude.{decimal, ◌==◌}
use Rattle.std.specs.List.{AllByRecursion, list_all}
use Rattle.std.proofs.lemmas.Bool.{and_parts}
use Rattle.std.proofs.lemmas.Bool.Decides.{nat_tests}
use Rattle.std.specs.Fmt.{digit_glyph, digits_onto, digits}
use Rattle.dvs_base.specs.declared.limits.TheConstants.{NAME_BYTES}
use Rattle.dvs_base.specs.Text.{is_name, is_name_byte}
use Rattle.dvs_base.proofs.Lists.{each-append}
use Rattle.trace_text.specs.TraceLines.{line, lines_of, with_byte}

-- a byte that is neither a space nor a line feed
abbrev pub IsUnspaced : ℕ → Type 0
IsUnspaced b = (b ≢ 32) × (b ≢ 10)

abbrev pub AreUnspaced : List ℕ → Type 0
AreUnspaced = AllByRecursion IsUnspaced

unspaced-digits : (k n : ℕ) (acc : List ℕ) → AreUnspaced acc → AreUnspaced (digits_onto k 10 false n acc)
unspaced-digits zero n acc unspaced = unspaced
unspaced-digits (suc k) n acc unspaced = either (n / 10 == 0) _ _ (glyph (nat_lt (n % 10) 10), unspaced)
    (unspaced-digits k (n / 10) (digit_glyph false (n % 10) ∷ acc) (glyph (nat_lt (n % 10) 10), unspaced))
  where
    glyph : (b : Bool) → IsUnspaced (if b then 48 + n % 10 else 87 + n % 10)
    glyph true = (λ e. omega (arith, e), λ e. omega (arith, e))
    glyph false = (λ e. omega (arith, e), λ e. omega (arith, e))

    either : (b : Bool) (xs ys : List ℕ) → AreUnspaced xs → AreUnspaced ys → AreUnspaced (if b then xs else ys)
    either true xs ys p q = p
    either false xs ys p q = q

-- a number's text is unspaced
pub unspaced-decimal : (n : ℕ) → AreUnspaced (decimal n)
unfolding digits
unspaced-decimal n = unspaced-digits 64 n [] tt

unspaced-name_byte : (b : ℕ) → is_name_byte b ≡ true → IsUnspaced b
unspaced-name_byte b e = (λ q. off 32 refl q, λ q. off 10 refl q)
  where
    off : (m : ℕ) → is_name_byte m ≡ false → b ≡ m → ⊥
    off m none q = true≢false (sym e ∙ (ap is_name_byte q ∙ none))

unspaced-name_bytes : (bytes : List ℕ) → list_all is_name_byte bytes ≡ true → AreUnspaced bytes
unspaced-name_bytes [] e = tt
unspaced-name_bytes (b ∷ bytes) e =
    let each = and_parts (is_name_byte b) _ e in
    (unspaced-name_byte b each.0, unspaced-name_bytes bytes each.1)

-- a name is unspaced
pub unspaced-name : (name : List ℕ) → is_name name ≡ true → AreUnspaced name
unspaced-name name e = unspaced-name_bytes name (and_parts (nat_le 1 (length name) && nat_le (length name) NAME_BYTES) (list_all is_name_byte name) e).1

pub some-name : (name : List ℕ) → is_name name ≡ true → name ≢ []
some-name name e q = true≢false (sym e ∙ ap is_name q)

-- a line without its line feed: the fields with a space between each two
abbrev pub body : List (List ℕ) → List ℕ
body [] = []
body (field ∷ []) = field
body (field ∷ other ∷ fields) = field ++ (32 ∷ body (other ∷ fields))

line-body : (fields : List (List ℕ)) → line fields ≡ body fields ++ (10 ∷ [])
line-body [] = refl
line-body (field ∷ []) = refl
line-body (field ∷ other ∷ fields) =
    ap (λ l. field ++ (32 ∷ l)) (line-body (other ∷ fields)) ∙ sym (append_assoc field (32 ∷ body (other ∷ fields)) (10 ∷ []))

-- none of the bytes is a line feed
abbrev pub NoFeed : List ℕ → Type 0
NoFeed = AllByRecursion (λ b. b ≢ 10)

unspaced-feed : (bytes : List ℕ) → AreUnspaced bytes → NoFeed bytes
unspaced-feed [] p = tt
unspaced-feed (b ∷ bytes) p = (p.0.1, unspaced-feed bytes p.1)

body-feed : (fields : List (List ℕ)) → AllByRecursion AreUnspaced fields → NoFeed (body fields)
body-feed [] p = tt
body-feed (field ∷ []) p = unspaced-feed field p.0
body-feed (field ∷ other ∷ fields) p =
    each-append (λ b. b ≢ 10) field (32 ∷ body (other ∷ fields)) (unspaced-feed field p.0) (λ e. omega (arith, e), body-feed (other ∷ fields) p.1)

first-line : (bytes rest : List ℕ) → NoFeed bytes → lines_of (bytes ++ (10 ∷ rest)) ≡ (bytes ++ (10 ∷ [])) ∷ lines_of rest
first-line [] rest none = refl
first-line (b ∷ bytes) rest none =
    let other : (b == 10) ≡ false = (let ne : b ≢ 10 = none.0 in grind (arith, nat_tests)) in
    rw other (ap (with_byte b) (first-line bytes rest none.1))

-- the first line of a text that begins with a line of unspaced fields is that line
pub lines-line : (fields : List (List ℕ)) (rest : List ℕ) → AllByRecursion AreUnspaced fields → lines_of (line fields ++ rest) ≡ line fields ∷ lines_of rest
lines-line fields rest p =
    ap (λ l. lines_of (l ++ rest)) (line-body fields)
    ∙ (ap lines_of (append_assoc (body fields) (10 ∷ []) rest)
    ∙ (first-line (body fields) rest (body-feed fields p)
    ∙ ap (λ l. l ∷ lines_of rest) (sym (line-body fields))))

-- two texts that are equal, each a unspaced field before a space, have equal fields and rests
pub field-same : (a b r s : List ℕ) → AreUnspaced a → AreUnspaced b → a ++ (32 ∷ r) ≡ b ++ (32 ∷ s) → (a ≡ b) × (r ≡ s)
field-same [] [] r s p q e = (refl, ap (drop 1) e)
field-same [] (b ∷ bs) r s p q e = absurd (q.0.0 (sym (ap (λ l. get_or l 0 0) e)))
field-same (a ∷ rest_a) [] r s p q e = absurd (p.0.0 (ap (λ l. get_or l 0 0) e))
field-same (a ∷ rest_a) (b ∷ bs) r s p q e =
    let rest = field-same rest_a bs r s p.1 q.1 (ap (drop 1) e) in
    (ap₂ (λ x xs. x ∷ xs) (ap (λ l. get_or l 0 0) e) rest.0, rest.1)
