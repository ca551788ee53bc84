-- Texts without a certain byte, and how they are split.
use Rattle.std.proofs.Common.{◌≡◌, ◌≢◌, ℕ, zero, suc, ◌+◌, ◌/◌, ◌%◌, ◌<◌, ◌≤◌, Bool, true, false, List, [], ◌∷◌, ◌++◌, length, All, refl, ap, ◌∙◌, arith, if◌then◌else◌}
use Rattle.std.specs.Prelude.{◌==◌, nat_lt, decimal}
use Rattle.std.specs.Fmt.{digit_glyph, digits_onto, digits}
use Rattle.std.specs.List.{AllByRecursion, join_with_byte}
use Rattle.std.proofs.lemmas.Bool.{eq-eqb}
use Rattle.std.proofs.lemmas.Bool.Decides.{nat_tests}
use Rattle.std.proofs.lemmas.List.Elements.{All-from_recursion}
use Rattle.std.proofs.lemmas.List.Splits.{slice_split_at, slice_split_none}
use Rattle.trace_text.proofs.Unspaced.{AreUnspaced}
use Rattle.trace_reader.specs.Fields.{parts}
use Rattle.trace_text.proofs.Lined.{spaced}

-- the byte is not in the text
abbrev pub Lacks : ℕ → List ℕ → Type 0
Lacks c = AllByRecursion (λ b. (b == c) ≡ false)

pub lacks-append : (c : ℕ) (a b : List ℕ) → Lacks c a → Lacks c b → Lacks c (a ++ b)
lacks-append c [] b p q = q
lacks-append c (x ∷ a) b p q = (p.0, lacks-append c a b p.1 q)

-- unspaced fields have neither a space nor a line feed
pub lacks-unspaced : (fields : List (List ℕ)) → AllByRecursion AreUnspaced fields → AllByRecursion (Lacks 32) fields × AllByRecursion (Lacks 10) fields
lacks-unspaced [] h = (tt, tt)
lacks-unspaced (field ∷ fields) h =
    let here = each field h.0 in
    let later = lacks-unspaced fields h.1 in
    ((here.0, later.0), (here.1, later.1))
  where
    other : (b c : ℕ) → b ≢ c → (b == c) ≡ false
    other b c ne = grind (arith, nat_tests)

    each : (text : List ℕ) → AreUnspaced text → Lacks 32 text × Lacks 10 text
    each [] h = (tt, tt)
    each (b ∷ text) h =
        let more = each text h.1 in
        ((other b 32 h.0.0, more.0), (other b 10 h.0.1, more.1))

-- a byte that is not a digit
abbrev IsNoDigit : ℕ → Type 0
IsNoDigit c = (d : ℕ) → d < 10 → 48 + d ≢ c

-- what holds of both holds of the one that is chosen
either : {A : Type 0} (P : A → Type 0) (b : Bool) (x y : A) → P x → P y → P (if b then x else y)
either P true x y p q = p
either P false x y p q = q

lacks-digits : (c : ℕ) → IsNoDigit c → (k n : ℕ) (acc : List ℕ) → Lacks c acc → Lacks c (digits_onto k 10 false n acc)
lacks-digits c free zero n acc h = h
lacks-digits c free (suc k) n acc h = either (Lacks c) (n / 10 == 0) _ _ (glyph, h)
    (lacks-digits c free k (n / 10) (digit_glyph false (n % 10) ∷ acc) (glyph, h))
  where
    low : nat_lt (n % 10) 10 ≡ true
    low = grind (arith, nat_tests)

    glyph : (digit_glyph false (n % 10) == c) ≡ false
    glyph = let ne : 48 + n % 10 ≢ c = free (n % 10) (omega arith) in rw low (grind (arith, nat_tests))

-- a byte that is not a digit is not in a number's text
pub lacks-decimal : (c : ℕ) → IsNoDigit c → (n : ℕ) → Lacks c (decimal n)
unfolding digits
lacks-decimal c free n = lacks-digits c free 64 n [] tt

length-digits : (k n : ℕ) (acc : List ℕ) → length (digits_onto k 10 false n acc) ≤ k + length acc
length-digits zero n acc = omega arith
length-digits (suc k) n acc = either (λ ds. length ds ≤ suc k + length acc) (n / 10 == 0) _ _ (omega arith)
    (let more = length-digits k (n / 10) (digit_glyph false (n % 10) ∷ acc) in omega (arith, more))

pub length-decimal : (n : ℕ) → length (decimal n) ≤ 64
unfolding digits
length-decimal n = omega (arith, length-digits 64 n [])

lacked : (c : ℕ) (text : List ℕ) → Lacks c text → All (λ b. (b == c) ≡ false) text
lacked c text h = All-from_recursion (λ b. (b == c) ≡ false) text h

-- a text without the byte is one part
pub parts-alone : (c : ℕ) (text : List ℕ) → Lacks c text → parts c text ≡ text ∷ []
parts-alone c text h = slice_split_none (λ b. b == c) text (lacked c text h)

-- the first part ends at the first such byte
pub parts-first : (c : ℕ) (text more : List ℕ) → Lacks c text → parts c (text ++ c ∷ more) ≡ text ∷ parts c more
parts-first c text more h = slice_split_at (λ b. b == c) text c more (lacked c text h) (eq-eqb c c refl)

-- the parts of texts that are joined by a byte which none of them has are the texts
pub parts-joined : (c : ℕ) (first : List ℕ) (rest : List (List ℕ)) → AllByRecursion (Lacks c) (first ∷ rest)
    → parts c (join_with_byte c (first ∷ rest)) ≡ first ∷ rest
parts-joined c first [] h = parts-alone c first h.0
parts-joined c first (second ∷ rest) h =
    parts-first c first (join_with_byte c (second ∷ rest)) h.0 ∙ ap (λ ps. first ∷ ps) (parts-joined c second rest h.1)

-- fields without line feeds, joined by spaces, have no line feed
pub lacks-spaced : (fields : List (List ℕ)) → AllByRecursion (Lacks 10) fields → Lacks 10 (spaced fields)
lacks-spaced [] h = tt
lacks-spaced (field ∷ []) h = h.0
lacks-spaced (field ∷ other ∷ fields) h = lacks-append 10 field (32 ∷ spaced (other ∷ fields)) h.0 (refl, lacks-spaced (other ∷ fields) h.1)
