-- The fields of a line with a space between each two, and its line feed.
use Rattle.std.proofs.lemmas.Bool.Decides.{nat_tests}
use Rattle.std.proofs.Common.{◌≡◌, ℕ, ◌-◌, List, [], ◌∷◌, ◌++◌, length, take, refl, sym, ap, ◌∙◌, append_assoc, length-append, arith, ◌&&◌}
use Rattle.std.specs.Prelude.{nat_eq}
use Rattle.std.specs.List.{join_with_byte}
use Rattle.std.specs.Str.{bytes_eq}
use Rattle.std.proofs.Math.Bool.{and-false}
use Rattle.std.proofs.lemmas.List.{take_at}
use Rattle.trace_text.specs.TraceLines.{line}

abbrev pub spaced : List (List ℕ) → List ℕ
spaced = join_with_byte 32

pub line-spaced : (fields : List (List ℕ)) → line fields ≡ spaced fields ++ (10 ∷ [])
line-spaced [] = refl
line-spaced (field ∷ []) = refl
line-spaced (field ∷ other ∷ fields) =
    ap (λ l. field ++ (32 ∷ l)) (line-spaced (other ∷ fields)) ∙ sym (append_assoc field (32 ∷ spaced (other ∷ fields)) (10 ∷ []))

-- two texts are equal exactly if they are with a line feed after each
same-fed : (a b : List ℕ) → bytes_eq a b ≡ bytes_eq (a ++ (10 ∷ [])) (b ++ (10 ∷ []))
same-fed [] [] = refl
same-fed [] (y ∷ []) = sym (and-false (nat_eq 10 y))
same-fed [] (y ∷ z ∷ b) = sym (and-false (nat_eq 10 y))
same-fed (x ∷ []) [] = sym (and-false (nat_eq x 10))
same-fed (x ∷ w ∷ a) [] = sym (and-false (nat_eq x 10))
same-fed (x ∷ a) (y ∷ b) = ap (λ r. nat_eq x y && r) (same-fed a b)

-- a text is a line without its line feed exactly if, with one, it is the line
pub same-line : (l text : List ℕ) (fields : List (List ℕ)) → text ≡ line fields
    → bytes_eq l (take (length text - 1) text) ≡ bytes_eq (l ++ (10 ∷ [])) (line fields)
same-line l text fields e = grind (arith, nat_tests, length-append, line-spaced, same-fed, take_at)
