-- A text is cut at the first place of a byte.
use Rattle.std.proofs.Common.{◌≡◌, ℕ, ◌+◌, Bool, List, [], ◌∷◌, length, take, drop, Some, None, option_map, refl, arith}
use Rattle.std.specs.Prelude.{position, ◌==◌, count_by}
use Rattle.std.proofs.lemmas.List.Splits.{slice_split_first, slice_split_none, length-slice_split}
use Rattle.std.proofs.lemmas.List.Sums.{fails_before_first}
use Rattle.std.proofs.lemmas.Bool.Decides.{nat_tests}
use Rattle.dvs_base.specs.Parts.{three_of}
use Rattle.trace_reader.specs.Fields.{parts, one_of, four_of, six_of}

module _ (byte : ℕ) (text : List ℕ) where
  abbrev at_byte : ℕ → Bool
  at_byte b = b == byte

  pub parts-none : position (λ b. b == byte) text ≡ None → parts byte text ≡ text ∷ []
  parts-none e = grind (arith, nat_tests, fails_before_first, slice_split_none)

  pub parts-found : (i : ℕ) → position (λ b. b == byte) text ≡ Some i → parts byte text ≡ take i text ∷ parts byte (drop (i + 1) text)
  parts-found i e = grind (arith, nat_tests, slice_split_first)

-- a text has a first part
pub record HasPart (found : List (List ℕ)) : Type 0 where
  pub first : List ℕ
  pub rest : List (List ℕ)
  pub all : found ≡ first ∷ rest

pub some-part : (byte : ℕ) (text : List ℕ) → HasPart (parts byte text)
some-part byte text = by (parts byte text) (length-slice_split (λ b. b == byte) text)
  where
    by : (found : List (List ℕ)) → length found ≡ count_by (λ b. b == byte) text + 1 → HasPart found
    by [] e = absurd (omega arith)
    by (x ∷ xs) e = record { first = x; rest = xs; all = refl }

-- a list with a part before those of a text has more than one part
pub one_of-more : (a : List ℕ) (byte : ℕ) (text : List ℕ) → one_of (a ∷ parts byte text) ≡ None
one_of-more a byte text = let p = some-part byte text in rw p.all refl

pub four_of-more : (a : List ℕ) (found : List (List ℕ)) → four_of (a ∷ found) ≡ option_map (λ p. (a, p.0, p.1, p.2)) (three_of found)
four_of-more a (x ∷ y ∷ z ∷ []) = refl
four_of-more a _ = refl

pub six_of-more : (a b : List ℕ) (found : List (List ℕ)) → six_of (a ∷ b ∷ found) ≡ option_map (λ p. (a, b, p.0, p.1, p.2, p.3)) (four_of found)
six_of-more a b (x ∷ y ∷ z ∷ w ∷ []) = refl
six_of-more a b _ = refl
