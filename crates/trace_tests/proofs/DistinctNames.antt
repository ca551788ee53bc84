-- Names that differ pairwise, shown by evaluation.
use Rattle.std.proofs.Common.{◌≡◌, ◌≢◌, ℕ, false, List, [], ◌∷◌, arith}
use Rattle.std.specs.List.{AllPairs, AllByRecursion}
use Rattle.std.specs.Str.{bytes_eq}
use Rattle.std.proofs.lemmas.List.Elements.{All-from_recursion}
use Rattle.std.proofs.lemmas.List.Kept.{AllPairs-cons}
use Rattle.std.proofs.lemmas.Slice.Eq.{bytes_eq-Decides}

differ : (a : List ℕ) (names : List (List ℕ)) → AllByRecursion (λ b. bytes_eq a b ≡ false) names → AllByRecursion (λ b. a ≢ b) names
differ a [] h = tt
differ a (b ∷ names) h = (λ e. (let same = (bytes_eq-Decides a b).1 e in let other = h.0 in absurd (cc)), differ a names h.1)

-- each name differs from all later ones
abbrev pub AreDistinct : List (List ℕ) → Type 0
AreDistinct [] = Unit {0}
AreDistinct (name ∷ names) = AllByRecursion (λ other. bytes_eq name other ≡ false) names × AreDistinct names

pub apart : (names : List (List ℕ)) → AreDistinct names → AllPairs (λ a b. a ≢ b) names
apart [] h = λ i j d less lt. absurd (omega arith)
apart (name ∷ names) h = AllPairs-cons (λ a b. a ≢ b) name names (All-from_recursion (λ b. name ≢ b) names (differ name names h.0)) (apart names h.1)
