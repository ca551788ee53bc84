-- Where a chain of checks, an option or a list of fields gives a value.
use Rattle.std.proofs.Common.{◌≡◌, ℕ, List, [], ◌∷◌, Option, Some, None, Result, Ok, Err, refl, ap, subst}
use Rattle.std.specs.Option.{ok_or}
use Rattle.std.proofs.lemmas.Option.{same_Some}
use Rattle.dvs_base.specs.Checks.{◌>>=◌}
use Rattle.dvs_base.specs.Parts.{two_of}

-- if a sequence of two steps gives a value, each step gave one
pub step-ok : {A B F : Type 0} (r : Result A F) (f : A → Result B F) (y : B) → (r >>= f) ≡ Ok y → (x : A) × (r ≡ Ok x) × (f x ≡ Ok y)
step-ok (Ok x) f y e = (x, refl, e)
step-ok (Err d) f y e = absurd cc

abbrev done : {A F : Type 0} → A → Result A F
done x = Ok x

pub ok-is : {A F : Type 0} (x y : A) → done {F = F} x ≡ done {F = F} y → x ≡ y
ok-is x y e = cc

pub ok_or-ok : {A F : Type 0} (o : Option A) (k : F) (x : A) → ok_or o k ≡ Ok x → o ≡ Some x
ok_or-ok None k x e = absurd cc
ok_or-ok {F = F} (Some y) k x e = ap Some (ok-is {F = F} y x e)

-- a list that has two parts is the list of both
pub two-is : (ps : List (List ℕ)) (p : List ℕ × List ℕ) → two_of ps ≡ Some p → ps ≡ p.0 ∷ p.1 ∷ []
two-is (a ∷ b ∷ []) p e = subst (λ (q : List ℕ × List ℕ). a ∷ b ∷ [] ≡ q.0 ∷ q.1 ∷ []) (same_Some (a, b) p e) refl
two-is _ p e = absurd cc
