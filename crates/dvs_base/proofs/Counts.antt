-- How many entries an array has, compared with a limit.
use Rattle.std.proofs.Common.{◌≡◌, ◌<◌, ◌≤◌, ℕ, nat_lt, if◌then◌else◌, List, [], ◌∷◌, length, refl, arith}
use Rattle.std.proofs.lemmas.Bool.Decides.{nat_tests}
use Rattle.toml.specs.declared.value.Value.{Value}
use Rattle.toml.specs.View.{items_view}
use Rattle.dvs_base.specs.Settings.{count_of}

pub count_of-items_view : (vs : List Value) → count_of (items_view vs) ≡ length vs
count_of-items_view [] = refl
count_of-items_view (v ∷ vs) = omega (arith, count_of-items_view vs)

pub choose : {A : Type 0} (most m n : ℕ) (x : ℕ → A) (y : A) → m ≡ n → most < n → (if nat_lt most m then x m else y) ≡ x n
choose most m n x y e h = rw e (grind (arith, nat_tests))

pub choose_not : {A : Type 0} (most m n : ℕ) (x : ℕ → A) (y : A) → m ≡ n → n ≤ most → (if nat_lt most m then x m else y) ≡ y
choose_not most m n x y e h = rw e (grind (arith, nat_tests))
