-- The lines of the tasks' energies, by the tasks' numbers.
use Rattle.std.proofs.Common.{◌≡◌, ℕ, zero, suc, ◌+◌, ◌<◌, List, [], ◌∷◌, ◌++◌, length, refl, ap, ap₂, ◌∙◌, arith}
use Rattle.grid_fraction.specs.Numbers.{list_below}
use Rattle.dvs_base.specs.declared.note.Note.{Note}
use Rattle.dvs_base.specs.Parts.{name_of}
use Rattle.trace_text.specs.TraceText.{task_energy, share_text, shares_from}

-- the first of some numbered values comes before the others
pub below-first : {A : Type 0} (n : ℕ) (f : ℕ → A) → list_below (suc n) f ≡ f 0 ∷ list_below n (λ i. f (suc i))
below-first zero f = refl
below-first {A} (suc n) f = ap (λ (xs : List A). xs ++ f (suc n) ∷ []) (below-first n f)

-- the lines of energies, which are those of the tasks from i on
pub shares-below : (notes : List Note) (ns : List (List ℕ)) (i : ℕ) (energy : ℕ → ℕ)
    → ((k m : ℕ) → m ≡ i + k → k < length ns → energy k ≡ task_energy notes m)
    → list_below (length ns) (λ k. share_text (name_of ns k) (energy k)) ≡ shares_from notes i ns
shares-below notes [] i energy same = refl
shares-below notes (name ∷ ns) i energy same =
    below-first (length ns) (λ k. share_text (name_of (name ∷ ns) k) (energy k))
    ∙ ap₂ (λ x xs. x ∷ xs) (ap (share_text name) (same 0 i (omega arith) (omega arith)))
    (shares-below notes ns (i + 1) (λ k. energy (suc k)) (λ k m e lt. same (suc k) m (omega (arith, e)) (omega (arith, lt))))
