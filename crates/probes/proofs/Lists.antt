-- A list of probes, told a note from the first on.
use Rattle.std.proofs.Common.{◌≡◌, ℕ, zero, suc, ◌+◌, ◌<◌, List, [], ◌∷◌, ◌++◌, length, map, take, drop, set, get_or, sym, ◌∙◌, ap, arith}
use Rattle.std.specs.List.{remove}
use Rattle.dvs_base.specs.declared.note.Note.{Note}
use Rattle.probes.specs.declared.rule.Stay.{Stay as StayOf}
use Rattle.probes.specs.declared.rule.Stay.TheVariants as stay
use Rattle.probes.specs.Tallies.{ProbeView, probe_after, told_all, stay_of, with_staying}

module _ {X : Type 0} (f : X → ProbeView) (note : Note) where
  -- the list of probes before i as they are, and those from i on after the note
  abbrev pub told_from : ℕ → List X → List ProbeView
  told_from i xs = take i (map f xs) ++ told_all note (drop i (map f xs))

  -- if the probe at i was told and stays, the next place is i + 1
  stays : (xs : List X) (i : ℕ) (y d : X) → i < length xs → f y ≡ probe_after note (f (get_or xs i d))
      → stay_of (probe_after note (f (get_or xs i d))) ≡ stay.Stay → told_from (suc i) (set xs i y) ≡ told_from i xs
  stays [] i y d within same here = absurd (omega (arith, within))
  stays (x ∷ xs) zero y d within same here =
      ap (λ (p : ProbeView). p ∷ told_all note (map f xs)) same
      ∙ ap (λ (s : StayOf). with_staying s (probe_after note (f x)) (told_all note (map f xs))) (sym here)
  stays (x ∷ xs) (suc i) y d within same here =
      ap (λ (ps : List ProbeView). f x ∷ ps) (stays xs i y d (omega (arith, within)) same here)

  -- if the probe at i was told and is taken out, the next place is i
  leaves : (xs : List X) (i : ℕ) (y d : X) → i < length xs → stay_of (probe_after note (f (get_or xs i d))) ≡ stay.Leave
      → told_from i (remove (set xs i y) i) ≡ told_from i xs
  leaves [] i y d within here = absurd (omega (arith, within))
  leaves (x ∷ xs) zero y d within here =
      ap (λ (s : StayOf). with_staying s (probe_after note (f x)) (told_all note (map f xs))) (sym here)
  leaves (x ∷ xs) (suc i) y d within here =
      ap (λ (ps : List ProbeView). f x ∷ ps) (leaves xs i y d (omega (arith, within)) here)

  -- if the probe read at i was told and stays, the next place is i + 1
  pub stays-at : (xs : List X) (i : ℕ) (y p : X) → i < length xs → p ≡ get_or xs i p → f y ≡ probe_after note (f p)
      → stay_of (probe_after note (f p)) ≡ stay.Stay → told_from (i + 1) (set xs i y) ≡ told_from i xs
  stays-at xs i y p within is same here =
      let one : i + 1 ≡ suc i = omega arith in
      ap (λ (k : ℕ). told_from k (set xs i y)) one
      ∙ stays xs i y p within (same ∙ ap (λ (x : X). probe_after note (f x)) is)
      (sym (ap (λ (x : X). stay_of (probe_after note (f x))) is) ∙ here)

  pub leaves-at : (xs zs : List X) (i : ℕ) (y p : X) → i < length xs → p ≡ get_or xs i p
      → stay_of (probe_after note (f p)) ≡ stay.Leave → zs ≡ remove (set xs i y) i → told_from i zs ≡ told_from i xs
  leaves-at xs zs i y p within is here made =
      ap (λ (ws : List X). told_from i ws) made
      ∙ leaves xs i y p within (sym (ap (λ (x : X). stay_of (probe_after note (f x))) is) ∙ here)
