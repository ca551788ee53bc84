-- Notes heard one list after another.
use Rattle.std.proofs.Common.{inl, inr, List, [], ◌∷◌, ◌++◌, sym, subst}
use Rattle.dvs_base.specs.declared.note.Note.{Note}
use Rattle.event_kernel.specs.Heard.{HasHeard, HasBalked}

module _ {L : Type 0} (heard balked : L → Note → L → Type 0) where
  pub heard-append : (xs ys : List Note) (a b c : L) → HasHeard heard a xs b → HasHeard heard b ys c → HasHeard heard a (xs ++ ys) c
  heard-append [] ys a b c left right = subst (λ (x : L). HasHeard heard x ys c) (sym left) right
  heard-append (x ∷ xs) ys a b c left right = (left.0, left.1, heard-append xs ys left.0 b c left.2 right)

  pub balked-append : (xs ys : List Note) (a c : L) → HasBalked heard balked a xs c → HasBalked heard balked a (xs ++ ys) c
  balked-append [] ys a c left = absurd left
  balked-append (x ∷ xs) ys a c (inl here) = inl here
  balked-append (x ∷ xs) ys a c (inr later) = inr (later.0, later.1, balked-append xs ys later.0 c later.2)

  pub balked_after : (xs ys : List Note) (a b c : L) → HasHeard heard a xs b → HasBalked heard balked b ys c → HasBalked heard balked a (xs ++ ys) c
  balked_after [] ys a b c left right = subst (λ (x : L). HasBalked heard balked x ys c) (sym left) right
  balked_after (x ∷ xs) ys a b c left right = inr (left.0, left.1, balked_after xs ys left.0 b c left.2 right)
