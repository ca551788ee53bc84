-- What a result says once its error is mapped to another.
use Rattle.std.proofs.Common.{◌≡◌, Result, Ok, Err, refl, sym, ◌∙◌, ap, subst, true≢false, IfOk, is_ok}
use Rattle.std.specs.Result.{MatchResult, IsErrAnd}
use Rattle.dvs_base.proofs.Checks.{ok-is}

module _ {T E D : Type 0} where
  -- the value stays
  pub map_err-IfOk : (r : Result T E) (mapped : Result T D) (P : T → Type 0) (Q : E → Type 0)
      → MatchResult r (λ x. mapped ≡ Ok x) Q → is_ok mapped ≡ is_ok r → IfOk r P → IfOk mapped P
  map_err-IfOk (Ok x) mapped P Q is same h = subst (λ m. IfOk m P) (sym is) h
  map_err-IfOk (Err e) (Ok x) P Q is same h = absurd cc
  map_err-IfOk (Err e) (Err d) P Q is same h = tt

  -- each value was one
  pub map_err-Ok : (r : Result T E) (mapped : Result T D) (Q : E → Type 0) (x : T)
      → MatchResult r (λ x. mapped ≡ Ok x) Q → is_ok mapped ≡ is_ok r → mapped ≡ Ok x → r ≡ Ok x
  map_err-Ok (Ok y) mapped Q x is same e = ap Ok (ok-is {F = D} y x (sym is ∙ e))
  map_err-Ok (Err d) mapped Q x is same e = absurd (true≢false (sym (ap is_ok e) ∙ same))

  -- each error comes from one
  pub map_err-Err : (r : Result T E) (mapped : Result T D) (Made : E → D → Type 0) (d : D)
      → MatchResult r (λ x. mapped ≡ Ok x) (λ e. IsErrAnd mapped (Made e)) → mapped ≡ Err d
      → (e : E) × (r ≡ Err e) × Made e d
  map_err-Err (Ok x) mapped Made d is e = absurd cc
  map_err-Err (Err e) mapped Made d made is = (e, refl, subst (λ m. IsErrAnd m (Made e)) is made)
