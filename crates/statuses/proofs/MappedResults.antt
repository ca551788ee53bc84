-- A result whose error is made a status by `map_err`.
use Rattle.std.proofs.Common.{◌≡◌, Result, Ok, Err, sym, ap, subst}
use Rattle.std.specs.Prelude.{IfOk, IsErrAnd}
use Rattle.std.specs.Result.{MatchResult}
use Rattle.statuses.specs.declared.status.Status.{Status}
use Rattle.statuses.specs.Refused.{or_status}

pub mapped : {A F : Type 0} (status_of : F → Status) (r : Result A F) (m : Result A Status)
    → MatchResult r (λ x. m ≡ Ok x) (λ e. IsErrAnd m (λ s. s ≡ status_of e)) → m ≡ or_status status_of r
mapped status_of (Ok a) m cases = cases
mapped status_of (Err e) (Ok a) cases = absurd cases
mapped status_of (Err e) (Err s) cases = ap Err cases

-- what holds of a value holds of it beside another error
pub mapped-value : {A F E : Type 0} (Q : F → E → Type 0) (P : A → Type 0) (r : Result A F) (m : Result A E)
    → MatchResult r (λ x. m ≡ Ok x) (λ e. IsErrAnd m (Q e)) → IfOk r P → IfOk m P
mapped-value {A} {F} {E} Q P (Ok a) m cases h = subst (λ (x : Result A E). IfOk x P) (sym cases) h
mapped-value Q P (Err e) (Ok a) cases h = absurd cases
mapped-value Q P (Err e) (Err s) cases h = tt
