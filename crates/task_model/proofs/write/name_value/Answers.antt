use Rattle.std.proofs.Common.{Result, Ok, Err, refl}
use Rattle.std.specs.Result.{IsOk, MatchResult}
use Rattle.std.specs.Str.{IsUtf8}
use Rattle.task_model.proofs.Written.{IsUtf8-name}
use Rattle.task_model.proofs.write.name_value.Goals as goal

known : {T E : Type 0} (r : Result T E) (P : T → Type 0) (Q : E → Type 0) (U : Type 0) → U → MatchResult r P (λ e. (U → ⊥) × Q e) → IsOk r
known (Ok x) P Q U u h = refl
known (Err e) P Q U u h = absurd (h.0 u)

pub unwrap-text-requires : goal.unwrap-text-requires
unwrap-text-requires c =
    let encoded : IsUtf8 c.as_bytes.result.now = rw c.as_bytes.ensures.bytes (IsUtf8-name c.args.name.now c.requires) in
    known c.from_utf8.result _ _ (IsUtf8 c.as_bytes.result.now) encoded c.from_utf8.ensures.cases
