-- One check after another: the first refusal is the answer.
use Rattle.std.specs.Prelude.{Result, Ok, Err, Option, Some, None, ⊤, ◌≡◌, ◌≢◌}

-- the next check, if this one passed
abbrev pub and_then : {A B F : Type 0} → Result A F → (A → Result B F) → Result B F
and_then (Ok value) next = next value
and_then (Err e) next = Err e

-- the next step with this one's value, or this one's refusal
infixl 10 ◌>>=◌
abbrev pub ◌>>=◌ : {A B F : Type 0} → Result A F → (A → Result B F) → Result B F
r >>= next = and_then r next

-- the next step, if this check passed, or this one's refusal
infixl 10 ◌>>◌
abbrev pub ◌>>◌ : {B F : Type 0} → Result ⊤ F → Result B F → Result B F
r >> next = and_then r (λ _. next)

-- the check that nothing was found, or the refusal of what was
abbrev pub none_found : {A F : Type 0} → (A → F) → Option A → Result ⊤ F
none_found refusal None = Ok tt
none_found refusal (Some found) = Err (refusal found)

-- the value, or the refusal for its error
abbrev pub or_refusal : {A E F : Type 0} → (E → F) → Result A E → Result A F
or_refusal refusal (Ok value) = Ok value
or_refusal refusal (Err e) = Err (refusal e)

-- the result, its value seen through `shown`, is the meaning, unless memory ran out
abbrev pub IsUnlessMemory : {T A F : Type 0} → F → (T → A) → Result T F → Result A F → Type 0
IsUnlessMemory no_memory shown (Ok value) meaning = meaning ≡ Ok (shown value)
IsUnlessMemory no_memory shown (Err e) meaning = (e ≢ no_memory) → meaning ≡ Err e
