-- A word that is added, or is not UTF-8.
use Rattle.std.proofs.Common.{◌≡◌, ℕ, Bool, true, false, List, [], ◌∷◌, ◌++◌, map, Some, None, refl, ◌∙◌, ap, sym, if◌then◌else◌}
use Rattle.std.specs.Prelude.{String, string_bytes}
use Rattle.std.specs.Str.{IsUtf8, is_utf8}
use Rattle.std.specs.declared.alloc.Global.{Global}
use Rattle.std.proofs.lemmas.List.{map-append}
use Rattle.std.proofs.lemmas.Str.{is_utf8-from_IsUtf8, IsUtf8-from_is_utf8}
use Rattle.rtdvs_c.specs.WordList.{with_word}

pub not-utf8 : (words : List (List ℕ)) (word : List ℕ) → (IsUtf8 word → ⊥) → with_word words word ≡ None
not-utf8 words word never = go (is_utf8 word) refl
  where
    go : (b : Bool) → is_utf8 word ≡ b → (if b then Some (words ++ word ∷ []) else None) ≡ None
    go true e = absurd (never (IsUtf8-from_is_utf8 word e))
    go false e = refl

pub pushed : (words more : List (String Global)) (owned : String Global) (word : List ℕ) → IsUtf8 word
    → string_bytes owned ≡ word → more ≡ words ++ owned ∷ [] → with_word (map string_bytes words) word ≡ Some (map string_bytes more)
pushed words more owned word text same added =
    rw (is_utf8-from_IsUtf8 word text)
    (ap Some (sym (ap (map string_bytes) added ∙ (map-append string_bytes words (owned ∷ []) ∙ ap (λ w. map string_bytes words ++ w ∷ []) same))))
