-- The unknown keys of a table, found among the keys of its map.
use Rattle.std.proofs.Common.{◌≡◌, Bool, true, false, not, cond, if◌then◌else◌, List, [], ◌∷◌, ℕ, find, Option, Some, None, option_map, String, Global, string_bytes, nat_cmp, Less, refl, ap, Bor, map}
use Rattle.std.specs.Bool.{⊤}
use Rattle.std.specs.Cmp.Lexicographic.{slice_cmp}
use Rattle.std.specs.List.{AllByRecursion, list_any}
use Rattle.std.specs.Str.{bytes_eq}
use Rattle.std.specs.List.Sorted.{IsStrictlySortedBy}
use Rattle.std.specs.String.{string_cmp}
use Rattle.std.specs.Map.{keys_of}
use Rattle.toml.specs.declared.value.Value.{Value}
use Rattle.toml.specs.View.{members_view}
use Rattle.dvs_base.specs.Settings.{lesser, is_known, unknown_key}

abbrev Entry : Type 0
Entry = String Global × Value

-- the key is less than the other, if there is one
abbrev IsBelow : String Global → Option (List ℕ) → Type 0
IsBelow key None = ⊤
IsBelow key (Some other) = slice_cmp nat_cmp (string_bytes key) other ≡ Less

lesser_below : (key : String Global) (o : Option (List ℕ)) → IsBelow key o → lesser (string_bytes key) o ≡ string_bytes key
lesser_below key None h = refl
lesser_below key (Some other) h = rw h refl

either_below : (key e : String Global) (known : Bool) (o : Option (List ℕ)) → string_cmp key e ≡ Less → IsBelow key o → IsBelow e o
    → IsBelow key (if known then o else Some (lesser (string_bytes e) o))
either_below key e true o here more own = more
either_below key e false o here more own = rw (lesser_below e o own) here

all_below : (key : String Global) (keys : List (List ℕ)) (es : List Entry) → AllByRecursion (λ y. string_cmp key y ≡ Less) (keys_of es)
    → IsStrictlySortedBy string_cmp (keys_of es) → IsBelow key (unknown_key keys (members_view es))
unfolding IsStrictlySortedBy
all_below key keys [] h s = tt
all_below key keys (e ∷ es) h s = either_below key e.0 (is_known keys (string_bytes e.0)) (unknown_key keys (members_view es)) h.0
    (all_below key keys es h.1 s.1) (all_below e.0 keys es s.0 s.1)

step : (b : Bool) (key : String Global) (rest : Option (List ℕ)) (found : Option (String Global)) → rest ≡ option_map string_bytes found → IsBelow key rest
    → (if b then rest else Some (lesser (string_bytes key) rest)) ≡ option_map string_bytes (cond (not b) (Some key) found)
step true key rest found e below = e
step false key rest found e below = ap Some (lesser_below key rest below)

pub unknown_key-find : (keys : List (List ℕ)) (es : List Entry) → IsStrictlySortedBy string_cmp (keys_of es)
    → unknown_key keys (members_view es) ≡ option_map string_bytes (find (λ k. not (is_known keys (string_bytes k))) (keys_of es))
unfolding IsStrictlySortedBy
unknown_key-find keys [] s = refl
unknown_key-find keys (e ∷ es) s = step (is_known keys (string_bytes e.0)) e.0 _ _ (unknown_key-find keys es s.1) (all_below e.0 keys es s.0 s.1)

pub is_known-map : (keys : List (Bor (List ℕ))) (key : List ℕ) → is_known (map (λ k. k.now) keys) key ≡ list_any (λ k. bytes_eq k.now key) keys
is_known-map [] key = refl
is_known-map (k ∷ keys) key = rw (is_known-map keys key) refl
