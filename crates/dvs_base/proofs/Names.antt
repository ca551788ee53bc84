-- The length and the bytes of a text that is a name.
use Rattle.std.proofs.Common.{◌≡◌, ℕ, ◌≤◌, true, ◌&&◌, nat_le, List, [], ◌∷◌, length, map, refl, ap, ◌∙◌, arith}
use Rattle.std.proofs.lemmas.Bool.{and_parts}
use Rattle.std.proofs.lemmas.Bool.Decides.{nat_tests}
use Rattle.std.specs.List.{list_all}
use Rattle.dvs_base.specs.declared.limits.TheConstants.{NAME_BYTES}
use Rattle.std.proofs.lemmas.List.{take_all}
use Rattle.dvs_base.specs.Text.{is_name, is_name_byte, shown_byte, short_of}

-- a name has at most `NAME_BYTES` bytes, each one that a name may have
pub name-parts : (name : List ℕ) → is_name name ≡ true → (length name ≤ NAME_BYTES) × (list_all is_name_byte name ≡ true)
name-parts name e =
    let all = and_parts (nat_le 1 (length name) && nat_le (length name) NAME_BYTES) (list_all is_name_byte name) e in
    let ends = and_parts (nat_le 1 (length name)) (nat_le (length name) NAME_BYTES) all.0 in
    (grind (arith, nat_tests), all.1)

pub length-name : (name : List ℕ) → is_name name ≡ true → length name ≤ NAME_BYTES
length-name name e = (name-parts name e).0

shown-name : (bytes : List ℕ) → list_all is_name_byte bytes ≡ true → map shown_byte bytes ≡ bytes
shown-name [] e = refl
shown-name (b ∷ bytes) e = grind (arith, shown-name bytes)

-- a name is shown as it is
pub short-name : (name : List ℕ) → is_name name ≡ true → short_of name ≡ name
short-name name e = ap (map shown_byte) (take_all NAME_BYTES name (length-name name e)) ∙ shown-name name (name-parts name e).1
