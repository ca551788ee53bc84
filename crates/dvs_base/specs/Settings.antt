-- What a settings file holds: its document, and what the document's keys hold.
use Rattle.std.specs.Prelude.{ℕ, List, Option, None, if◌then◌else◌, Some, Bool, pos, negsuc, ℤ, ◌&&◌, nat_le, Result, Ok, Err, ◌+◌}
use Rattle.std.specs.List.{list_any}
use Rattle.std.specs.Str.{is_utf8, bytes_eq}
use Rattle.std.specs.Cmp.Lexicographic.{slice_cmp}
use Rattle.std.specs.Ordering.{nat_cmp, is_lt}
use Rattle.toml.specs.Data.{Members, no_members, member, Data, as_integer, as_str, Items, no_items, item}
use Rattle.toml.specs.Parse.{parse_document}
use Rattle.dvs_base.specs.declared.settings.MemberFault.{MemberFault}
use Rattle.dvs_base.specs.declared.settings.MemberFault.TheVariants as fault

-- the document that the bytes are, by TOML's grammar; bytes that are not UTF-8 have none
abbrev pub document_of : List ℕ → Option Members
document_of bytes = if is_utf8 bytes then parse_document bytes else None

-- the lesser of a key and another, if there is one, by their bytes
abbrev pub lesser : List ℕ → Option (List ℕ) → List ℕ
lesser key None = key
lesser key (Some other) = if is_lt (slice_cmp nat_cmp key other) then key else other

-- the key is among `keys`
abbrev pub is_known : List (List ℕ) → List ℕ → Bool
is_known keys key = list_any (λ k. bytes_eq k key) keys

-- the least key of the table that is not among `keys`
abbrev pub unknown_key : List (List ℕ) → Members → Option (List ℕ)
unknown_key keys no_members = None
unknown_key keys (member key value rest) = if is_known keys key then unknown_key keys rest else Some (lesser key (unknown_key keys rest))

-- the number, if it is whole and within its limits
abbrev pub number_from : ℕ → ℕ → Option ℤ → Result ℕ MemberFault
number_from low high None = Err fault.Kind
number_from low high (Some (pos n)) = if nat_le low n && nat_le n high then Ok n else Err fault.Range
number_from low high (Some (negsuc n)) = Err fault.Range

-- the whole number at a key, if it is within its limits
abbrev pub number_at : ℕ → ℕ → Option Data → Result ℕ MemberFault
number_at low high None = Err fault.Missing
number_at low high (Some value) = number_from low high (as_integer value)

-- the number at a key that a table may lack, if it is at most `high`; 0 if the key is absent
abbrev pub number_or_zero : ℕ → Option Data → Result ℕ MemberFault
number_or_zero high None = Ok 0
number_or_zero high (Some value) = number_from 0 high (as_integer value)

-- the text of a value, if it has one
abbrev pub text_from : Option (List ℕ) → Result (List ℕ) MemberFault
text_from None = Err fault.Kind
text_from (Some text) = Ok text

-- the text at a key
abbrev pub text_at : Option Data → Result (List ℕ) MemberFault
text_at None = Err fault.Missing
text_at (Some value) = text_from (as_str value)

-- how many entries an array has
abbrev pub count_of : Items → ℕ
count_of no_items = 0
count_of (item value rest) = count_of rest + 1
