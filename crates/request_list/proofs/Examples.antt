-- Request files, by evaluation.
use Rattle.std.proofs.Common.{◌≡◌, ℕ, List, [], ◌∷◌, ◌++◌, flat_map, Ok, Err, codes, refl}
use Rattle.csv.specs.Machine.{next_record}
use Rattle.csv.specs.Reading.{default_config, records, records_from, strip_bom}
use Rattle.request_list.specs.declared.fault.RequestFault.TheVariants.{Header, Range}
use Rattle.request_list.specs.RequestFile.{request_file}

-- lines, each ended by a line feed
abbrev lines : List (List ℕ) → List ℕ
lines ls = flat_map (λ l. l ++ 10 ∷ []) ls

-- two requests that arrive at the same tick
read :
    request_file (lines (codes "arrival,units" ∷ codes "4,3" ∷ codes "4,6" ∷ []))
    ≡ Ok (record { arrival = 4; units = 3 } ∷ record { arrival = 4; units = 6 } ∷ [])
unfolding strip_bom records_from next_record
read = refl

-- 0 units are refused before an arrival that is too early; it is the second row, since the header is not a row
no_units : request_file (lines (codes "arrival,units" ∷ codes "4,3" ∷ codes "1,0" ∷ [])) ≡ Err (Range 2)
unfolding strip_bom records_from next_record
no_units = refl

-- a header with its fields swapped is refused first, however many rows follow
header_first :
    (bytes : List ℕ) (rows : List (List (List ℕ)))
    → records default_config (strip_bom bytes) ≡ (codes "units" ∷ codes "arrival" ∷ []) ∷ rows
    → request_file bytes ≡ Err Header
header_first bytes rows are = rw are refl
