use Rattle.std.proofs.Common.{◌≡◌, map, drop}
use Rattle.csv.specs.Records.{fields_of}
use Rattle.csv_text.specs.Rows.{has_fields}
use Rattle.csv_text.proofs.has_fields.Given as goal

-- the record is the header exactly if its fields from `place` on are the header's
abbrev pub invariant-loop-place : goal.invariant-loop-place
invariant-loop-place l =
    has_fields (map (λ n. n.now) l.names) (fields_of l.fields)
    ≡ has_fields (drop l.place (map (λ n. n.now) l.names)) (drop l.place (fields_of l.fields))
