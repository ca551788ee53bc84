use Rattle.std.proofs.lemmas.Grind.{common_steps}
use Rattle.std.proofs.Common.{◌≡◌, ℕ, List, length, Some, arith}
use Rattle.csv.specs.Records.{field_at, fields_of}
use Rattle.dvs_base.specs.Parts.{two_of}
use Rattle.csv_text.proofs.two_fields.Goals as goal

two : (fs : List (List ℕ)) (a b : List ℕ) → length fs ≡ 2 → field_at fs 0 ≡ Some a → field_at fs 1 ≡ Some b
    → Some (a, b) ≡ two_of fs
unfolding field_at
two fs a b h p q = grind (arith, common_steps)

pub returns : goal.returns
returns c = two (fields_of c.args.fields.now) _ _ (omega arith) c.field.ensures c.field-2.ensures
