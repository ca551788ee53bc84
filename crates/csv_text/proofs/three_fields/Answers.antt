use Rattle.std.proofs.lemmas.Grind.{common_steps}
use Rattle.std.proofs.Common.{◌≡◌, ℕ, List, length, Some, arith}
use Rattle.csv.specs.Records.{field_at, fields_of}
use Rattle.dvs_base.specs.Parts.{three_of}
use Rattle.csv_text.proofs.three_fields.Goals as goal

three : (fs : List (List ℕ)) (a b c : List ℕ) → length fs ≡ 3 → field_at fs 0 ≡ Some a → field_at fs 1 ≡ Some b
    → field_at fs 2 ≡ Some c → Some (a, b, c) ≡ three_of fs
unfolding field_at
three fs a b c h p q r = grind (arith, common_steps)

pub returns : goal.returns
returns c = three (fields_of c.args.fields.now) _ _ _ (omega arith) c.field.ensures c.field-2.ensures c.field-3.ensures
