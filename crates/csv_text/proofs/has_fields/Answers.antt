use Rattle.std.proofs.lemmas.Grind.{common_steps}
use Rattle.std.proofs.Common.{◌∙◌, arith}
use Rattle.csv.specs.Records.{fields_of}
use Rattle.csv_text.proofs.Records.{has_fields-other, field-differs, field-same}
use Rattle.csv_text.proofs.has_fields.Goals as goal

pub returns-then-len-names : goal.returns-then-len-names
returns-then-len-names c =
    has_fields-other c.args.names.now (fields_of c.args.fields.now) (λ e. c.if-len-names.true (c.len.ensures ∙ e))

pub returns-then-ne : goal.returns-then-ne
returns-then-ne c = grind (arith, common_steps, field-differs)

pub loop-place-preserved : goal.loop-place-preserved
loop-place-preserved c = grind (arith, common_steps, field-same)
