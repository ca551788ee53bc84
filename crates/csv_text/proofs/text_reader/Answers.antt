use Rattle.std.proofs.lemmas.Grind.{common_steps}
use Rattle.std.proofs.Common.{arith}
use Rattle.csv_text.proofs.Records.{records-few}
use Rattle.csv_text.proofs.text_reader.Goals as goal

pub returns-in-Ok-clause-few : goal.returns-in-Ok-clause-few
returns-in-Ok-clause-few c = grind (arith, common_steps, records-few)
