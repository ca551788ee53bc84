use Rattle.std.proofs.lemmas.Grind.{common_steps}
use Rattle.std.proofs.Common.{true, false, arith}
use Rattle.dvs_base.proofs.MappedErrors.{map_err-Ok}
use Rattle.csv_text.proofs.Records.{left-read, left-ended}
use Rattle.csv_text.proofs.next_record.Goals as goal

pub returns-clause-some : goal.returns-clause-some
returns-clause-some c h =
    let read = map_err-Ok c.read_byte_record.result c.map_err.result _ true c.map_err.ensures.cases c.map_err.ensures.variant h in
    grind (arith, common_steps, left-read)

pub returns-clause-none : goal.returns-clause-none
returns-clause-none c h =
    let read = map_err-Ok c.read_byte_record.result c.map_err.result _ false c.map_err.ensures.cases c.map_err.ensures.variant h in
    grind (arith, common_steps, left-ended)
