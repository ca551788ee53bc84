use Rattle.std.proofs.Common.{◌≤◌, length, rules, arith}
use Rattle.std.specs.Fmt.{decimal}
use Rattle.std.proofs.lemmas.Fmt.{length-decimal-le}
use Rattle.dvs_base.specs.declared.limits.TheConstants.{NUMBER_BYTES}
use Rattle.dvs_base.proofs.part.push_number.Goals as goal

pub write_digits-start-requires : goal.write_digits-start-requires
write_digits-start-requires c =
    let short : length (decimal c.args.n) ≤ NUMBER_BYTES = search (rules, length-decimal-le NUMBER_BYTES) in
    (short, omega arith)
