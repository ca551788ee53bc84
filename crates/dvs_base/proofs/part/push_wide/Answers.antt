use Rattle.std.proofs.Common.{◌≤◌, length, rules, arith, length-append}
use Rattle.std.specs.Fmt.{decimal}
use Rattle.std.proofs.lemmas.Fmt.{length-decimal-le_wide}
use Rattle.dvs_base.specs.declared.limits.TheConstants.{WIDE_BYTES}
use Rattle.dvs_base.proofs.part.push_wide.Goals as goal

pub put_num-requires : goal.put_num-requires
put_num-requires c =
    let short : length (decimal c.args.n) ≤ WIDE_BYTES = search (rules, length-decimal-le_wide WIDE_BYTES) in
    omega (arith, short, c.requires)

pub returns-in-Err-clause-most : goal.returns-in-Err-clause-most
returns-in-Err-clause-most c =
    let short : length (decimal c.args.n) ≤ WIDE_BYTES = search (rules, length-decimal-le_wide WIDE_BYTES) in
    rw c.put_num.ensures (simp length-append (omega (arith, short)))
