use Rattle.std.proofs.Common.{sym, rules}
use Rattle.std.proofs.lemmas.List.{take_rest}
use Rattle.trace_reader.proofs.FirstCut.{parts-found, parts-none}
use Rattle.trace_reader.proofs.parts.cut.Goals as goal

pub returns-clause-found : goal.returns-clause-found
returns-clause-found c = rw take_rest (parts-found c.args.separator c.args.bytes.now c.in_ok-i.i (sym c.in_ok-i.ensures))

pub returns-in_err-i-clause-none : goal.returns-in_err-i-clause-none
returns-in_err-i-clause-none c =
    let none = parts-none c.args.separator c.args.bytes.now (sym c.in_err-i.ensures) in
    search (rules, none)
