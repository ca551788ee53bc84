use Rattle.std.proofs.Common.{◌≡◌, codes, ap, ◌∙◌, append_assoc, arith}
use Rattle.std.specs.Fmt.{decimal}
use Rattle.std.proofs.lemmas.Fmt.{decimal_digit}
use Rattle.trace_text.proofs.write.push_at.Goals as goal

pub returns-clause-text : goal.returns-clause-text
returns-clause-text c =
    let none : c.args.pos.offset ≡ 0 = omega arith in
    let zero : decimal c.args.pos.offset ≡ codes "0" = ap decimal none ∙ decimal_digit 0 (omega arith) in
    rw (c.push_word.ensures.text, c.push_number.ensures.text, zero) (simp append_assoc)
