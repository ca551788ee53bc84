use Rattle.std.proofs.Common.{◌≡◌, true, sym, ◌∙◌}
use Rattle.dvs_base.specs.Text.{starts_number}
use Rattle.dvs_base.proofs.ShortNumbers.{short-number}
use Rattle.dvs_base.proofs.digits.short_number.Goals as goal

pub returns-then-starts_number : goal.returns-then-starts_number
returns-then-starts_number c limit above =
    let starts : starts_number c.args.bytes.now ≡ true = sym c.starts_number.ensures ∙ c.if-starts_number.true in
    c.digits_in.ensures ∙ (rw starts at (short-number limit c.args.bytes.now above c.requires))
