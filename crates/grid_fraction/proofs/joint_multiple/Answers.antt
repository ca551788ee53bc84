-- The multiple by the greatest common divisor is the least common one.
use Rattle.std.proofs.Common.{◌≡◌, ◌*◌, ◌/◌, [], ◌∷◌, arith}
use Rattle.grid_fraction.specs.Fraction.{least_common_multiple}
use Rattle.grid_fraction.proofs.Multiples.{IsGcd-pos, least_common_multiple-pair}
use Rattle.grid_fraction.proofs.joint_multiple.Goals as goal

pub nonzero_div-b : goal.nonzero_div-b
nonzero_div-b c = IsGcd-pos c.args.a c.args.b c.gcd.result c.requires.a c.gcd.ensures

pub returns-in-Some-clause-multiple : goal.returns-in-Some-clause-multiple
returns-in-Some-clause-multiple c =
    let e : least_common_multiple (c.args.a ∷ c.args.b ∷ []) ≡ c.args.a * (c.args.b / c.gcd.result) =
    least_common_multiple-pair c.args.a c.args.b c.gcd.result c.requires.a c.requires.b c.gcd.ensures in
    omega (arith, c.in-Some.ensures)

pub returns-in_default-clause-beyond : goal.returns-in_default-clause-beyond
returns-in_default-clause-beyond c =
    let e : least_common_multiple (c.args.a ∷ c.args.b ∷ []) ≡ c.args.a * (c.args.b / c.gcd.result) =
    least_common_multiple-pair c.args.a c.args.b c.gcd.result c.requires.a c.requires.b c.gcd.ensures in
    omega (arith, c.in-Some.ensures)

pub returns-in_default-2-clause-beyond : goal.returns-in_default-2-clause-beyond
returns-in_default-2-clause-beyond c =
    let e : least_common_multiple (c.args.a ∷ c.args.b ∷ []) ≡ c.args.a * (c.args.b / c.gcd.result) =
    least_common_multiple-pair c.args.a c.args.b c.gcd.result c.requires.a c.requires.b c.gcd.ensures in
    omega (arith, c.in_default.ensures)
