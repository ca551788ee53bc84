use Rattle.std.proofs.Common.{◌≡◌, ◌+◌, ◌*◌, ◌-◌, ◌<◌, ◌≤◌, ap, ap₂, ◌∙◌, arith, ℕ}
use Rattle.std.proofs.Math.Nat.{mul-le-mul_right}
use Rattle.std.proofs.lemmas.Bool.Decides.{nat_tests}
use Rattle.rm_response.specs.Loads.{rates_of, work_of}
use Rattle.rm_response.proofs.LoadFits.{none-beyond, more-within}
use Rattle.rm_response.proofs.search.is_beyond.Goals as goal

pub returns-then-rest-most_in-clause-none : goal.returns-then-rest-most_in-clause-none
returns-then-rest-most_in-clause-none c = λ on t from lt.
    more-within c.args.supply (c.args.rest + work_of c.args.left.loads.now t) c.args.most t
    (omega (arith, c.if-rest-most_in.true, c.most_in.ensures.value)) lt

pub returns-else-rest-most_in-clause-none : goal.returns-else-rest-most_in-clause-none
returns-else-rest-most_in-clause-none c = λ on.
    let s = c.args.supply in
    let xs = c.args.left.loads.now in
    let over : c.saturating_sub-spare.result * c.from.result < c.args.rest * c.from-else-rest-most_in.result =
    grind (arith, nat_tests, on) in
    let spare : c.saturating_sub-spare.result ≡ s.units - rates_of xs =
    c.saturating_sub-spare.ensures ∙ ap (λ (r : ℕ). s.units - r) c.args.left.sum in
    let left : c.saturating_sub-spare.result * c.from.result ≡ (s.units - rates_of xs) * c.args.most =
    ap₂ (λ (w m : ℕ). w * m) spare c.from.ensures in
    let right : c.args.rest * c.from-else-rest-most_in.result ≡ c.args.rest * s.hyper =
    ap (λ (n : ℕ). c.args.rest * n) c.from-else-rest-most_in.ensures in
    none-beyond s xs c.args.rest c.args.most c.requires.rates (omega (arith, over, left, right))

pub returns-else-rest-most_in-clause-within : goal.returns-else-rest-most_in-clause-within
returns-else-rest-most_in-clause-within c = λ off.
    let s = c.args.supply in
    let within : c.args.rest * c.from-else-rest-most_in.result ≤ c.saturating_sub-spare.result * c.from.result =
    grind (arith, nat_tests, off) in
    let less : c.saturating_sub-spare.result ≤ s.units = omega (arith, c.saturating_sub-spare.ensures) in
    let all : c.saturating_sub-spare.result * c.from.result ≤ s.units * c.args.most =
    omega (arith, mul-le-mul_right c.args.most less, ap (λ (m : ℕ). c.saturating_sub-spare.result * m) c.from.ensures) in
    omega (arith, within, all, ap (λ (n : ℕ). c.args.rest * n) c.from-else-rest-most_in.ensures)
