use Rattle.std.proofs.Common.{◌*◌, ap₂, ◌∙◌, ℕ}
use Rattle.grid_fraction.proofs.Ceilings.{div_ceil_is}
use Rattle.rm_response.proofs.loads.held.Goals as goal

pub returns-clause-value : goal.returns-clause-value
returns-clause-value c =
    let x = c.args.load in
    ap₂ (λ (n w : ℕ). n * w) (c.from.ensures ∙ c.div_ceil.ensures ∙ div_ceil_is c.args.ticks x.period x.some_period) c.from-2.ensures
