use Rattle.std.proofs.lemmas.Grind.{common_steps}
use Rattle.std.proofs.Common.{◌≤◌, arith, below_more, refl}
use Rattle.energy_bound.specs.Corners.{corner_units, corner_cost, IsAbove}
use Rattle.energy_bound.proofs.Corners.{units-rise, cost-climb, above-found}
use Rattle.energy_bound.proofs.corner.is_supporting.Goals as goal

pub is_above-requires-clause-slower : goal.is_above-requires-clause-slower
is_above-requires-clause-slower c = grind (arith, common_steps, units-rise)

pub is_above-requires-clause-cheaper : goal.is_above-requires-clause-cheaper
is_above-requires-clause-cheaper c =
    let le : c.args.a ≤ c.args.b = omega arith in
    omega (
      arith,
      cost-climb c.args.machine.now c.as_slice-limits.ensures.limits c.args.a c.args.b le
          c.requires.last,
      c.nth_corner-low.ensures.cost,
      c.nth_corner-high.ensures.cost,
    )

pub loop-k-preserved : goal.loop-k-preserved
loop-k-preserved c =
    let m = c.args.machine.now in
    record {
      low_units = c.nth_corner-low.ensures.units;
      low_cost = c.nth_corner-low.ensures.cost;
      high_units = c.nth_corner-high.ensures.units;
      high_cost = c.nth_corner-high.ensures.cost;
      above = below_more (λ k. IsAbove c.nth_corner-low.result.units c.nth_corner-low.result.cost
          c.nth_corner-high.result.units c.nth_corner-high.result.cost (corner_units m k) (corner_cost m k))
          c.loop-k.k c.loop-k.invariant.above
          (above-found _ _ _ _ _ _ _ _ _ _ _ _ refl refl refl refl c.nth_corner.ensures.units
          c.nth_corner.ensures.cost (c.is_above.ensures.0 c.if-not-is_above.false));
    }
