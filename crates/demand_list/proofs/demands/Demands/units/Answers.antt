use Rattle.std.proofs.Common.{◌≤◌, ℕ, List, Option, sym, subst}
use Rattle.std.specs.Prelude.{slice_index, unwrap_or}
use Rattle.demand_list.specs.Kept.{kept_rows}
use Rattle.demand_list.proofs.Rows.{named-within}
use Rattle.demand_list.proofs.demands.Demands.units.Goals as goal

pub returns-in-Some-clause-low : goal.returns-in-Some-clause-low
returns-in-Some-clause-low c =
    let worsts : List ℕ = c.self.inside.worsts.items in
    let most = named-within worsts (kept_rows c.self.inside.rows) c.args.task c.args.job c.self.invariant.demands.each in
    rw (← c.self.view_is)
    (subst (λ (found : Option ℕ). unwrap_or found (slice_index worsts c.args.task) ≤ slice_index worsts c.args.task) (sym c.in-Some.ensures) most)
