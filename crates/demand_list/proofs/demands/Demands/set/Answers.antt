use Rattle.std.proofs.Common.{◌≡◌, None, sym}
use Rattle.task_model.specs.DemandRows.{named_units}
use Rattle.demand_list.specs.Demands.{IsRow}
use Rattle.demand_list.specs.Kept.{kept_rows}
use Rattle.demand_list.proofs.Rows.{IsDemands-after, AddsRow-with_row, is-free}
use Rattle.demand_list.proofs.demands.Demands.set.Goals as goal

pub invariant_of-self : goal.invariant_of-self
invariant_of-self c =
    let inside = sym c.self.view_is in
    let row : IsRow c.self.inside.worsts.items (record { task = c.args.task; job = c.args.job; units = c.args.units }) =
    record { task = rw inside at c.requires.task; job = c.requires.job; units = rw inside at c.requires.units } in
    let h = c.add.ensures in
    record {
      demands = IsDemands-after c.add.result _ _ _ _ h.added h.stays h.err c.self.invariant.demands row;
      in_order = h.in_order;
    }

pub returns-clause-added : goal.returns-clause-added
returns-clause-added c is =
    let free : named_units (kept_rows c.self.inside.rows) c.args.task c.args.job ≡ None = is-free _ (rw is at c.add.ensures.answer) in
    rw (← c.self.view_is, c.add.ensures.added is) (AddsRow-with_row (record {
      worsts = c.self.inside.worsts.items;
      rows = kept_rows c.self.inside.rows;
    }) (record { task = c.args.task; job = c.args.job; units = c.args.units }) free)
