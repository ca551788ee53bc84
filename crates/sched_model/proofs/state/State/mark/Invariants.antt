use Rattle.std.proofs.Common.{◌≡◌, length, take}
use Rattle.std.specs.Prelude.{map}
use Rattle.sched_model.specs.States.{row_wleft}
use Rattle.sched_model.proofs.state.State.mark.Given as goal

abbrev pub invariant-loop-i : goal.invariant-loop-i
invariant-loop-i l = record {
  now : l.self-inside.now ≡ l.initial.self-inside.now;
  base_at : l.self-inside.base_at ≡ l.initial.self-inside.base_at;
  rows : l.self-inside.rows.items ≡ l.initial.self-inside.rows.items;
  long : length l.self-inside.base.items ≡ length l.initial.self-inside.base.items;
  marked : take l.i l.self-inside.base.items ≡ take l.i (map row_wleft l.self-inside.rows.items);
}
