use Rattle.std.proofs.Common.{map, rules}
use Rattle.dvs_base.proofs.Keys.{unknown_key-find}
use Rattle.dvs_base.proofs.settings.unknown_key.Goals as goal

pub returns : goal.returns
returns c = rw (
  unknown_key-find (map (λ k. k.now) c.args.known.now) c.args.table.now.entries c.in_ok-key.ensures.ordered,
  ← c.in_ok-key.ensures.found,
  c.of.ensures,
  c.as_bytes.ensures.value,
)

pub returns-in_err-key : goal.returns-in_err-key
returns-in_err-key c = rw (
  unknown_key-find (map (λ k. k.now) c.args.known.now) c.args.table.now.entries c.in_err-key.ensures.ordered,
  ← c.in_err-key.ensures.found,
) (search rules)
