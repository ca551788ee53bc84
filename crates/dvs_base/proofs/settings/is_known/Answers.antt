use Rattle.dvs_base.proofs.Keys.{is_known-map}
use Rattle.dvs_base.proofs.settings.is_known.Goals as goal

pub returns : goal.returns
returns c = rw (is_known-map c.args.known.now c.args.key.now) c.is_among.ensures
