use Rattle.std.proofs.Common.{◌≡◌, [], get_or, below_more, ap, ◌∙◌, sym}
use Rattle.std.proofs.lemmas.List.{get_or_read}
use Rattle.dvs_base.specs.Text.{is_name}
use Rattle.trace_reader.proofs.read.known_names.Goals as goal

pub loop-name-preserved : goal.loop-name-preserved
loop-name-preserved c =
    let here : c.name-item.result ≡ get_or c.args.names.now c.loop-name.name-index [] =
    get_or_read c.args.names.now c.loop-name.name-index c.name-item.result c.loop-name-test.true c.name-item.is [] in
    below_more _ _ c.loop-name.invariant (ap is_name (sym here) ∙ c.as_bytes-bytes.ensures.name)
