-- What a sink and probes show together.
use Rattle.std.specs.Prelude.{List, Vec, map}
use Rattle.dvs_base.specs.Outside.{SinkView}
use Rattle.probes.specs.Tallies.{ProbeView}

-- what is seen of a sink and of the probes of a run
pub record Outputs : Type 0 where
  pub sink : SinkView
  pub probes : List ProbeView

-- what this sink and these probes show, each through its own view
abbrev pub outputs_of : {W P A : Type 0} → (W → SinkView) → (P → ProbeView) → W → Vec P A → Outputs
outputs_of shows seen out probes = record { sink = shows out; probes = map seen probes.items }
