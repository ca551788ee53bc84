-- What a teller does with a note: its line is written, and then the probes are told it.
use Rattle.std.specs.Prelude.{◌≡◌, [], ◌∷◌}
use Rattle.dvs_base.specs.Outside.{SinkView}
use Rattle.dvs_base.specs.declared.note.Note.{Note}
use Rattle.probes.specs.Tallies.{ProbeView}
use Rattle.probes.specs.Outputs.{Outputs, outputs_of}
use Rattle.trace_text.specs.TraceText.{line_of_note}
use Rattle.trace_writer.specs.Lines.{WroteLines, StoppedIn}
use Rattle.event_kernel.specs.declared.teller.Teller.{Teller}

-- what a teller's sink and its probes show
abbrev pub shown_by : {W P : Type 0} → (W → SinkView) → (P → ProbeView) → Teller W P → Outputs
shown_by shows seen t = outputs_of shows seen t.out.now t.probes.now

-- the sink, the list of probes and the names stay
pub record KeepsPlaces {W P : Type 0} (a b : Teller W P) : Type 0 where
  pub out : b.out.ghost_name ≡ a.out.ghost_name
  pub probes : b.probes.ghost_name ≡ a.probes.ghost_name
  pub names : b.names.now ≡ a.names.now

-- the note's line was written and the probes were told the note
abbrev pub HearsNote : {W P : Type 0} → (W → SinkView) → (P → ProbeView) → Teller W P → Note → Teller W P → Type 0
HearsNote shows seen a n b =
    WroteLines (shown_by shows seen a) (shown_by shows seen b) (line_of_note a.names.now n ∷ []) × KeepsPlaces a b

-- the note's line was written in part and the probes were told nothing
abbrev pub BalksAt : {W P : Type 0} → (W → SinkView) → (P → ProbeView) → Teller W P → Note → Teller W P → Type 0
BalksAt shows seen a n b =
    StoppedIn (shown_by shows seen a) (shown_by shows seen b) (line_of_note a.names.now n ∷ []) × KeepsPlaces a b
