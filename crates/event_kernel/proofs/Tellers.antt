-- The lines of the notes that a teller heard were written, the last one in part if it stopped.
use Rattle.std.proofs.Common.{ℕ, inl, inr, List, [], ◌∷◌, map, refl, ◌∙◌, subst}
use Rattle.dvs_base.specs.Outside.{SinkView}
use Rattle.dvs_base.specs.declared.note.Note.{Note}
use Rattle.probes.specs.Tallies.{ProbeView}
use Rattle.event_kernel.specs.Heard.{HasHeard, HasBalked}
use Rattle.trace_text.specs.TraceText.{NotedLine, line_of_note}
use Rattle.trace_writer.specs.Lines.{WroteLines, StoppedIn}
use Rattle.event_kernel.specs.Tellers.{shown_by, KeepsPlaces, HearsNote, BalksAt}
use Rattle.event_kernel.specs.declared.teller.Teller.{Teller}
use Rattle.trace_writer.proofs.WrittenLines.{no-lines, lines-then, lines-then-some, lines-some-more}

module _ {W P : Type 0} (shows : W → SinkView) (seen : P → ProbeView) where
  abbrev pub HasWritten : Teller W P → List NotedLine → Teller W P → Type 0
  HasWritten a lines b = WroteLines (shown_by shows seen a) (shown_by shows seen b) lines

  abbrev pub HasStopped : Teller W P → List NotedLine → Teller W P → Type 0
  HasStopped a lines b = StoppedIn (shown_by shows seen a) (shown_by shows seen b) lines

  abbrev lines_by : Teller W P → List Note → List NotedLine
  lines_by a notes = map (line_of_note a.names.now) notes

  keeps-then : {a b c : Teller W P} → KeepsPlaces a b → KeepsPlaces b c → KeepsPlaces a c
  keeps-then k l = record { out = l.out ∙ k.out; probes = l.probes ∙ k.probes; names = l.names ∙ k.names }

  pub heard-written : (a : Teller W P) (notes : List Note) (b : Teller W P) → HasHeard (HearsNote shows seen) a notes b
      → HasWritten a (lines_by a notes) b × KeepsPlaces a b
  heard-written a [] b e =
      subst (λ (c : Teller W P). HasWritten a [] c × KeepsPlaces a c) e
      (no-lines (shown_by shows seen a), record { out = refl; probes = refl; names = refl })
  heard-written a (note ∷ notes) b (mid, first, h) =
      let rest = heard-written mid notes b h in (
        lines-then (lines_by a (note ∷ [])) (lines_by a notes) first.0
            (subst (λ (ns : List (List ℕ)). HasWritten mid (map (line_of_note ns) notes) b) first.1.names rest.0),
        keeps-then first.1 rest.1,
      )

  pub balked-written : (a : Teller W P) (notes : List Note) (b : Teller W P) → HasBalked (HearsNote shows seen) (BalksAt shows seen) a notes b
      → HasStopped a (lines_by a notes) b × KeepsPlaces a b
  balked-written a [] b h = absurd h
  balked-written a (note ∷ notes) b (inl h) = (lines-some-more (lines_by a (note ∷ [])) (lines_by a notes) h.0, h.1)
  balked-written a (note ∷ notes) b (inr (mid, first, h)) =
      let rest = balked-written mid notes b h in (
        lines-then-some (lines_by a (note ∷ [])) (lines_by a notes) first.0
            (subst (λ (ns : List (List ℕ)). HasStopped mid (map (line_of_note ns) notes) b) first.1.names rest.0),
        keeps-then first.1 rest.1,
      )
