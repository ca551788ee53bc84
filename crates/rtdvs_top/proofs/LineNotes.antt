-- The notes that the lines of a trace show.
use Rattle.std.proofs.Common.{◌≡◌, ℕ, List, [], ◌∷◌, ◌++◌, map, flat_map, refl, ap, ap₂, ◌∙◌}
use Rattle.dvs_base.specs.declared.kind.Version.{Version}
use Rattle.dvs_base.specs.declared.kind.Version.TheVariants.{One, Two}
use Rattle.dvs_base.specs.declared.kind.GovernorKind.{GovernorKind}
use Rattle.dvs_base.specs.declared.kind.Scheduler.{Scheduler}
use Rattle.dvs_base.specs.declared.note.Note.{Note}
use Rattle.dvs_base.specs.declared.note.Note.TheVariants.{End}
use Rattle.trace_text.specs.TraceText.{unnoted_line, line_of_note, shares_from, for_tasks, head_lines, lines_of_note, note_lines, trace_lines, notes_of_lines}
use Rattle.trace_writer.proofs.WrittenLines.{notes-append}

notes-unnoted : (texts : List (List ℕ)) → notes_of_lines (map unnoted_line texts) ≡ []
notes-unnoted [] = refl
notes-unnoted (text ∷ texts) = notes-unnoted texts

notes-tasks : (v : Version) (texts : List (List ℕ)) → notes_of_lines (for_tasks v texts) ≡ []
notes-tasks One texts = refl
notes-tasks Two texts = notes-unnoted texts

module _ (v : Version) (names : List (List ℕ)) (all : List Note) where
  own-note : (n : Note) → notes_of_lines (lines_of_note v names all n) ≡ n ∷ []
  own-note (End t run idle) =
      notes-append (for_tasks v (shares_from all 0 names)) (line_of_note names (End t run idle) ∷ [])
      ∙ ap (λ ns. ns ++ End t run idle ∷ []) (notes-tasks v (shares_from all 0 names))
  own-note n = refl

  own-notes : (notes : List Note) → notes_of_lines (flat_map (lines_of_note v names all) notes) ≡ notes
  own-notes [] = refl
  own-notes (n ∷ notes) =
      notes-append (lines_of_note v names all n) (flat_map (lines_of_note v names all) notes) ∙ ap₂ (λ a b. a ++ b) (own-note n) (own-notes notes)

  -- the lines of a trace show its notes
  pub trace-notes : (s : Scheduler) (g : GovernorKind) (ticks : ℕ) (tasks : List (List ℕ))
      → notes_of_lines (trace_lines v s g ticks names tasks all) ≡ all
  trace-notes s g ticks tasks =
      notes-append (head_lines v s g ticks tasks) (note_lines v names all) ∙ ap₂ (λ a b. a ++ b) (notes-tasks v tasks) (own-notes all)
