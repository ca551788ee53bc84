use Rattle.std.proofs.Common.{List, ◌∷◌, ◌++◌, [], length, ap, arith, sym, ◌∙◌, length-append}
use Rattle.dvs_base.specs.declared.note.Note.{Note}
use Rattle.event_kernel.proofs.SpanBuffer.{kept_notes-all, kept_notes-full}
use Rattle.event_kernel.proofs.notes.SpanNotes.push.Goals as goal

pub returns-else-len-lt-MOST_NOTES : goal.returns-else-len-lt-MOST_NOTES
returns-else-len-lt-MOST_NOTES c =
    let long = ap length c.self.view_is in
    kept_notes-full c.args.self.now (c.args.note ∷ []) (omega (arith, long, c.self.invariant.few))
    (omega (arith, long, c.len.ensures, c.if-len-lt-MOST_NOTES.false))

pub returns-then-len-lt-MOST_NOTES : goal.returns-then-len-lt-MOST_NOTES
returns-then-len-lt-MOST_NOTES c =
    let notes = c.args.self.now in
    let note = c.args.note in
    c.push_reserved.ensures.items ∙ (ap (λ (l : List Note). l ++ note ∷ []) c.self.view_is
    ∙ sym (kept_notes-all (notes ++ note ∷ [])
    (omega (arith, length-append notes (note ∷ []), ap length c.self.view_is, c.len.ensures, c.if-len-lt-MOST_NOTES.true))))
