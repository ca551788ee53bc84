use Rattle.std.proofs.Common.{◌≡◌, List, [], ◌∷◌, ◌++◌, true, false, length, ap, ◌∙◌, sym, subst, if◌then◌else◌, append_assoc}
use Rattle.dvs_base.specs.declared.note.Note.{Note}
use Rattle.dvs_base.specs.declared.note.Note.TheVariants.{Run, Done}
use Rattle.freq_table.specs.Tables.{Table}
use Rattle.sched_model.specs.declared.state.Row.{Row}
use Rattle.sched_model.specs.declared.holder.Holder.{Holder}
use Rattle.sched_model.specs.Notes.{position_of}
use Rattle.sched_model.specs.States.{row_at}
use Rattle.sched_model.proofs.States.{row_read}
use Rattle.energy.specs.Segments.{segment_energy}
use Rattle.event_kernel.specs.SpanNotes.{kept_notes}
use Rattle.event_kernel.specs.Segment.{with_notes, holder_notes, HeldIn}
use Rattle.event_kernel.proofs.SpanBuffer.{kept_notes-append}
use Rattle.event_kernel.proofs.span_trace.SpanTrace.add_run.Goals as goal

pub returns-then-row : goal.returns-then-row
returns-then-row c =
    let p = c.args.moment.plan.now in
    let s = c.args.moment.state.now in
    let force = c.args.moment.force in
    let trace = c.args.self.now in
    let ran : Note = Run c.position.result c.position-end.result c.args.task c.args.job trace.segment.units c.energy_of.result in
    let done : Note = Done c.position-end.result c.args.task c.args.job c.index-row.result.now.used in
    let row : c.index-row.result.now ≡ row_at s c.args.task = row_read s _ c.args.task c.index-row.result.now
    c.state.view_is (subst (λ (h : Holder). HeldIn (length s.rows) h) c.requires.held c.requires.can.task) c.index-row.ensures in
    let energy = c.energy_of.ensures.value ∙ ap (λ (m : Table). segment_energy m force.index trace.segment.units false) c.machine.ensures.machine in
    let ended : true ≡ (row_at s c.args.task).done = sym c.if-row.true ∙ ap (λ (r : Row). r.done) row in
    let used = ap (λ (r : Row). r.used) row in
    ap (λ (ns : List Note). record { segment = trace.segment; notes = ns })
    (c.push-then-row.ensures
    ∙ (ap (λ (ns : List Note). kept_notes (ns ++ done ∷ [])) c.push.ensures
    ∙ (kept_notes-append (trace.notes ++ ran ∷ []) (done ∷ [])
    ∙ ap kept_notes (append_assoc trace.notes (ran ∷ []) (done ∷ [])))))
    ∙ ap (λ ns. with_notes trace ns)
    ((λ j. Run (c.position.ensures j) (c.position-end.ensures j) c.args.task c.args.job trace.segment.units (energy j)
    ∷ (if ended j then Done (c.position-end.ensures j) c.args.task c.args.job (used j) ∷ [] else []))
    ∙ ap (λ (h : Holder). holder_notes p s (position_of force.from force.speed) force.index trace.segment.start trace.segment.units h)
    (sym c.requires.held))
