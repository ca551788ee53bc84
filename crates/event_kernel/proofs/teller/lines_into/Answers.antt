use Rattle.std.proofs.Common.{◌≡◌, ℕ, List, [], ◌∷◌, ◌++◌, ◌∙◌, ap, map, length, subst, sym, refl}
use Rattle.std.specs.Prelude.{IfOk}
use Rattle.dvs_base.specs.declared.note.Note.TheVariants.{End}
use Rattle.dvs_base.specs.declared.note.Totals.{Totals}
use Rattle.grid_fraction.specs.Numbers.{list_below}
use Rattle.sched_model.specs.Plan.{count, names}
use Rattle.sched_model.specs.Totals.{totals_of}
use Rattle.sched_model.proofs.Schedules.{length-list_below}
use Rattle.trace_text.specs.TraceText.{NotedLine, line_of_note, task_energy, head_lines}
use Rattle.trace_writer.specs.RunText.{task_texts}
use Rattle.trace_writer.specs.declared.write.Head.{Head}
use Rattle.trace_writer.specs.UnnotedLines.{sum_lines}
use Rattle.event_kernel.specs.SpanNotes.{notes_before_end_of}
use Rattle.event_kernel.proofs.RunAccount.{booked-tasks, booked-totals}
use Rattle.event_kernel.proofs.Tellers.{heard-written, balked-written}
use Rattle.event_kernel.proofs.RunLines.{told-lines, whole-lines, few-of}
use Rattle.trace_writer.proofs.WrittenLines.{writes-then, lines-then-some, lines-as, some-as, lines-some-more, stopped-exit}
use Rattle.event_kernel.proofs.teller.lines_into.Goals as goal

pub tell_tail-requires : goal.tell_tail-requires
tell_tail-requires g c =
    let r = c.args.kernel in
    ap (λ (es : List ℕ). length es) (booked-tasks r.plan c.in_ok-account.account _ c.in_ok-account.ensures.booked)
    ∙ (length-list_below (count r.plan) _ ∙ ap count (sym c.requires.plan))

pub returns-clause-totals : goal.returns-clause-totals
returns-clause-totals g c =
    subst (λ (t : Totals). IfOk c.tell_tail.result (λ x. x ≡ t)) c.in_ok-account.ensures.account_totals c.tell_tail.ensures.totals

pub returns-clause-few : goal.returns-clause-few
returns-clause-few g c =
    few-of c.tell_tail.result c.in_ok-account.account.totals c.in_ok-account.ensures.few c.tell_tail.ensures.totals

-- the lines of a head
abbrev head : Head → List NotedLine
head h = head_lines h.version h.plan.now.scheduler h.governor h.ticks (task_texts h.plan.now)

pub returns-clause-writes : goal.returns-clause-writes
returns-clause-writes g c =
    let r = c.args.kernel in
    let h = c.args.head in
    let a = c.args.teller.now in
    let s = c.in_ok-account.account in
    let booked = c.in_ok-account.ensures.booked in
    let notes =
    told-lines g.G.Governor.demand r h.version a.names.now h.plan.now h.ticks s.by_task s.totals
    c.scheduler-admitted.ensures.admitted c.requires.names c.requires.plan c.requires.ticks
    (booked-tasks r.plan s _ booked) (booked-totals r.plan s _ booked) in
    lines-as _ _ c.tell_tail.result (whole-lines g.G.Governor.demand r h.version h.governor c.requires.plan c.requires.ticks notes)
    (writes-then _ (head h) _ c.tell_tail.result (c.in_ok-put_head.ensures _)
    (writes-then _ (map (line_of_note a.names.now) (notes_before_end_of g.G.Governor.demand r))
    (sum_lines h.version h.plan.now s.by_task ++ line_of_note (names h.plan.now) (End h.ticks s.totals.run s.totals.idle) ∷ []) c.tell_tail.result
    (heard-written g.W.Sink.shows g.P.Probe.seen _ _ c.spans.new.to c.in_ok-account.ensures.told.0).0 c.tell_tail.ensures.writes_tail))

pub returns-in_err-account-clause-writes : goal.returns-in_err-account-clause-writes
returns-in_err-account-clause-writes g c =
    let r = c.args.kernel in
    let h = c.args.head in
    let a = c.args.teller.now in
    let before = notes_before_end_of g.G.Governor.demand r in
    let es : List ℕ = list_below (count r.plan) (task_energy before) in
    let t : Totals = totals_of before in
    let notes =
    told-lines g.G.Governor.demand r h.version a.names.now h.plan.now h.ticks es t
    c.scheduler-admitted.ensures.admitted c.requires.names c.requires.plan c.requires.ticks refl refl in
    stopped-exit c.from_residual-in_err-account.result c.from_residual-in_err-account.ensures.0
    (some-as (whole-lines g.G.Governor.demand r h.version h.governor c.requires.plan c.requires.ticks notes)
    (lines-then-some (head h) _ (c.in_ok-put_head.ensures _)
    (lines-some-more (map (line_of_note a.names.now) before)
    (sum_lines h.version h.plan.now es ++ line_of_note (names h.plan.now) (End h.ticks t.run t.idle) ∷ [])
    (balked-written g.W.Sink.shows g.P.Probe.seen _ _ c.spans.new.to c.in_err-account.ensures.told.0).0)))

pub returns-in_err-put_head-clause-writes : goal.returns-in_err-put_head-clause-writes
returns-in_err-put_head-clause-writes g c =
    let r = c.args.kernel in
    let h = c.args.head in
    stopped-exit c.from_residual.result c.from_residual.ensures.0
    (some-as (whole-lines g.G.Governor.demand r h.version h.governor c.requires.plan c.requires.ticks refl)
    (lines-some-more (head h) _ (c.in_err-put_head.ensures _)))

pub returns-clause-same : goal.returns-clause-same
returns-clause-same g c =
    let same = (heard-written g.W.Sink.shows g.P.Probe.seen _ _ c.spans.new.to c.in_ok-account.ensures.told.0).1 in (same.out, same.probes)

pub returns-in_err-account-clause-same : goal.returns-in_err-account-clause-same
returns-in_err-account-clause-same g c =
    let same = (balked-written g.W.Sink.shows g.P.Probe.seen _ _ c.spans.new.to c.in_err-account.ensures.told.0).1 in (same.out, same.probes)
