use Rattle.std.proofs.Common.{◌≡◌, ◌-◌, ℕ, List, ◌∷◌, length, ap, ◌∙◌, sym, arith}
use Rattle.std.specs.Prelude.{Option, Some, None, Ok}
use Rattle.dvs_base.specs.declared.note.Note.{Note}
use Rattle.dvs_base.specs.declared.note.Totals.{Totals}
use Rattle.sched_model.specs.Plan.{count}
use Rattle.event_kernel.specs.Runs.{notes_of_run}
use Rattle.trace_reader.specs.Traces.{TraceView}
use Rattle.replay.specs.Comparison.{differs}
use Rattle.replay.specs.declared.compared.Compared.{Compared}
use Rattle.replay.proofs.ComparedNotes.{stopped-compared, compared-same, run-same, run-stopped}
use Rattle.replay.proofs.check.compare.Goals as goal

-- the notes of the trace that are left, and the note heard in place of the next one
abbrev rest : Compared → List Note
rest a = a.rest.now

abbrev wanted : Compared → Option Note
wanted a = a.wanted

pub differs-requires-clause-some : goal.differs-requires-clause-some
differs-requires-clause-some g c =
    let from : Compared = record { rest = c.deref.result; wanted = None; stops = 0 } in
    let t : TraceView = c.args.trace.now in
    let notes : rest from ≡ t.notes = c.deref.ensures.value ∙ ap (λ (t : TraceView). t.notes) c.trace.view_is in
    let stopped = run-stopped rest wanted g.G.Governor.demand c.args.kernel t c.requires.ended from c.drive.new.to notes c.in_default.ensures.broke_off in
    let long : length (rest c.drive.new.to) ≡ length (stopped.found ∷ stopped.more) = ap length stopped.finds in
    omega (arith, long)

pub unreachable-requires : goal.unreachable-requires
unreachable-requires g c =
    let from : Compared = record { rest = c.deref.result; wanted = None; stops = 0 } in
    let t : TraceView = c.args.trace.now in
    let notes : rest from ≡ t.notes = c.deref.ensures.value ∙ ap (λ (t : TraceView). t.notes) c.trace.view_is in
    let stopped = run-stopped rest wanted g.G.Governor.demand c.args.kernel t c.requires.ended from c.drive.new.to notes c.in_default.ensures.broke_off in
    let both : None ≡ Some stopped.want = sym c.in-None.is ∙ stopped.wants in
    cc

pub returns-in-Ok : goal.returns-in-Ok
returns-in-Ok g c =
    let from : Compared = record { rest = c.deref.result; wanted = None; stops = 0 } in
    let t : TraceView = c.args.trace.now in
    let notes : rest from ≡ t.notes = c.deref.ensures.value ∙ ap (λ (t : TraceView). t.notes) c.trace.view_is in
    let same = run-same rest wanted g.G.Governor.demand c.args.kernel t c.requires.ended from c.drive.new.to notes c.in-Ok.ensures.ran in
    ap (λ (totals : Totals). Ok totals) c.in-Ok.ensures.totals
    ∙ sym (compared-same (count c.args.plan.now) t (notes_of_run g.G.Governor.demand c.args.kernel) same)

pub returns : goal.returns
returns g c =
    let from : Compared = record { rest = c.deref.result; wanted = None; stops = 0 } in
    let to : Compared = c.drive.new.to in
    let t : TraceView = c.args.trace.now in
    let notes : rest from ≡ t.notes = c.deref.ensures.value ∙ ap (λ (t : TraceView). t.notes) c.trace.view_is in
    let stopped = run-stopped rest wanted g.G.Governor.demand c.args.kernel t c.requires.ended from to notes c.in_default.ensures.broke_off in
    let place = length t.notes - length (rest to) in
    stopped-compared rest wanted (count c.args.plan.now) t from (notes_of_run g.G.Governor.demand c.args.kernel) to
    c.in-Some.wanted c.differs.result notes stopped c.in-Some.is
    (λ found more is. c.differs.ensures found more is
    ∙ ap (λ (tasks : ℕ). differs tasks t place c.in-Some.wanted found) c.count.ensures.count)
