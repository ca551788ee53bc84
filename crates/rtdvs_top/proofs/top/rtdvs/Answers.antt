use Rattle.std.proofs.Common.{List, [], Option, Some, None, Ok, Err, map, refl, sym, subst, ap, rules}
use Rattle.dvs_base.specs.Outside.{Files, ShelfView, SinkView}
use Rattle.probes.specs.Tallies.{ProbeView}
use Rattle.words.specs.Shown.{shown_command}
use Rattle.words.specs.declared.command.WordFault.{WordFault}
use Rattle.statuses.specs.Noted.{NotedAs}
use Rattle.statuses.specs.Status.{CountsPuts}
use Rattle.statuses.specs.StatusLines.{status_text}
use Rattle.statuses.specs.declared.status.Status.TheVariants as status
use Rattle.command_files.specs.GivenFiles.{Known}
use Rattle.command_files.proofs.GivenAsFiles.{some-held}
use Rattle.rtdvs_top.specs.Promised.{Promised, outside_of}
use Rattle.rtdvs_top.proofs.TasksFirst.{none-made}
use Rattle.rtdvs_top.proofs.StepAnswers.{answers-of, not-words, sure-of, writes-of, parts-of, counts-puts, loads-sure}
use Rattle.rtdvs_top.proofs.StatusNotes.{puts-notes}
use Rattle.rtdvs_top.proofs.Headlines.{proves-run, done-or-denied}
use Rattle.rtdvs_top.proofs.AdmittedPlans.{admits-by-test}
use Rattle.rtdvs_top.proofs.Exactness.{accepts-texts}
use Rattle.rtdvs_top.proofs.Pollings.{proves-poll}
use Rattle.rtdvs_top.proofs.LeastBounds.{proves-least}
use Rattle.rtdvs_top.proofs.top.rtdvs.Goals as goal

pub returns : goal.returns
returns g c =
    let call = c.answer_command-status in
    let answered = call.ensures.answered in
    let leaves = call.ensures.leaves in
    let old = g.S.Shelf.shows c.args.shelf.now in
    let new = g.S.Shelf.shows call.new.shelf in
    let out = g.W.Sink.shows c.args.out.now in
    let read = sym c.in-Ok.ensures.read in
    let any = answered None tt in
    let command = shown_command c.in-Ok.command in
    let puts : CountsPuts out.faults (g.W.Sink.shows call.new.out).faults call.result.0 =
    counts-puts g.W.Sink.shows None command call.result.0 c.args.out.now _ any.ended leaves in
    let before : List ProbeView = map (λ b. (goal.Probe-dyn g (b.vtable, b.value)).seen b.value) c.args.probes.now.items in
    let ps : List ProbeView = map (λ b. (goal.Probe-dyn g (b.vtable, b.value)).seen b.value) call.new.probes.items in
    let promised : (files : Option Files) → Known files old new → Promised (Ok command)
    (outside_of old out (g.E.Sink.shows c.args.notes.now) before)
    (outside_of new (g.W.Sink.shows call.new.out) (g.E.Sink.shows c.note_end.new.notes) ps) call.result.0 files =
    λ files known.
    let e = answered files known in
    let answers = answers-of files command old new _ _ _ known e.ended e.failed in
    let run = proves-run _ _ _ _ _ e.ended e.met in
    record {
      answers = answers;
      load = e.failed;
      done = λ done. writes-of _ _ _ _ _ e.ended done;
      part = λ failed. parts-of _ _ _ _ _ e.ended failed;
      headline = done-or-denied _ _ _ _ _ run e.tested answers;
      run = run;
      admitted = admits-by-test _ _ _ _ _ e.ended e.met;
      exact = accepts-texts _ _ _ _ _ e.met answers;
      tested = e.tested;
      polled = proves-poll _ _ _ e.met;
      least = proves-least _ _ _ _ _ e.ended e.met;
      notes = puts-notes _ _ _ _ ps _ _ _ _ _ c.asks_probes.ensures c.as_ref.ensures.value
          (ap (map (λ b. (goal.Probe-dyn g (b.vtable, b.value)).seen b.value)) c.deref.ensures.value) e.named c.note_end.ensures;
      told = e.told;
      shelf = e.loads;
      sure = sure-of g.W.Sink.shows _ _ call.result.0 c.args.out.now _ e.ended leaves;
    } in
    record {
      promised = λ files known. rw read (promised (Some files) known);
      agree = some-held _ old new any.loads.gave;
      any_files = rw read (promised None tt);
      words = rw read (λ why. (λ same. absurd (not-words None command _ _ _ why any.ended same), λ same. absurd (cc)));
      write = λ failed. (subst (CountsPuts out.faults (g.W.Sink.shows call.new.out).faults) failed puts).0;
      shown = any.shown;
      leaves = leaves;
      kept = rw read call.ensures.kept;
      load_count = any.counts;
      put_count = puts;
      sure_loads = rw read (loads-sure None command old new any.loads);
    }

-- refused words load nothing, write nothing, and promise nothing else
refused : (why : WordFault) (shelf : ShelfView) (out old new : SinkView) (before after : List ProbeView) (files : Option Files)
    → NotedAs old new (status_text [] (status.Words why))
    → Promised (Err why) (outside_of shelf out old before) (outside_of shelf out new after) (status.Words why) files
refused why shelf out old new before after files notes = record {
  answers = refl;
  load = tt;
  done = λ done. tt;
  part = λ failed. tt;
  headline = tt;
  run = tt;
  admitted = tt;
  exact = tt;
  tested = tt;
  polled = tt;
  least = tt;
  notes = notes;
  told = tt;
  shelf = none-made shelf;
  sure = λ sure. refl;
}

pub returns-in-Err-clause-promised : goal.returns-in-Err-clause-promised
returns-in-Err-clause-promised g c files known =
    rw (sym c.in-Err.ensures.read) (refused _ _ _ _ _ _ _ (Some files) (search rules))

pub returns-in-Err-clause-agree : goal.returns-in-Err-clause-agree
returns-in-Err-clause-agree g c distinct =
    let shelf = g.S.Shelf.shows c.args.shelf.now in some-held _ shelf shelf (none-made shelf).gave distinct

pub returns-in-Err-clause-any_files : goal.returns-in-Err-clause-any_files
returns-in-Err-clause-any_files g c = rw (sym c.in-Err.ensures.read) (refused _ _ _ _ _ _ _ None (search rules))
