use Rattle.std.proofs.Common.{List, take, sym, subst}
use Rattle.std.specs.List.{AllByRecursion}
use Rattle.std.proofs.lemmas.List.{take_more, take_all, at_drop_more}
use Rattle.dvs_base.specs.declared.limits.TheConstants.{MOST_TASKS}
use Rattle.dvs_base.specs.declared.note.Note.{Note}
use Rattle.dvs_base.specs.declared.note.Note.TheVariants.{End}
use Rattle.trace_reader.specs.declared.line.Item.TheVariants.{Told}
use Rattle.trace_reader.specs.Items.{HasTaskBelow}
use Rattle.trace_reader.specs.Sums.{HasSums}
use Rattle.trace_reader.proofs.shares.task_energies.Goals as goal

pub loop-note-preserved : goal.loop-note-preserved
loop-note-preserved c =
    let notes = c.args.notes.now in
    let i = c.loop-note.note-index in
    let next = at_drop_more (λ (l : List Note). l) notes i (End 0 0 0) c.loop-note-test.true in
    record {
      tasks = (subst (AllByRecursion (λ n. HasTaskBelow MOST_TASKS (Told n))) next c.loop-note.invariant.tasks).1;
      sums = subst (λ (ns : List Note). HasSums ns c.add.new.self.sums) (sym (take_more notes i _ c.loop-note-test.true))
          (c.add.ensures (take i notes) c.loop-note.invariant.sums);
    }

pub returns : goal.returns
returns c i lt below =
    let all = take_all c.loop-note.note-index c.args.notes.now c.loop-note-test.false in
    c.energies.ensures c.args.notes.now i (subst (λ (ns : List Note). HasSums ns c.loop-note.shares.sums) all c.loop-note.invariant.sums) lt below
