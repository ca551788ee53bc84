use Rattle.std.proofs.lemmas.List.{drop_all}
use Rattle.std.proofs.lemmas.List.Elements.{All-from_recursion}
use Rattle.sched_model.specs.Plan.{count}
use Rattle.replay_laws.specs.OwnList.{IsFit}
use Rattle.replay.specs.Replays.{NamesTask}
use Rattle.replay.proofs.FixedByNotes.{drop-next, over-fit, fixed-none, fixed-next, fixed-whole}
use Rattle.replay.proofs.ends.fixed_demands.Goals as goal

pub fix-requires-clause-task : goal.fix-requires-clause-task
fix-requires-clause-task c =
    All-from_recursion (NamesTask (count c.args.plan.now)) c.args.notes.now c.requires.tasks
    c.loop-note.note-index _ c.loop-note-test.true

pub fix-requires-clause-fit : goal.fix-requires-clause-fit
fix-requires-clause-fit c =
    let p = c.args.plan.now in
    let notes = c.args.notes.now in
    All-from_recursion (IsFit p) notes (over-fit p notes c.requires.fit) c.loop-note.note-index _ c.loop-note-test.true

pub loop-note-init : goal.loop-note-init
loop-note-init c = record {
  list = c.in_ok-demands.ensures.list;
  rows = fixed-none c.args.plan.now c.args.notes.now c.in_ok-demands.demands c.in_ok-demands.ensures.rows;
}

pub loop-note-preserved : goal.loop-note-preserved
loop-note-preserved c =
    let notes = c.args.notes.now in
    let next = drop-next notes c.loop-note.note-index _ c.loop-note-test.true in
    record {
      list = c.in_ok-fix.ensures.list;
      rows = fixed-next c.args.plan.now notes c.loop-note.note-index _ c.loop-note.demands c.fix.new.demands next
          c.loop-note.invariant.rows c.in_ok-fix.ensures.rows;
    }

pub returns-clause-fixed : goal.returns-clause-fixed
returns-clause-fixed c =
    fixed-whole c.args.plan.now c.args.notes.now c.loop-note.note-index c.loop-note.demands
    (drop_all c.loop-note.note-index c.args.notes.now c.loop-note-test.false) c.loop-note.invariant.rows
