use Rattle.std.proofs.lemmas.List.Elements.{All-from_recursion}
use Rattle.sched_model.specs.Plan.{count}
use Rattle.replay.specs.Replays.{NamesTask}
use Rattle.replay.proofs.ends.first_over.Goals as goal

pub over_in-requires : goal.over_in-requires
over_in-requires c =
    All-from_recursion (NamesTask (count c.args.plan.now)) c.args.notes.now c.requires
    c.loop-note.note-index _ c.loop-note-test.true
