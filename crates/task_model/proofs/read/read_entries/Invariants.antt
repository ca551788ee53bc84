use Rattle.std.proofs.Common.{◌≡◌, [], drop, vec_len}
use Rattle.toml.specs.View.{items_view}
use Rattle.task_model.specs.Limits.{AreTasks}
use Rattle.task_model.specs.TaskFile.{tasks_from}
use Rattle.task_model.proofs.read.read_entries.Given as goal

-- the tasks so far, followed by the entries that are left, give what all the entries give
abbrev pub invariant-loop-entry : goal.invariant-loop-entry
invariant-loop-entry l = record {
  count : vec_len l.tasks ≡ l.entry-index;
  limits : AreTasks l.tasks.items;
  rest : tasks_from [] (items_view l.entries) ≡ tasks_from l.tasks.items (items_view (drop l.entry-index l.entries));
}
